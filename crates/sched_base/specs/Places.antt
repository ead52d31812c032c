-- Placing: which pack of level 0 each processor holds, tick by tick. Packs are numbered in their order, processors from 0.
use Rattle.std.specs.Prelude.{ℕ, suc, ◌&&◌, not, Bool, true, false, List, [], ◌∷◌, map, filter, find, length, replicate, Option, Some}
use Rattle.std.specs.Prelude.{None, slice_index_or}
use Rattle.std.specs.List.{range_with_len, list_any}
use Rattle.sched_base.specs.Candidates.{is_at}

-- the pack on each processor, and the processor that each pack held last
pub record Placing : Type 0 where
  -- the pack on each processor
  pub onto : List (Option ℕ)
  -- the processor that each pack held last
  pub last : List (Option ℕ)

-- nothing was placed yet
abbrev pub unplaced : ℕ → ℕ → Placing
unplaced packs processors = record { onto = replicate processors None; last = replicate packs None }

-- whether pack i runs
abbrev pub is_running : List Bool → ℕ → Bool
is_running runs i = slice_index_or runs i false

-- whether some processor holds pack i
abbrev pub is_held : List (Option ℕ) → ℕ → Bool
is_held onto i = list_any (λ o. is_at o i) onto

-- a pack that runs on keeps its processor
abbrev pub kept : List Bool → Option ℕ → Option ℕ
kept runs None = None
kept runs (Some i) = elim (is_running runs i) [ true ↦ Some i | false ↦ None ]

-- whether pack i runs, kept no processor, and held processor p last
abbrev pub comes_back : List Bool → List (Option ℕ) → List (Option ℕ) → ℕ → ℕ → Bool
comes_back runs last onto p i = is_running runs i && (not (is_held onto i) && is_at (slice_index_or last i None) p)

-- each free processor, from number p on, goes to the first pack that comes back to it
abbrev pub returned : List Bool → List (Option ℕ) → List (Option ℕ) → ℕ → List (Option ℕ) → List (Option ℕ)
returned runs last onto p [] = []
returned runs last onto p (Some i ∷ os) = Some i ∷ returned runs last onto (suc p) os
returned runs last onto p (None ∷ os) = find (comes_back runs last onto p) (range_with_len 0 (length runs)) ∷ returned runs last onto (suc p) os

-- the packs that run and hold no processor, in order
abbrev pub waiting : List Bool → List (Option ℕ) → List ℕ
waiting runs onto = filter (λ i. is_running runs i && not (is_held onto i)) (range_with_len 0 (length runs))

-- the waiting packs take the free processors, the lowest first
abbrev pub filled : List (Option ℕ) → List ℕ → List (Option ℕ)
filled [] packs = []
filled (Some i ∷ os) packs = Some i ∷ filled os packs
filled (None ∷ os) [] = None ∷ filled os []
filled (None ∷ os) (i ∷ packs) = Some i ∷ filled os packs

-- the free processors filled with the packs that still wait
abbrev pub filled_up : List Bool → List (Option ℕ) → List (Option ℕ)
filled_up runs onto = filled onto (waiting runs onto)

-- the same, once each pack that can has come back
abbrev pub back_and_filled : List Bool → List (Option ℕ) → List (Option ℕ) → List (Option ℕ)
back_and_filled runs last onto = filled_up runs (returned runs last onto 0 onto)

-- the pack on each processor one tick later: kept, then come back, then filled up
unfoldable pub onto_next : List Bool → Placing → List (Option ℕ)
onto_next runs places = back_and_filled runs places.last (map (kept runs) places.onto)

-- the first processor, from number p on, that holds pack i; where there is none, the one before
abbrev pub holder_from : ℕ → List (Option ℕ) → ℕ → Option ℕ → Option ℕ
holder_from p [] i before = before
holder_from p (o ∷ os) i before = elim (is_at o i) [ true ↦ Some p | false ↦ holder_from (suc p) os i before ]

-- the processor that each of n packs held last
abbrev pub last_next : List (Option ℕ) → List (Option ℕ) → ℕ → List (Option ℕ)
last_next onto last n = map (λ i. holder_from 0 onto i (slice_index_or last i None)) (range_with_len 0 n)

-- the places after one more tick at which these packs run
abbrev pub place : List Bool → Placing → Placing
place runs places = record {
  onto = onto_next runs places;
  last = last_next (onto_next runs places) places.last (length runs);
}
