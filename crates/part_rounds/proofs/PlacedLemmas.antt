-- Packs of level 0 are placed by what each shows.
use Rattle.std.proofs.Common.{◌≡◌, ◌≢◌, ℕ, zero, suc, ◌+◌, ◌<◌, ◌≤◌, ◌⊎◌, ◌&&◌, not, inl, inr, Bool, true, false, List, [], ◌∷◌, length}
use Rattle.std.proofs.Common.{length-append, set, length-set, get_or, get_or-set_same, get_or-set_other, replicate, Option, None, Some, refl, sym, ap}
use Rattle.std.proofs.Common.{ap₂, subst, ◌∙◌, arith}
use Rattle.std.proofs.lemmas.Bool.{both_ways, cases_eq}
use Rattle.std.proofs.lemmas.List.{length-replicate}
use Rattle.std.specs.List.{AllByRecursion}
use Rattle.sched_base.specs.declared.rows.Leaf.{Leaf}
use Rattle.sched_base.specs.declared.rows.Leaf.TheVariants.{Empty}
use Rattle.sched_base.specs.declared.rows.Row.{Row}
use Rattle.sched_base.specs.Places.{Placing, is_held, is_running, place, waiting}
use Rattle.sched_base.proofs.HeldLemmas.{free}
use Rattle.sched_base.proofs.ListLemmas.{first_from}
use Rattle.run_tree.specs.Boundaries.{set_boundary}
use Rattle.run_tree.specs.Plans.{IsPlan, PlanContents}
use Rattle.run_tree.specs.Schedule.{leaf_on, onto_at, packs_running}
use Rattle.run_tree.proofs.ScheduleLemmas.{length-running, onto_is}
use Rattle.sched_laws.proofs.PlacedPacks.{full}
use Rattle.hyperperiod_laws.proofs.LaterPlaces.{shown_on_time}
use Rattle.cpu_assign.specs.Changed.{AreChanged, ChangeLists, stopping, with_pack}
use Rattle.cpu_assign.specs.Noted.{IsNoted}
use Rattle.cpu_assign.proofs.MovedLemmas.{moved}
use Rattle.event_core.specs.Cores.{places_of}
use Rattle.event_core.specs.Rounds.{IsRoundUpTo}
use Rattle.event_core.specs.Serving.{IsAmong}
use Rattle.event_core.specs.Told.{AreTold, IsTold}
use Rattle.event_core.proofs.OneRound.{length-last}
use Rattle.event_core.proofs.QuietRounds.{plan_leaves}
use Rattle.event_core.proofs.RowsGone.{as_many, pack_within}
use Rattle.event_core.proofs.SettledPacks.{same_start}
use Rattle.round_looks.specs.Looks.{leaf_at}
use Rattle.merged_rounds.specs.Replays.{AreNotedTo, IsEntryTaken, IsPackOn, packs_of}
use Rattle.merged_rounds.specs.Shown.{is_some}
use Rattle.merged_rounds.proofs.LapLemmas.{leaf_is}
use Rattle.merged_rounds.proofs.ReplayLemmas.{changed_by, few_begun, few_stopped, held_runs, noted_by, noted_none, noted_skip, noted_step, onto_end, places_end}
use Rattle.merged_rounds.proofs.ReplaySteps.{held_some, held_there}
use Rattle.part_rounds.specs.declared.placed.Placed.{Placed}
use Rattle.part_rounds.specs.Placed.{AreShown, IsPlacedUpTo}

-- ---- packs are noted, one after another

set_same : (xs : List (Option Leaf)) (p : ℕ) (x : Option Leaf) → p < length xs → get_or (set xs p x) p None ≡ x
set_same xs p x l = rw get_or-set_same

set_other : (xs : List (Option Leaf)) (p q : ℕ) (x : Option Leaf) → q ≢ p → get_or (set xs p x) q None ≡ get_or xs q None
set_other xs p q x ne = rw get_or-set_other refl

-- the first n packs show this now, and are noted; the others show what they did
pub record AreNotedOf (shows before now : List (Option Leaf)) (n : ℕ) (changes : ChangeLists) : Type 0 where
  pub noted : AreNotedTo before now n changes
  pub each : (k : ℕ) → k < n → get_or now k None ≡ get_or shows k None
  pub later : (k : ℕ) → n ≤ k → get_or now k None ≡ get_or before k None
  pub few : length changes.seen ≤ n
  pub room : changes.room ≡ length before
  pub long : length now ≡ length before

module _ (shows before : List (Option Leaf)) where
  pub noted_first : (c : ChangeLists) → c.seen ≡ [] → c.stopped ≡ [] → c.begun ≡ [] → c.room ≡ length before → AreNotedOf shows before before 0 c
  noted_first c seen stopped begun room =
      let none = ap (λ (xs : List ℕ). length xs) seen in
      record {
        noted = noted_none before before c seen stopped begun;
        each = λ k l. absurd (omega (arith, l));
        later = λ k l. refl;
        few = omega (arith, none);
        room = room;
        long = refl;
      }

  module _ (now : List (Option Leaf)) (n : ℕ) (c : ChangeLists) (a : AreNotedOf shows before now n c) (l : n < length before) where
    pub room_seen : length c.seen < c.room
    room_seen = let s = a.few in let r = a.room in omega (arith, s, r, l)

    pub room_stopped : length c.stopped < c.room
    room_stopped = let s = few_stopped before now n c a.noted in let r = a.room in omega (arith, s, r, l)

    pub room_begun : length c.begun < c.room
    room_begun = let s = few_begun before now n c a.noted in let r = a.room in omega (arith, s, r, l)

    module _ (now' : List (Option Leaf)) (set_is : now' ≡ set now n (get_or shows n None)) where
      here : get_or now' n None ≡ get_or shows n None
      here = ap (λ (xs : List (Option Leaf)). get_or xs n None) set_is ∙ set_same now n (get_or shows n None) (let e = a.long in omega (arith, l, e))

      other : (k : ℕ) → k ≢ n → get_or now' k None ≡ get_or now k None
      other k ne = ap (λ (xs : List (Option Leaf)). get_or xs k None) set_is ∙ set_other now n k (get_or shows n None) ne

      below : (k : ℕ) → k < n → get_or now' k None ≡ get_or now k None
      below k m = other k (λ e. omega (arith, e, m))

      was : get_or now n None ≡ get_or before n None
      was = a.later n (omega arith)

      each_on : (k : ℕ) → k < n + 1 → get_or now' k None ≡ get_or shows k None
      each_on k m = elim (cases_eq k n) [
        | inl e ↦ ap (λ i. get_or now' i None) e ∙ here ∙ ap (λ i. get_or shows i None) (sym e)
        | inr ne ↦ other k ne ∙ a.each k (omega (arith, m, ne))
      ]

      later_on : (k : ℕ) → n + 1 ≤ k → get_or now' k None ≡ get_or before k None
      later_on k m = other k (λ e. omega (arith, e, m)) ∙ a.later k (omega (arith, m))

      long_on : length now' ≡ length before
      long_on = ap (λ (xs : List (Option Leaf)). length xs) set_is ∙ length-set now n (get_or shows n None) ∙ a.long

      still_below : AreNotedTo before now' n c
      still_below = noted_by before now now' n c below a.noted

      pub noted_more : (c' : ChangeLists) → IsEntryTaken now n (get_or shows n None) c c' → c'.room ≡ c.room → AreNotedOf shows before now' (n + 1) c'
      noted_more c' (inl (same, still)) room = record {
        noted = subst (λ (d : ChangeLists). AreNotedTo before now' (n + 1) d) (sym still)
            (noted_skip before now' n (n + 1) c (omega arith) (λ k low high. (let e : k ≡ n = omega (arith, low, high) in ap (λ i. get_or now' i None) e
            ∙ here ∙ same ∙ was ∙ ap (λ i. get_or before i None) (sym e))) still_below);
        each = each_on;
        later = later_on;
        few = (let s = a.few in let e = ap (λ (d : ChangeLists). length d.seen) still in omega (arith, s, e));
        room = room ∙ a.room;
        long = long_on;
      }
      noted_more c' (inr listed) room = record {
        noted = noted_step before now' n c c' listed.seen
            (listed.stopped ∙ ap₂ (λ (x y : Bool). with_pack c.stopped n (not x && y)) (ap is_some (sym here)) (ap is_some was))
            (listed.begun ∙ ap₂ (λ (x y : Bool). with_pack c.begun n (x && not y)) (ap is_some (sym here)) (ap is_some was)) still_below;
        each = each_on;
        later = later_on;
        few =
            let s = a.few in
            let e = ap (λ (xs : List ℕ). length xs) listed.seen in
            let f = length-append c.seen (n ∷ []) in
            omega (arith, s, e, f);
        room = room ∙ a.room;
        long = long_on;
      }

-- ---- before tick 0

none_held : (n k : ℕ) → is_held (replicate n None) k ≡ false
none_held zero k = refl
none_held (suc n) k = none_held n k

-- nothing is told of any of n packs
abbrev pub no_leaves : ℕ → List (Option Leaf)
no_leaves n = replicate n None

none_at : (n k : ℕ) → get_or (no_leaves n) k None ≡ None
none_at zero k = refl
none_at (suc n) zero = refl
none_at (suc n) (suc k) = none_at n k

-- no pack is placed
pub placed_first : (p : PlanContents) (r : Placed) → AllByRecursion (λ t. t.offset ≡ 0) p.set.tasks → r.places ≡ places_of p 0 → r.changes.room ≡ packs_of p
    → r.before.items ≡ no_leaves (packs_of p) → IsPlacedUpTo p 0 r
placed_first p r on_time places room none = record {
  on_time = on_time;
  places = places;
  shown = λ start up. absurd (let a = up.above in omega (arith, a));
  held = λ k l. ap (λ (w : Placing). is_held w.onto k) places ∙ none_held p.tree.processors k
      ∙ ap is_some (sym (none_at (packs_of p) k)) ∙ ap (λ (xs : List (Option Leaf)). is_some (get_or xs k None)) (sym none);
  room = room;
  long = ap (λ (xs : List (Option Leaf)). length xs) none ∙ length-replicate {A = Option Leaf} (packs_of p) None;
}

-- ---- a round

-- a processor that isn't free holds a pack
pack_there : (os : List (Option ℕ)) (q : ℕ) → free os ≡ 0 → q < length os → (i : ℕ) × (get_or os q None ≡ Some i)
pack_there [] q none l = absurd (omega (arith, l))
pack_there (None ∷ os) q none l = absurd (omega (arith, none))
pack_there (Some i ∷ os) zero none l = (i, refl)
pack_there (Some i ∷ os) (suc q) none l = pack_there os q none (omega (arith, l))

-- an item is among these or isn't
among_behind : (x : ℕ) (xs : List ℕ) (y : ℕ) → (x ≡ y → ⊥) → (IsAmong xs y → ⊥) → IsAmong (x ∷ xs) y → ⊥
among_behind x xs y ne away (zero, l, e) = ne e
among_behind x xs y ne away (suc k, l, e) = away (k, omega (arith, l), e)

among_more : (x : ℕ) (xs : List ℕ) (y : ℕ) → (x ≡ y → ⊥) → IsAmong xs y ⊎ (IsAmong xs y → ⊥) → IsAmong (x ∷ xs) y ⊎ (IsAmong (x ∷ xs) y → ⊥)
among_more x xs y ne (inl (k, l, e)) = inl (suc k, omega (arith, l), e)
among_more x xs y ne (inr away) = inr (among_behind x xs y ne away)

among_or : (xs : List ℕ) (y : ℕ) → IsAmong xs y ⊎ (IsAmong xs y → ⊥)
among_or [] y = inr (λ m. (let l = m.1 in absurd (omega (arith, l))))
among_or (x ∷ xs) y = elim (cases_eq x y) [
  | inl e ↦ inl (0, omega arith, e)
  | inr ne ↦ among_more x xs y ne (among_or xs y)
]

item_within : (xs : List (Option ℕ)) (i q : ℕ) → get_or xs i None ≡ Some q → i < length xs
item_within [] i q e = cc
item_within (x ∷ xs) zero q e = omega arith
item_within (x ∷ xs) (suc i) q e = let l = item_within xs i q e in omega (arith, l)

not_stopped : (a b : Bool) → a ≡ b → (not a && b) ≡ false
not_stopped true b e = refl
not_stopped false b e = sym e

not_begun : (a b : Bool) → a ≡ b → (a && not b) ≡ false
not_begun false b e = refl
not_begun true b e = ap not (sym e)

module _ (p : PlanContents) (start : ℕ) (r : Placed) (b : IsPlacedUpTo p start r) where
  pub last_packs : length r.places.last ≡ packs_of p
  last_packs = ap (λ (w : Placing). length w.last) b.places ∙ length-last p start

  pub last_long : length r.places.last ≡ length (packs_running (set_boundary p.set.tasks) p.tree start)
  last_long = last_packs ∙ sym (length-running (set_boundary p.set.tasks) p.tree start)

module _ (p : PlanContents) (h : IsPlan p) (start : ℕ) (r : Placed) (b : IsPlacedUpTo p start r) (shows : List (Option Leaf)) (are : AreShown p start shows)
    (now : List (Option Leaf))
    (is : (k : ℕ) → k < length shows → get_or now k None ≡ get_or shows k None) (changes : ChangeLists) (noted_to : AreNotedTo r.before.items now
    (length r.before.items) changes) where
  abbrev rs : List Bool
  rs = packs_running (set_boundary p.set.tasks) p.tree start

  now_on : (k : ℕ) → k < packs_of p → IsPackOn p start k (get_or now k None)
  now_on k m = subst (λ (o : Option Leaf). IsPackOn p start k o) (sym (is k (let e = are.long in omega (arith, m, e)))) (are.each k m)

  running_now : (k : ℕ) → k < packs_of p → is_running rs k ≡ is_some (get_or now k None)
  running_now k m = sym (held_runs p h start k) ∙ held_some p start k (get_or now k None) (now_on k m)

  pub changed_now : AreChanged (packs_running (set_boundary p.set.tasks) p.tree start) r.places.onto changes
  changed_now =
      changed_by r.before.items now rs r.places.onto (length r.before.items) changes
      (length-running (set_boundary p.set.tasks) p.tree start ∙ sym b.long)
      (λ k m. running_now k (let e = b.long in omega (arith, m, e)))
      (λ k m. b.held k (let e = b.long in omega (arith, m, e))) noted_to

  -- a round later
  module _ (r' : Placed) (before : r'.before.items ≡ now) (many : length now ≡ packs_of p) (placed : r'.places ≡ place
      (packs_running (set_boundary p.set.tasks) p.tree start) r.places) (room : r'.changes.room ≡ packs_of p)
      (end : ℕ) (round : IsRoundUpTo p start end) where
    placed_end : r'.places ≡ places_of p end
    placed_end = placed ∙ ap (place rs) b.places ∙ sym (places_end p h start end round)

    shown_then : AreShown p start r'.before.items
    shown_then = record {
      long = ap (λ (xs : List (Option Leaf)). length xs) before ∙ many;
      each = λ k m. subst (λ (xs : List (Option Leaf)). IsPackOn p start k (get_or xs k None)) (sym before) (now_on k m);
    }

    pub placed_on : IsPlacedUpTo p end r'
    placed_on = record {
      on_time = b.on_time;
      places = placed_end;
      shown = λ s up. subst (λ (n : ℕ). AreShown p n r'.before.items) (sym (same_start p s start end up round)) shown_then;
      held = λ k m.
          ap (λ (w : Placing). is_held w.onto k) placed_end ∙ ap (λ os. is_held os k) (onto_end p h start end round)
          ∙ held_some p start k (get_or now k None) (now_on k m) ∙ ap (λ (xs : List (Option Leaf)). is_some (get_or xs k None)) (sym before);
      room = room;
      long = ap (λ (xs : List (Option Leaf)). length xs) before ∙ many;
    }

  -- what is told
  module _ (places : Placing) (placed : places ≡ place (packs_running (set_boundary p.set.tasks) p.tree start) r.places) (many : length places.last ≡ length
      r.places.last)
      (noted : IsNoted r.places.onto r.places.last) (noted' : IsNoted places.onto places.last) (told : List ℕ) (count : ℕ) (tells : AreTold places
      changes.seen told (length changes.seen) count)
      (q : ℕ) (l : q < p.tree.processors) where
    onto_new : places.onto ≡ onto_at (set_boundary p.set.tasks) p.tree start
    onto_new = ap (λ (w : Placing). w.onto) placed ∙ ap (λ (w : Placing). (place rs w).onto) b.places ∙ sym (onto_is (set_boundary p.set.tasks) p.tree start)

    in_level : (i : ℕ) → get_or places.last i None ≡ Some q → i < packs_of p
    in_level i at =
        let w = item_within places.last i q at in
        let long = last_packs p start r b in
        omega (arith, w, many, long)

    there : q < length places.onto
    there = let e = ap (λ (os : List (Option ℕ)). length os) onto_new in let long = as_many p h start in omega (arith, e, long, l)

    tell_seen : (i : ℕ) → get_or places.last i None ≡ Some q → IsAmong changes.seen i → IsTold told count q
    tell_seen i at (k, m, e) = tells.each k q m (ap (λ j. get_or places.last j None) e ∙ at)

    module _ (away : IsTold told count q → ⊥) where
      -- a pack of this processor shows what it did
      still : (i : ℕ) → get_or places.last i None ≡ Some q → is_running rs i ≡ is_held r.places.onto i
      still i at =
          let m = in_level i at in
          running_now i m ∙ ap is_some (noted_to.same i (let e = b.long in omega (arith, m, e)) (λ s. away (tell_seen i at s))) ∙ sym (b.held i m)

      last_at : (i : ℕ) → get_or (place rs r.places).last i None ≡ Some q → get_or places.last i None ≡ Some q
      last_at i at = ap (λ (w : Placing). get_or w.last i None) placed ∙ at

      not_stopping : (i : ℕ) → (not (is_running rs i) && is_held r.places.onto i) ≡ true → get_or places.last i None ≢ Some q
      not_stopping i on at = both_ways (not (is_running rs i) && is_held r.places.onto i) (not_stopped (is_running rs i) (is_held r.places.onto i)
          (still i at)) on

      not_beginning : (i : ℕ) → (is_running rs i && not (is_held r.places.onto i)) ≡ true → get_or places.last i None ≢ Some q
      not_beginning i on at = both_ways (is_running rs i && not (is_held r.places.onto i)) (not_begun (is_running rs i) (is_held r.places.onto i)
          (still i at)) on

      stays : get_or places.onto q None ≡ get_or r.places.onto q None
      stays =
          ap (λ (w : Placing). get_or w.onto q None) placed
          ∙ moved rs r.places noted (last_long p start r b) q
          (λ k m at. not_stopping (get_or (stopping rs r.places.onto) k 0) (first_from (λ i. not (is_running rs i) && is_held r.places.onto i) (length rs) 0
          k m).1 (last_at (get_or (stopping rs r.places.onto) k 0) at))
          (λ k m at. not_beginning (get_or (waiting rs r.places.onto) k 0) (first_from (λ i. is_running rs i && not (is_held r.places.onto i)) (length rs) 0
          k m).1 (last_at (get_or (waiting rs r.places.onto) k 0) at))

      module _ (before end : ℕ) (up : IsRoundUpTo p before start) (none : Row) where
        onto_old : r.places.onto ≡ onto_at (set_boundary p.set.tasks) p.tree before
        onto_old = ap (λ (w : Placing). w.onto) b.places ∙ onto_end p h before start up

        leaf_same : (k : ℕ) (o o' : Option Leaf) → o ≡ o' → IsPackOn p start k o → IsPackOn p before k o' → is_held places.onto k ≡ true →
            leaf_on (set_boundary p.set.tasks) p.tree start (Some k) ≡ leaf_on (set_boundary p.set.tasks) p.tree before (Some k)
        leaf_same k None o' e is_now is_then on = absurd (both_ways (is_held places.onto k) (ap (λ os. is_held os k) onto_new ∙ is_now.none refl) on)
        leaf_same k (Some x) o' e is_now is_then on = is_now.leaf x refl ∙ sym (is_then.leaf x (sym e))

        on_same : (o : Option ℕ) → get_or places.onto q None ≡ o → leaf_on (set_boundary p.set.tasks) p.tree start o ≡ leaf_on (set_boundary p.set.tasks)
            p.tree before o
        on_same None at = refl
        on_same (Some k) at =
            let last = (noted'.noted q k at).1 in
            let m = in_level k last in
            let same = noted_to.same k (let e = b.long in omega (arith, m, e)) (λ s. away (tell_seen k last s)) in
            leaf_same k (get_or now k None) (get_or r.before.items k None) same (now_on k m) ((b.shown before up).each k m) (held_there places.onto q k
            there at)

        pub others_same : leaf_at p start end q none ≡ leaf_at p before start q none
        others_same =
            leaf_is p start end q none l
            ∙ shown_on_time p.set.tasks p.tree.scale b.on_time start _
            ∙ ap (λ (os : List (Option ℕ)). leaf_on (set_boundary p.set.tasks) p.tree start (get_or os q None)) (sym onto_new)
            ∙ on_same (get_or places.onto q None) refl
            ∙ ap (leaf_on (set_boundary p.set.tasks) p.tree before) (stays ∙ ap (λ (os : List (Option ℕ)). get_or os q None) onto_old)
            ∙ sym (shown_on_time p.set.tasks p.tree.scale b.on_time before _)
            ∙ sym (leaf_is p before start q none l)

    -- at tick 0 each processor is told, since it holds a pack then and none did before
    first_seen : (i : ℕ) → start ≡ 0 → get_or places.onto q None ≡ Some i → IsAmong changes.seen i ⊎ (IsAmong changes.seen i → ⊥) → IsAmong changes.seen i
    first_seen i zero_is at (inl s) = s
    first_seen i zero_is at (inr away) = absurd (
        let m = in_level i (noted'.noted q i at).1 in
        let same = noted_to.same i (let e = b.long in omega (arith, m, e)) away in
        let on : is_some (get_or r.before.items i None) ≡ true =
        ap is_some (sym same) ∙ sym (held_some p start i (get_or now i None) (now_on i m)) ∙ ap (λ os. is_held os i) (sym onto_new) ∙ held_there places.onto
        q i there at in
        let off : is_some (get_or r.before.items i None) ≡ false =
        sym (b.held i m) ∙ ap (λ (w : Placing). is_held w.onto i) b.places ∙ ap (λ n. is_held (places_of p n).onto i) zero_is ∙ none_held p.tree.processors i in
        both_ways (is_some (get_or r.before.items i None)) off on)

    pub first_told : start ≡ 0 → IsTold told count q
    first_told zero_is =
        let none = ap (λ (os : List (Option ℕ)). free os) onto_new ∙ full (set_boundary p.set.tasks) p.tree h.tree.tree (plan_leaves p h) start in
        let (i, at) = pack_there places.onto q none there in
        tell_seen i (noted'.noted q i at).1 (first_seen i zero_is at (among_or changes.seen i))

-- ---- what a processor shows in the round just gone

module _ (p : PlanContents) (h : IsPlan p) (start end : ℕ) (r : Placed) (b : IsPlacedUpTo p end r) (round : IsRoundUpTo p start end) (q : ℕ)
    (l : q < p.tree.processors) where
  onto_now : r.places.onto ≡ onto_at (set_boundary p.set.tasks) p.tree start
  onto_now = ap (λ (w : Placing). w.onto) b.places ∙ onto_end p h start end round

  on_by : (k : ℕ) → get_or (onto_at (set_boundary p.set.tasks) p.tree start) q None ≡ Some k → (o : Option Leaf) → IsPackOn p start k o → (leaf : Leaf) →
      ((x : Leaf) → o ≡ Some x → leaf ≡ x) → leaf_on (set_boundary p.set.tasks) p.tree start (Some k) ≡ leaf
  on_by k at None on leaf is = absurd (
      let long = as_many p h start in
      both_ways (is_held (onto_at (set_boundary p.set.tasks) p.tree start) k) (on.none refl) (held_there (onto_at (set_boundary p.set.tasks) p.tree start) q
      k (omega (arith, l, long)) at))
  on_by k at (Some x) on leaf is = on.leaf x refl ∙ sym (is x refl)

  pub pack_known : (k : ℕ) → get_or r.places.onto q None ≡ Some k → k < packs_of p
  pack_known k at = pack_within p h start q k l (ap (λ (os : List (Option ℕ)). get_or os q None) (sym onto_now) ∙ at)

  shown_on : (pack : Option ℕ) → get_or r.places.onto q None ≡ pack → (leaf : Leaf) → (pack ≡ None → leaf ≡ Empty) → ((k : ℕ) (x : Leaf) → pack ≡ Some k →
      get_or r.before.items k None ≡ Some x → leaf ≡ x) →
      leaf_on (set_boundary p.set.tasks) p.tree start pack ≡ leaf
  shown_on None at leaf empty is = sym (empty refl)
  shown_on (Some k) at leaf empty is =
      on_by k (ap (λ (os : List (Option ℕ)). get_or os q None) (sym onto_now) ∙ at) (get_or r.before.items k None) ((b.shown start round).each k
      (pack_known k at)) leaf (λ x e. is k x refl e)

  pub shown_by : (pack : Option ℕ) → get_or r.places.onto q None ≡ pack → (leaf : Leaf) → (pack ≡ None → leaf ≡ Empty) →
      ((k : ℕ) (x : Leaf) → pack ≡ Some k → get_or r.before.items k None ≡ Some x → leaf ≡ x) →
      (none : Row) → leaf_at p start end q none ≡ leaf
  shown_by pack at leaf empty is none =
      leaf_is p start end q none l
      ∙ shown_on_time p.set.tasks p.tree.scale b.on_time start _
      ∙ ap (λ (os : List (Option ℕ)). leaf_on (set_boundary p.set.tasks) p.tree start (get_or os q None)) (sym onto_now)
      ∙ ap (leaf_on (set_boundary p.set.tasks) p.tree start) at
      ∙ shown_on pack at leaf empty is
