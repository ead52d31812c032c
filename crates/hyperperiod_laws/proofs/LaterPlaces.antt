-- Places come again once they are the same, and with them the rows of rounds.
use Rattle.std.proofs.Common.{Bool, List, None, Option, Some, [], ap, ap₂, arith, false, get_or, length, map, refl, suc, sym, subst, true, zero, ℕ}
use Rattle.std.proofs.Common.{◌*◌, ◌+◌, ◌/◌, ◌<◌, ◌^◌, ◌∙◌, ◌∷◌, ◌≡◌, ◌≤◌}
use Rattle.std.proofs.lemmas.Bool.{le-ltb}
use Rattle.sched_base.specs.declared.rows.Leaf.{Leaf}
use Rattle.sched_base.specs.declared.rows.Leaf.TheVariants.{Empty, Idle, Task, Wait}
use Rattle.sched_base.specs.declared.rows.Row.{Row}
use Rattle.sched_base.specs.declared.sets.Task as declared
use Rattle.std.specs.List.{AllByRecursion}
use Rattle.sched_base.specs.Places.{Placing, place}
use Rattle.sched_base.specs.Sets.{task_at}
use Rattle.sched_base.proofs.UnitLemmas.{tick_from}
use Rattle.sched_base.proofs.HeldLemmas.{held_at}
use Rattle.sched_base.proofs.ListLemmas.{same_map}
use Rattle.run_tree.specs.Boundaries.{set_boundary}
use Rattle.run_tree.specs.Runs.{runs}
use Rattle.run_tree.specs.Schedule.{leaf_among, leaf_on, onto_at, packs_at, packs_running, places_below, round_rows, rows_from, shown}
use Rattle.run_tree.specs.Tree.{Tree, leaf, members}
use Rattle.run_tree.proofs.ScheduleLemmas.{onto_is}
use Rattle.run_tree.proofs.TreeLemmas.{first_is_pack}
use Rattle.sched_laws.proofs.PlacedPacks.{onto_within}
use Rattle.sched_laws.proofs.RoundRows.{round_is}
use Rattle.repeat_laws.specs.Repeats.{later}
use Rattle.hyperperiod_laws.proofs.IdleLeaves.{Recurs, leaves_of}
use Rattle.hyperperiod_laws.proofs.LaterLeaves.{each_by}
use Rattle.hyperperiod_laws.proofs.LaterRuns.{runs_again}

module _ (tasks : List declared.Task) (t : Tree) (units start : ℕ) (r : Recurs tasks t units start) where
  -- the same packs of level 0 run
  pub packs_again : (n : ℕ) → start ≤ n → n + 2 * (units * t.scale) < 2 ^ 33 * t.scale → packs_running (set_boundary tasks) t (n + units * t.scale)
      ≡ packs_running (set_boundary tasks) t n
  packs_again n after early = same_map (λ p. runs (set_boundary tasks) t p (n + units * t.scale)) (λ p. runs (set_boundary tasks) t p n) (packs_at t 0)
      (λ k l. runs_again tasks t units start r n (get_or (packs_at t 0) k 0) after early (first_is_pack t r.tree k l).0)

  -- places that are the same again stay so
  pub places_again : (n k : ℕ) → start ≤ n → n + k + 2 * (units * t.scale) ≤ 2 ^ 33 * t.scale → places_below (set_boundary tasks) t (n + units * t.scale)
      ≡ places_below (set_boundary tasks) t n →
      places_below (set_boundary tasks) t (n + k + units * t.scale) ≡ places_below (set_boundary tasks) t (n + k)
  places_again n zero after early same =
      let e : n ≡ n + 0 = omega arith in
      let P : ℕ → Type 0 = λ m. places_below (set_boundary tasks) t (m + units * t.scale) ≡ places_below (set_boundary tasks) t m in
      subst P e same
  places_again n (suc k) after early same =
      let ih = places_again n k after (omega (arith, early)) same in
      let e : n + suc k + units * t.scale ≡ suc (n + k + units * t.scale) = omega arith in
      let f : suc (n + k) ≡ n + suc k = omega arith in
      ap (places_below (set_boundary tasks) t) e
      ∙ ap₂ (λ runs places. place runs places) (packs_again (n + k) (omega (arith, after)) (omega (arith, early))) ih
      ∙ ap (places_below (set_boundary tasks) t) f

  -- so the packs on the processors come again
  pub onto_again : (n k : ℕ) → start ≤ n → suc (n + k) + 2 * (units * t.scale) ≤ 2 ^ 33 * t.scale → places_below (set_boundary tasks) t
      (n + units * t.scale) ≡ places_below (set_boundary tasks) t n →
      onto_at (set_boundary tasks) t (n + k + units * t.scale) ≡ onto_at (set_boundary tasks) t (n + k)
  onto_again n k after early same =
      let e : suc (n + k + units * t.scale) ≡ n + suc k + units * t.scale = omega arith in
      let f : n + suc k ≡ suc (n + k) = omega arith in
      onto_is (set_boundary tasks) t (n + k + units * t.scale)
      ∙ ap (λ m. (places_below (set_boundary tasks) t m).onto) e
      ∙ ap (λ (w : Placing). w.onto) (places_again n (suc k) after (omega (arith, early)) same)
      ∙ ap (λ m. (places_below (set_boundary tasks) t m).onto) f
      ∙ sym (onto_is (set_boundary tasks) t (n + k))

-- offsets are no later than a tick
offsets-le : (P : ℕ → Type 0) → P 0 → (tasks : List declared.Task) → AllByRecursion (λ k. P k.offset) tasks → (j : ℕ) → P (task_at tasks j).offset
offsets-le P none [] all j = none
offsets-le P none (k ∷ tasks) all zero = all.0
offsets-le P none (k ∷ tasks) all (suc j) = offsets-le P none tasks all.1 j

-- where no task waits any more, each leaf is shown as it is
pub shown_released : (tasks : List declared.Task) (scale start : ℕ) → AllByRecursion (λ k. k.offset * scale ≤ start) tasks → (l : Leaf) →
    shown tasks scale start l ≡ l
shown_released tasks scale start all (Task id) =
    let z = offsets-le (λ o. o * scale ≤ start) (omega arith) tasks all id.0 in
    ap (λ (b : Bool). elim b as (λ y. Leaf) [ true ↦ Wait id | false ↦ Task id ]) (le-ltb start ((task_at tasks id.0).offset * scale) z)
shown_released tasks scale start all (Wait id) = refl
shown_released tasks scale start all (Idle number) = refl
shown_released tasks scale start all Empty = refl

-- nor where none has an offset
pub shown_on_time : (tasks : List declared.Task) (scale : ℕ) → AllByRecursion (λ k. k.offset ≡ 0) tasks → (start : ℕ) (l : Leaf) → shown tasks scale start l ≡ l
shown_on_time tasks scale all start l = shown_released tasks scale start (each_by (λ k. k.offset ≡ 0) (λ k. k.offset * scale ≤ start)
    (λ k z. (let e = ap (λ o. o * scale) z in omega (arith, e))) tasks all) l

module _ (tasks : List declared.Task) (t : Tree) (units start : ℕ) (r : Recurs tasks t units start) (n : ℕ) (after : start ≤ n)
    (early : n + 2 * (units * t.scale) < 2 ^ 33 * t.scale) where
  -- no task waits from there on
  released_at : (m : ℕ) → start ≤ m → AllByRecursion (λ k. k.offset * t.scale ≤ m) tasks
  released_at m late = each_by (λ k. k.offset ≤ start / t.scale) (λ k. k.offset * t.scale ≤ m) (λ k low. (let at = tick_from start k.offset t.scale
      r.tree.scaled low in omega (arith, at, late))) tasks r.released

  -- the same leaf runs among members
  leaf_among_again : (ms : List ℕ) → ((k : ℕ) → k < length ms → get_or ms k 0 < length t.nodes) →
      leaf_among (set_boundary tasks) t (n + units * t.scale) ms ≡ leaf_among (set_boundary tasks) t n ms
  leaf_among_again [] there = refl
  leaf_among_again (x ∷ xs) there =
      ap (λ (b : Bool). elim b as (λ y. Leaf) [ true ↦ leaf t x | false ↦ leaf_among (set_boundary tasks) t (n + units * t.scale) xs ])
      (runs_again tasks t units start r n x after early (there 0 (omega arith)))
      ∙ ap (λ (l : Leaf). elim (runs (set_boundary tasks) t x n) as (λ y. Leaf) [ true ↦ leaf t x | false ↦ l ])
      (leaf_among_again xs (λ k b. there (suc k) (omega (arith, b))))

  -- and on a processor
  leaf_on_again : (o : Option ℕ) → ((i : ℕ) → o ≡ Some i → i < length (packs_at t 0)) →
      leaf_on (set_boundary tasks) t (n + units * t.scale) o ≡ leaf_on (set_boundary tasks) t n o
  leaf_on_again None within = refl
  leaf_on_again (Some i) within =
      let p = first_is_pack t r.tree i (within i refl) in
      leaf_among_again (members t (get_or (packs_at t 0) i 0)) (λ k b. (r.tree.members_are (get_or (packs_at t 0) i 0) k p b).0.0)

  rows_again : (end : ℕ) (onto : List (Option ℕ)) → ((q i : ℕ) → q < length onto → get_or onto q None ≡ Some i → i < length (packs_at t 0)) → (p : ℕ) →
      rows_from tasks t (n + units * t.scale) (end + units * t.scale) p onto ≡ map (later (units * t.scale)) (rows_from tasks t n end p onto)
  rows_again end [] within p = refl
  rows_again end (o ∷ onto) within p =
      let same : shown tasks t.scale (n + units * t.scale) (leaf_on (set_boundary tasks) t (n + units * t.scale) o) ≡ shown tasks t.scale n
      (leaf_on (set_boundary tasks) t n o) =
      shown_released tasks t.scale (n + units * t.scale) (released_at (n + units * t.scale) (omega (arith, after))) (leaf_on (set_boundary tasks) t
      (n + units * t.scale) o)
      ∙ leaf_on_again o (λ i is. within 0 i (omega arith) is)
      ∙ sym (shown_released tasks t.scale n (released_at n after) (leaf_on (set_boundary tasks) t n o)) in
      ap₂ (λ (l : Leaf) (rows : List Row). let first : Row = record { processor = p; start = n + units * t.scale; end = end + units * t.scale; leaf = l } in
      first ∷ rows)
      same (rows_again end onto (λ q i l is. within (suc q) i (omega (arith, l)) is) (suc p))

  -- the rows of a round come again
  pub round_again : (end : ℕ) → onto_at (set_boundary tasks) t (n + units * t.scale) ≡ onto_at (set_boundary tasks) t n →
      round_rows tasks t (n + units * t.scale) (end + units * t.scale) ≡ map (later (units * t.scale)) (round_rows tasks t n end)
  round_again end same =
      let leaves = leaves_of tasks t units start r in
      round_is tasks t (n + units * t.scale) (end + units * t.scale)
      ∙ ap (rows_from tasks t (n + units * t.scale) (end + units * t.scale) 0) same
      ∙ rows_again end (onto_at (set_boundary tasks) t n)
      (λ q i l is. (onto_within (set_boundary tasks) t r.tree leaves n i (held_at (onto_at (set_boundary tasks) t n) q i l is)).0) 0
      ∙ sym (ap (map (later (units * t.scale))) (round_is tasks t n end))
