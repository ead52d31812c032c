-- Where every pack of level 0 is a root, no task migrates.
use Rattle.std.proofs.Common.{Bool, List, None, Option, Some, [], ap, arith, eq-eqb, eqb, false, get_or, inl, inr, length, mul-le-mul_right, refl}
use Rattle.std.proofs.Common.{suc, sym, true, zero, ℕ, ◌*◌, ◌+◌, ◌<◌, ◌∙◌, ◌∷◌, ◌≡◌, ◌≤◌}
use Rattle.std.proofs.lemmas.Bool.{both_ways, cases_lt, ne_eqb}
use Rattle.sched_base.specs.declared.rows.Leaf.{Leaf}
use Rattle.sched_base.specs.declared.rows.Leaf.TheVariants.{Task}
use Rattle.sched_base.specs.declared.rows.Row.{Row}
use Rattle.sched_base.specs.Counting.{bit, sum_to}
use Rattle.sched_base.specs.Places.{is_running, onto_next, place}
use Rattle.sched_base.specs.Sets.{IsLawful, SetContents}
use Rattle.sched_base.specs.Rows.{is_of_task}
use Rattle.sched_base.proofs.CountingLemmas.{bit_at, bit_le, bit_off}
use Rattle.sched_base.proofs.SumLemmas.{sum_to-le, sum_to-one, sum_to-zero}
use Rattle.sched_base.proofs.ListLemmas.{first_from, same_map}
use Rattle.sched_base.proofs.HeldLemmas.{held, held_at, sum_on, sum_on_packs}
use Rattle.sched_base.proofs.PlaceLemmas.{onto_still}
use Rattle.sched_base.proofs.RowLemmas.{AllApart-from, is_of_task_same}
use Rattle.run_tree.specs.Tree.{IsLeaf, IsPack, IsTree, Tree, at_level, dual, home, kind_at, leaf, level, member}
use Rattle.run_tree.specs.Boundaries.{HaveBoundaries, set_boundary}
use Rattle.run_tree.specs.Runs.{runs}
use Rattle.run_tree.specs.Schedule.{leaf_on, onto_at, packs_at, packs_running, places_below, schedule}
use Rattle.run_tree.specs.TreeOfSet.{HoldsTasks, IsTreeOf, task_id}
use Rattle.run_tree.proofs.KindLemmas.{leaf_of_task}
use Rattle.run_tree.proofs.TreeLemmas.{first_is_pack, over_packs, pack_at}
use Rattle.run_tree.proofs.SetBoundaryLemmas.{set_leaves}
use Rattle.run_tree.proofs.ScheduleLemmas.{once_below}
use Rattle.sched_laws.specs.Migration.{NoneMigrates}
use Rattle.sched_laws.proofs.LevelRates.{run_root}
use Rattle.sched_laws.proofs.PlacedPacks.{held_onto, onto_within}
use Rattle.sched_laws.proofs.TaskRows.{leaf_in, leaf_in_runs}
use Rattle.sched_laws.proofs.RoundRows.{row_of, schedule_all}
use Rattle.sched_laws.proofs.Releases.{shown_task}
use Rattle.sched_base.specs.declared.sets.Task as declared

-- how many places pass
abbrev pub places_with : (Option ℕ → Bool) → List (Option ℕ) → ℕ
places_with f [] = 0
places_with f (o ∷ onto) = bit (f o) + places_with f onto

-- there is one where some place passes
pub places_with_some : (f : Option ℕ → Bool) (onto : List (Option ℕ)) (p : ℕ) → p < length onto → f (get_or onto p None) ≡ true → 0 < places_with f onto
places_with_some f [] p l e = absurd (omega arith)
places_with_some f (o ∷ onto) zero l e = omega (arith, bit_at (f o) e)
places_with_some f (o ∷ onto) (suc p) l e = let ih = places_with_some f onto p (omega arith) e in omega (arith, ih)

-- and where there is at most one, two places that pass are one
pub places_with_once : (f : Option ℕ → Bool) (onto : List (Option ℕ)) (p q : ℕ) → places_with f onto ≤ 1 → p < length onto → q < length onto →
    f (get_or onto p None) ≡ true → f (get_or onto q None) ≡ true → p ≡ q
places_with_once f [] p q z l m e g = absurd (omega arith)
places_with_once f (o ∷ onto) zero zero z l m e g = refl
places_with_once f (o ∷ onto) zero (suc q) z l m e g = let s = places_with_some f onto q (omega arith) g in absurd (omega (arith, s, bit_at (f o) e))
places_with_once f (o ∷ onto) (suc p) zero z l m e g = let s = places_with_some f onto p (omega arith) e in absurd (omega (arith, s, bit_at (f o) g))
places_with_once f (o ∷ onto) (suc p) (suc q) z l m e g = ap suc (places_with_once f onto p q (omega arith) (omega arith) (omega arith) e g)

-- whether the pack on a processor is this node
abbrev pub is_node : Tree → ℕ → Option ℕ → Bool
is_node t n None = false
is_node t n (Some i) = eqb (get_or (packs_at t 0) i 0) n

-- as a sum over processors
pub places_with_node : (t : Tree) (n : ℕ) (onto : List (Option ℕ)) → places_with (is_node t n) onto ≡ sum_on (λ i. bit (eqb (get_or (packs_at t 0) i 0) n)) onto
places_with_node t n [] = refl
places_with_node t n (None ∷ onto) = let ih = places_with_node t n onto in omega (arith, ih)
places_with_node t n (Some i ∷ onto) = let ih = places_with_node t n onto in omega (arith, ih)

module _ (of_leaf : Leaf → ℕ → Bool) (t : Tree) (h : IsTree t) (leaves : HaveBoundaries of_leaf t) where
  -- a node is on at most one processor
  pub node_once : (n s : ℕ) → places_with (is_node t n) (onto_at of_leaf t s) ≤ 1
  node_once n s =
      let v : ℕ → ℕ = λ i. bit (eqb (get_or (packs_at t 0) i 0) n) in
      let e = places_with_node t n (onto_at of_leaf t s) in
      let by_pack = sum_on_packs (length (packs_at t 0)) v (onto_at of_leaf t s) (λ i some. (onto_within of_leaf t h leaves s i some).0) in
      let less = sum_to-le (length (packs_at t 0)) (λ i. held (onto_at of_leaf t s) i * v i) v (λ i l. (
      let a = held_onto of_leaf t h leaves s i in
      let one = bit_le (is_running (packs_running of_leaf t s) i) in
      let m : held (onto_at of_leaf t s) i * v i ≤ 1 * v i = mul-le-mul_right (v i) (omega (arith, a, one)) in
      omega (arith, m))) in
      let nodes = over_packs t (λ p. bit (eqb p n)) in
      let most : sum_to (length t.nodes) (λ p. bit (at_level t 0 p) * bit (eqb p n)) ≤ 1 =
      elim (cases_lt n (length t.nodes)) [
        | inl l ↦
            (let one = sum_to-one (length t.nodes) (λ p. bit (at_level t 0 p) * bit (eqb p n)) n l (λ p lp ne. (let z = bit_off (eqb p n) (ne_eqb p n ne) in
            omega (arith, ap (λ w. bit (at_level t 0 p) * w) z))) in
            let here = ap (λ w. bit (at_level t 0 n) * w) (bit_at (eqb n n) (eq-eqb n n refl)) in
            omega (arith, one, here, bit_le (at_level t 0 n)))
        | inr l ↦
            (let none = sum_to-zero (length t.nodes) (λ p. bit (at_level t 0 p) * bit (eqb p n))
            (λ p lp. (let z = bit_off (eqb p n) (ne_eqb p n (λ s. omega (arith, s))) in omega (arith, ap (λ w. bit (at_level t 0 p) * w) z))) in
            omega (arith, none))
      ] in
      omega (arith, e, by_pack, less, nodes, most)

  module _ (roots : (p : ℕ) → IsPack t p → level t p ≡ 0 → dual t p ≡ None) where
    -- where all packs of level 0 are roots, they all run at each tick
    pub running_const : (n m : ℕ) → packs_running of_leaf t n ≡ packs_running of_leaf t m
    running_const n m = same_map (λ p. runs of_leaf t p n) (λ p. runs of_leaf t p m) (packs_at t 0) (λ k l.
        let p = get_or (packs_at t 0) k 0 in
        let i = first_is_pack t h k l in
        let f = first_from (at_level t 0) (length t.nodes) 0 k l in
        let low = (pack_at t 0 p i.0 f.1).1 in
        run_root of_leaf t h leaves p n i (roots p i low) ∙ sym (run_root of_leaf t h leaves p m i (roots p i low)))

    -- so each processor keeps its pack
    pub onto_step : (n : ℕ) → onto_at of_leaf t (suc n) ≡ onto_at of_leaf t n
    unfolding onto_at
    onto_step n =
        ap (λ row. onto_next row (place (packs_running of_leaf t n) (places_below of_leaf t n))) (running_const (suc n) n)
        ∙ onto_still (packs_running of_leaf t n) (places_below of_leaf t n) (once_below of_leaf t n)

    -- from tick 0 on
    pub onto_const : (n : ℕ) → onto_at of_leaf t n ≡ onto_at of_leaf t 0
    onto_const zero = refl
    onto_const (suc n) = onto_step n ∙ onto_const n

-- each task stays on one processor, where every pack of level 0 is a root
module _ (tasks : List declared.Task) (t : Tree) (h : IsTree t) (leaves : HaveBoundaries (set_boundary tasks) t) (holds : HoldsTasks tasks t)
    (roots : (p : ℕ) → IsPack t p → level t p ≡ 0 → dual t p ≡ None) where
  -- the boundaries of the leaves
  abbrev pub bounds : Leaf → ℕ → Bool
  bounds = set_boundary tasks

  -- a row of task j is on a processor whose pack is the task's
  abbrev pub IsAtHome : Row → Type 0
  IsAtHome r = (j : ℕ) → is_of_task j r.leaf ≡ true →
      (x : ℕ) × IsLeaf t x × (leaf t x ≡ Task (task_id j)) × (r.processor < length (onto_at bounds t 0))
      × (is_node t (home t x) (get_or (onto_at bounds t 0) r.processor None) ≡ true)

  -- each row is at home
  pub row_at_home : (s e q : ℕ) → q < length (onto_at bounds t s) → IsAtHome (row_of tasks t s e q (get_or (onto_at bounds t s) q None))
  row_at_home s e q l j task = go (get_or (onto_at bounds t s) q None) refl (shown_task tasks t.scale s j (leaf_on bounds t s (get_or (onto_at bounds t s) q
      None)) task).0
    where
      same : onto_at bounds t s ≡ onto_at bounds t 0
      same = onto_const bounds t h leaves roots s

      go : (o : Option ℕ) → get_or (onto_at bounds t s) q None ≡ o → is_of_task j (leaf_on bounds t s o) ≡ true →
          (x : ℕ) × IsLeaf t x × (leaf t x ≡ Task (task_id j)) × (q < length (onto_at bounds t 0))
          × (is_node t (home t x) (get_or (onto_at bounds t 0) q None) ≡ true)
      go None o_is is = absurd (both_ways false refl is)
      go (Some i) o_is is =
          (let some = held_at (onto_at bounds t s) q i l o_is in
          let at = onto_within bounds t h leaves s i some in
          let p = get_or (packs_at t 0) i 0 in
          let is_p = first_is_pack t h i at.0 in
          let (k, lk, run, shows) = leaf_in_runs bounds t h leaves p s is_p at.1 in
          let x = member t p k in
          let m = h.members_are p k is_p lk in
          let of_x : leaf t x ≡ Task (task_id j) = sym shows ∙ is_of_task_same j (leaf_in bounds t s p) is in
          let long = ap length same in (
            x,
            (m.0.0, leaf_of_task j (kind_at t x) of_x),
            of_x,
            omega (arith, long, l),
            ap (λ onto. is_node t (home t x) (get_or onto q None)) (sym same) ∙ ap (is_node t (home t x)) o_is ∙ eq-eqb p (home t x) (sym m.1),
          ))

  -- and so no task migrates
  pub tasks_stay : (stop : ℕ) → NoneMigrates (schedule tasks t stop)
  tasks_stay stop =
      AllApart-from IsAtHome _ (schedule tasks t stop)
      (λ r q at_r at_q j task_r task_q. (
      let (x, is_x, of_x, lx, on_x) = at_r j task_r in
      let (y, is_y, of_y, ly, on_y) = at_q j task_q in
      let same : y ≡ x = holds.once y x (task_id j) is_y is_x of_y of_x in
      places_with_once (is_node t (home t x)) (onto_at bounds t 0) r.processor q.processor (node_once bounds t h leaves (home t x) 0) lx ly on_x
      (ap (λ z. is_node t (home t z) (get_or (onto_at bounds t 0) q.processor None)) (sym same) ∙ on_y)))
      (schedule_all tasks t stop IsAtHome (λ s e p up top b. row_at_home s e p b))

-- the same of a set
pub set_stays : (s : SetContents) → IsLawful s → (t : Tree) → IsTreeOf s t → ((p : ℕ) → IsPack t p → level t p ≡ 0 → dual t p ≡ None) → (stop : ℕ) →
    NoneMigrates (schedule s.tasks t stop)
set_stays s lawful t is roots stop = tasks_stay s.tasks t is.tree (set_leaves s.tasks lawful.each t is.tasks) is.tasks roots stop
