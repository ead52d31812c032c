-- A task runs on one processor where its leaf runs, else on none.
use Rattle.std.proofs.Common.{Bool, ap, arith, eq-eqb, eqb, get_or, length, refl, subst, sym, true, ℕ, ◌&&◌, ◌*◌, ◌<◌, ◌∙◌, ◌≡◌}
use Rattle.std.proofs.lemmas.Bool.{and_from, and_parts, eqb-true, ne_eqb}
use Rattle.sched_base.specs.declared.rows.Leaf.{Leaf}
use Rattle.sched_base.specs.declared.rows.Leaf.TheVariants.{Task}
use Rattle.sched_base.specs.Counting.{bit}
use Rattle.sched_base.specs.Rows.{is_of_task}
use Rattle.sched_base.proofs.BoolLemmas.{same_Bool}
use Rattle.sched_base.proofs.CountingLemmas.{bit_and, bit_at, bit_off}
use Rattle.sched_base.proofs.SumLemmas.{sum_to-one, sum_to-same}
use Rattle.sched_base.proofs.HeldLemmas.{held, sum_on, sum_on_packs}
use Rattle.sched_base.proofs.RowLemmas.{is_of_task_at, is_of_task_same}
use Rattle.run_tree.specs.Tree.{IsLeaf, IsMember, IsPack, IsTree, Tree, at_level, home, kind_at, leaf, member, members, place}
use Rattle.run_tree.specs.Boundaries.{HaveBoundaries}
use Rattle.run_tree.specs.Runs.{is_picked, runs}
use Rattle.run_tree.specs.Schedule.{leaf_among, onto_at, packs_at}
use Rattle.run_tree.specs.TreeOfSet.{task_id}
use Rattle.run_tree.proofs.KindLemmas.{leaf_of_task, not_pack_leaf}
use Rattle.run_tree.proofs.TreeLemmas.{at_from, over_packs, pack_at}
use Rattle.run_tree.proofs.RunLemmas.{ends_at, left_at, run_member}
use Rattle.run_tree.proofs.ScheduleLemmas.{leaf_among_first, running_is}
use Rattle.sched_laws.proofs.Packs.{server_serves}
use Rattle.sched_laws.proofs.LevelRates.{member_runs}
use Rattle.sched_laws.proofs.PlacedPacks.{held_onto, onto_within}

-- the leaf that runs in pack p at tick n
abbrev pub leaf_in : (Leaf → ℕ → Bool) → Tree → ℕ → ℕ → Leaf
leaf_in of_leaf t n p = leaf_among of_leaf t n (members t p)

module _ (of_leaf : Leaf → ℕ → Bool) (t : Tree) (h : IsTree t) (leaves : HaveBoundaries of_leaf t) where
  -- the leaf of a pack that runs
  pub leaf_in_runs : (p n : ℕ) → IsPack t p → runs of_leaf t p n ≡ true → (k : ℕ) × (k < length (members t p)) × (runs of_leaf t (member t p k) n ≡ true)
      × (leaf_in of_leaf t n p ≡ leaf t (member t p k))
  leaf_in_runs p n i on =
      let law = server_serves of_leaf t h leaves p i in
      let (k, l, run) = member_runs of_leaf t h leaves p n i on in
      (k, l, run, leaf_among_first of_leaf t n (members t p) k l run (λ m lm e. law.alone m k n lm l e run))

  module _ (x j : ℕ) (is_x : IsLeaf t x) (of_x : leaf t x ≡ Task (task_id j)) (once : (y : ℕ) → IsLeaf t y → leaf t y ≡ Task (task_id j) → y ≡ x) where
    -- a pack of level 0 runs task j where it is the task's and the task runs
    pub pack_task : (p n : ℕ) → p < length t.nodes → bit (at_level t 0 p) * (bit (runs of_leaf t p n) * bit (is_of_task j (leaf_in of_leaf t n p))) ≡ bit
        (eqb p (home t x)) * bit (runs of_leaf t x n)
    pack_task p n b =
        ap (λ w. bit (at_level t 0 p) * w) (sym (bit_and (runs of_leaf t p n) (is_of_task j (leaf_in of_leaf t n p))))
        ∙ sym (bit_and (at_level t 0 p) (runs of_leaf t p n && is_of_task j (leaf_in of_leaf t n p)))
        ∙ ap bit (same_Bool (at_level t 0 p && (runs of_leaf t p n && is_of_task j (leaf_in of_leaf t n p))) (eqb p (home t x) && runs of_leaf t x n)
        (λ e.
        let both = and_parts (at_level t 0 p) (runs of_leaf t p n && is_of_task j (leaf_in of_leaf t n p)) e in
        let more = and_parts (runs of_leaf t p n) (is_of_task j (leaf_in of_leaf t n p)) both.1 in
        let i = (pack_at t 0 p b both.0).0 in
        let (k, l, run, same) = leaf_in_runs p n i more.0 in
        let task : leaf t (member t p k) ≡ Task (task_id j) = sym same ∙ is_of_task_same j (leaf_in of_leaf t n p) more.1 in
        let m = h.members_are p k i l in
        let y : member t p k ≡ x = once (member t p k) (m.0.0, leaf_of_task j (kind_at t (member t p k)) task) task in
        and_from (eqb p (home t x)) (runs of_leaf t x n) (eq-eqb p (home t x) (sym m.1 ∙ ap (home t) y)) (ap (λ z. runs of_leaf t z n) (sym y) ∙ run))
        (λ e.
        let both = and_parts (eqb p (home t x)) (runs of_leaf t x n) e in
        let same = eqb-true p (home t x) both.0 in
        let m : IsMember t x = (is_x.0, not_pack_leaf (kind_at t x) is_x.1) in
        let at = h.homes_are x m in
        let on = (and_parts (runs of_leaf t (home t x) n) (is_picked t (left_at of_leaf t n) (ends_at of_leaf t n) x) (sym (run_member of_leaf t h x n m)
        ∙ both.1)).0 in
        let (k, l, run, shows) = leaf_in_runs (home t x) n at.0 on in
        let here = (server_serves of_leaf t h leaves (home t x) at.0).alone k (place t x) n l at.1 run (ap (λ z. runs of_leaf t z n) at.2 ∙ both.1) in
        let task : leaf_in of_leaf t n (home t x) ≡ Task (task_id j) = shows ∙ ap (λ q. leaf t (member t (home t x) q)) here ∙ ap (λ z. leaf t z) at.2 ∙ of_x in
        let P : ℕ → Type 0 = λ q. (at_level t 0 q && (runs of_leaf t q n && is_of_task j (leaf_in of_leaf t n q))) ≡ true in
        subst P (sym same) (and_from (at_level t 0 (home t x)) (runs of_leaf t (home t x) n && is_of_task j (leaf_in of_leaf t n (home t x)))
        (at_from t 0 (home t x) at.0 (h.leaves_are x is_x).0)
        (and_from (runs of_leaf t (home t x) n) (is_of_task j (leaf_in of_leaf t n (home t x))) on (is_of_task_at j (leaf_in of_leaf t n (home t x)) task)))))
        ∙ bit_and (eqb p (home t x)) (runs of_leaf t x n)

    -- task j runs on one processor where its leaf runs, else on none
    pub task_on : (n : ℕ) → sum_on (λ i. bit (is_of_task j (leaf_in of_leaf t n (get_or (packs_at t 0) i 0)))) (onto_at of_leaf t n) ≡ bit (runs of_leaf t x n)
    task_on n =
        let v : ℕ → ℕ = λ p. bit (is_of_task j (leaf_in of_leaf t n p)) in
        let home_x = (h.homes_are x (is_x.0, not_pack_leaf (kind_at t x) is_x.1)).0 in
        sum_on_packs (length (packs_at t 0)) (λ i. bit (is_of_task j (leaf_in of_leaf t n (get_or (packs_at t 0) i 0)))) (onto_at of_leaf t n)
        (λ i some. (onto_within of_leaf t h leaves n i some).0)
        ∙ sum_to-same (length (packs_at t 0)) (λ i. held (onto_at of_leaf t n) i * bit (is_of_task j (leaf_in of_leaf t n (get_or (packs_at t 0) i 0))))
        (λ i. bit (runs of_leaf t (get_or (packs_at t 0) i 0) n) * bit (is_of_task j (leaf_in of_leaf t n (get_or (packs_at t 0) i 0))))
        (λ i l. ap (λ w. w * bit (is_of_task j (leaf_in of_leaf t n (get_or (packs_at t 0) i 0)))) (held_onto of_leaf t h leaves n i
        ∙ ap bit (running_is of_leaf t n i l)))
        ∙ over_packs t (λ p. bit (runs of_leaf t p n) * bit (is_of_task j (leaf_in of_leaf t n p)))
        ∙ sum_to-same (length t.nodes) (λ p. bit (at_level t 0 p) * (bit (runs of_leaf t p n) * bit (is_of_task j (leaf_in of_leaf t n p))))
        (λ p. bit (eqb p (home t x)) * bit (runs of_leaf t x n)) (λ p b. pack_task p n b)
        ∙ sum_to-one (length t.nodes) (λ p. bit (eqb p (home t x)) * bit (runs of_leaf t x n)) (home t x) home_x.0
        (λ p b ne. (let z = bit_off (eqb p (home t x)) (ne_eqb p (home t x) ne) in omega (arith, ap (λ w. w * bit (runs of_leaf t x n)) z)))
        ∙ (let one = bit_at (eqb (home t x) (home t x)) (eq-eqb (home t x) (home t x) refl) in omega (arith, ap (λ w. w * bit (runs of_leaf t x n)) one))
