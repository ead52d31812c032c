-- In a tick without an event each processor keeps its pack.
use Rattle.std.proofs.Common.{Bool, ap, false, get_or, suc, true, ℕ, ◌%◌, ◌/◌, ◌<◌, ◌∙◌, ◌≡◌}
use Rattle.sched_base.specs.declared.rows.Leaf.{Leaf}
use Rattle.sched_base.specs.Places.{onto_next, place}
use Rattle.sched_base.proofs.ListLemmas.{same_map}
use Rattle.sched_base.proofs.PlaceLemmas.{onto_still}
use Rattle.run_tree.specs.Tree.{IsLeaf, IsMember, IsTree, Tree, leaf}
use Rattle.run_tree.specs.Boundaries.{HaveBoundaries}
use Rattle.run_tree.specs.Runs.{runs}
use Rattle.run_tree.specs.Schedule.{onto_at, packs_at, packs_running, places_below}
use Rattle.run_tree.proofs.TreeLemmas.{first_is_pack}
use Rattle.run_tree.proofs.RunLemmas.{left_at}
use Rattle.run_tree.proofs.ScheduleLemmas.{once_below}
use Rattle.sched_laws.proofs.Steady.{pack_still}

-- where no leaf has a boundary at tick n + 1, and each member that ran at tick n has due left then
module _ (of_leaf : Leaf → ℕ → Bool) (t : Tree) (h : IsTree t) (leaves : HaveBoundaries of_leaf t) (n : ℕ)
    (quiet : (x : ℕ) → IsLeaf t x → suc n % t.scale ≡ 0 → of_leaf (leaf t x) (suc n / t.scale) ≡ false)
    (unspent : (x : ℕ) → IsMember t x → runs of_leaf t x n ≡ true → 0 < left_at of_leaf t (suc n) x) where
  -- the same packs of level 0 run
  pub running_still : packs_running of_leaf t (suc n) ≡ packs_running of_leaf t n
  running_still = same_map (λ p. runs of_leaf t p (suc n)) (λ p. runs of_leaf t p n) (packs_at t 0)
      (λ k l. pack_still of_leaf t h leaves n quiet unspent (get_or (packs_at t 0) k 0) (first_is_pack t h k l))

  -- each processor keeps its pack
  pub places_still : onto_at of_leaf t (suc n) ≡ onto_at of_leaf t n
  unfolding onto_at
  places_still =
      ap (λ row. onto_next row (place (packs_running of_leaf t n) (places_below of_leaf t n))) running_still
      ∙ onto_still (packs_running of_leaf t n) (places_below of_leaf t n) (once_below of_leaf t n)
