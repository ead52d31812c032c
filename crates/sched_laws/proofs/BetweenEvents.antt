-- Between events nothing changes.
use Rattle.std.proofs.Common.{List, arith, false, inl, inr, length, subst, suc, ℕ, ◌*◌, ◌+◌, ◌<◌, ◌^◌, ◌≡◌}
use Rattle.std.proofs.lemmas.Bool.{cases_Bool}
use Rattle.sched_base.specs.Sets.{IsLawful, SetContents}
use Rattle.run_tree.specs.Tree.{IsTree, Tree, is_pack, kind_at}
use Rattle.run_tree.specs.Boundaries.{HaveBoundaries, set_boundary}
use Rattle.run_tree.specs.Runs.{runs}
use Rattle.run_tree.specs.Rounds.{is_event}
use Rattle.run_tree.specs.Schedule.{onto_at}
use Rattle.run_tree.specs.TreeOfSet.{HoldsTasks, IsTreeOf}
use Rattle.run_tree.proofs.SetBoundaryLemmas.{idle_late, set_leaves}
use Rattle.sched_laws.proofs.Steady.{member_still, pack_still}
use Rattle.sched_laws.proofs.Keeping.{places_still}
use Rattle.sched_laws.proofs.QuietTicks.{calm_quiet, calm_unspent}
use Rattle.sched_base.specs.declared.sets.Task as declared

module _ (tasks : List declared.Task) (t : Tree) (h : IsTree t) (leaves : HaveBoundaries (set_boundary tasks) t) (holds : HoldsTasks tasks t)
    (n : ℕ) (early : suc n < 2 ^ 33 * t.scale) (calm : is_event (set_boundary tasks) t (suc n) ≡ false) where
  -- the same nodes run
  pub node_still : (x : ℕ) → x < length t.nodes → runs (set_boundary tasks) t x (suc n) ≡ runs (set_boundary tasks) t x n
  node_still x l =
      let quiet = calm_quiet (set_boundary tasks) t h (idle_late tasks) holds.real n early calm in
      let unspent = calm_unspent (set_boundary tasks) t h (idle_late tasks) holds.real n early calm in
      elim (cases_Bool (is_pack (kind_at t x))) [
        | inl on ↦ pack_still (set_boundary tasks) t h leaves n quiet unspent x (l, on)
        | inr off ↦ member_still (set_boundary tasks) t h leaves n quiet unspent x (l, off)
      ]

  -- each processor keeps its pack
  pub processors_still : onto_at (set_boundary tasks) t (suc n) ≡ onto_at (set_boundary tasks) t n
  processors_still =
      places_still (set_boundary tasks) t h leaves n
      (calm_quiet (set_boundary tasks) t h (idle_late tasks) holds.real n early calm)
      (calm_unspent (set_boundary tasks) t h (idle_late tasks) holds.real n early calm)

pub set_runs_still : (s : SetContents) → IsLawful s → (t : Tree) → IsTreeOf s t → (n : ℕ) → n + 1 < 2 ^ 33 * t.scale → is_event (set_boundary s.tasks) t
    (n + 1) ≡ false →
    (x : ℕ) → x < length t.nodes → runs (set_boundary s.tasks) t x (n + 1) ≡ runs (set_boundary s.tasks) t x n
set_runs_still s lawful t is n early calm x l =
    let next : suc n ≡ n + 1 = omega arith in
    let P : ℕ → Type 0 = λ m. m < 2 ^ 33 * t.scale → is_event (set_boundary s.tasks) t m ≡ false → runs (set_boundary s.tasks) t x m ≡ runs
    (set_boundary s.tasks) t x n in
    subst P next (λ e c. node_still s.tasks t is.tree (set_leaves s.tasks lawful.each t is.tasks) is.tasks n e c x l) early calm

pub set_places_still : (s : SetContents) → IsLawful s → (t : Tree) → IsTreeOf s t → (n : ℕ) → n + 1 < 2 ^ 33 * t.scale → is_event (set_boundary s.tasks) t
    (n + 1) ≡ false →
    onto_at (set_boundary s.tasks) t (n + 1) ≡ onto_at (set_boundary s.tasks) t n
set_places_still s lawful t is n early calm =
    let next : suc n ≡ n + 1 = omega arith in
    let P : ℕ → Type 0 = λ m. m < 2 ^ 33 * t.scale → is_event (set_boundary s.tasks) t m ≡ false → onto_at (set_boundary s.tasks) t m ≡ onto_at
    (set_boundary s.tasks) t n in
    subst P next (λ e c. processors_still s.tasks t is.tree (set_leaves s.tasks lawful.each t is.tasks) is.tasks n e c) early calm
