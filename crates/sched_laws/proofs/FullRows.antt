-- No row of a schedule is empty.
use Rattle.std.proofs.Common.{List, None, Option, Some, [], ap, arith, eq-eqb, eqb, get_or, le_refl, length, refl, suc, sym, ℕ, ◌<◌, ◌∙◌, ◌∷◌, ◌≡◌}
use Rattle.std.proofs.lemmas.Bool.{both_ways}
use Rattle.std.specs.List.{AllByRecursion}
use Rattle.sched_base.specs.declared.rows.Leaf.TheVariants.{Empty}
use Rattle.sched_base.specs.Sets.{IsLawful, SetContents}
use Rattle.sched_base.proofs.CountingLemmas.{bit_at}
use Rattle.sched_base.proofs.ListLemmas.{first_from}
use Rattle.sched_base.proofs.HeldLemmas.{free, held}
use Rattle.run_tree.specs.Tree.{IsTree, Tree, at_level, leaf, level, member}
use Rattle.run_tree.specs.Boundaries.{HaveBoundaries, set_boundary}
use Rattle.run_tree.specs.Schedule.{onto_at, packs_at, round_rows, rows_from, schedule}
use Rattle.run_tree.specs.TreeOfSet.{HoldsTasks, IsTreeOf, is_real}
use Rattle.run_tree.proofs.TreeLemmas.{leaf_at_level, pack_at}
use Rattle.run_tree.proofs.SetBoundaryLemmas.{set_leaves}
use Rattle.sched_laws.proofs.PlacedPacks.{full, onto_within}
use Rattle.sched_laws.proofs.TaskRows.{leaf_in, leaf_in_runs}
use Rattle.sched_laws.proofs.RoundRows.{from_rounds, over_rounds}
use Rattle.sched_laws.proofs.Releases.{shown_empty}
use Rattle.sched_base.specs.declared.sets.Task as declared

-- where no processor is free and each pack has a leaf, no row is empty
pub none_empty : (tasks : List declared.Task) (t : Tree) (s e p : ℕ) (onto : List (Option ℕ)) → free onto ≡ 0 →
    ((i : ℕ) → 0 < held onto i → leaf_in (set_boundary tasks) t s (get_or (packs_at t 0) i 0) ≡ Empty → ⊥) → AllByRecursion (λ r. r.leaf ≡ Empty → ⊥)
    (rows_from tasks t s e p onto)
none_empty tasks t s e p [] z f = tt
none_empty tasks t s e p (None ∷ onto) z f = absurd (omega arith)
none_empty tasks t s e p (Some i ∷ onto) z f = (
  (λ x. f i (let o = bit_at (eqb i i) (eq-eqb i i refl) in omega (arith, o)) (shown_empty tasks t.scale s (leaf_in (set_boundary tasks) t s
      (get_or (packs_at t 0) i 0)) x)),
  none_empty tasks t s e (suc p) onto z (λ j some. f j (omega arith)),
)

module _ (tasks : List declared.Task) (t : Tree) (h : IsTree t) (leaves : HaveBoundaries (set_boundary tasks) t) (holds : HoldsTasks tasks t) where
  -- the pack on a processor has a leaf that runs
  pub leaf_there : (s i : ℕ) → 0 < held (onto_at (set_boundary tasks) t s) i → leaf_in (set_boundary tasks) t s (get_or (packs_at t 0) i 0) ≡ Empty → ⊥
  leaf_there s i some e =
      let at = onto_within (set_boundary tasks) t h leaves s i some in
      let f = first_from (at_level t 0) (length t.nodes) 0 i at.0 in
      let p = get_or (packs_at t 0) i 0 in
      let (is_p, low) = pack_at t 0 p (let b = f.0 in omega (arith, b)) f.1 in
      let (k, lk, run, same) = leaf_in_runs (set_boundary tasks) t h leaves p s is_p at.1 in
      let m = h.members_are p k is_p lk in
      let a_leaf = leaf_at_level t h (member t p k) m.0 (ap (level t) m.1 ∙ low) in
      both_ways (is_real (leaf t (member t p k))) (ap is_real (sym same ∙ e)) (holds.real (member t p k) (m.0.0, a_leaf))

  -- no row of a round is empty
  pub round_full : (s e : ℕ) → AllByRecursion (λ r. r.leaf ≡ Empty → ⊥) (round_rows tasks t s e)
  unfolding round_rows
  round_full s e = none_empty tasks t s e 0 (onto_at (set_boundary tasks) t s) (full (set_boundary tasks) t h leaves s) (λ i some. leaf_there s i some)

-- no row of the schedule is
pub schedule_full : (s : SetContents) → IsLawful s → (t : Tree) → IsTreeOf s t → (stop : ℕ) → AllByRecursion (λ r. r.leaf ≡ Empty → ⊥) (schedule s.tasks t stop)
schedule_full s lawful t is stop = from_rounds s.tasks t stop (λ rows. AllByRecursion (λ r. r.leaf ≡ Empty → ⊥) rows) tt
    (λ n e. over_rounds s.tasks t _ stop 0 (λ begin end low up top. round_full s.tasks t is.tree (set_leaves s.tasks lawful.each t is.tasks) is.tasks begin
    end) n 1 0 e (le_refl 0) (omega arith))
