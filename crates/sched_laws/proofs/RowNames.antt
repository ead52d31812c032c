-- The tasks that rows name.
use Rattle.std.proofs.Common.{◌≡◌, ℕ, suc, ◌*◌, ◌<◌, Bool, List, None, Option, Some, [], ◌∷◌, ap, arith, eq-eqb, eqb, get_or, inl, inr, le_refl}
use Rattle.std.proofs.Common.{length, ltb, refl, subst, sym, ◌∙◌, true, false}
use Rattle.std.proofs.lemmas.Bool.{cases_Bool}
use Rattle.std.specs.List.{AllByRecursion}
use Rattle.sched_base.specs.declared.rows.Leaf.{Leaf}
use Rattle.sched_base.specs.declared.rows.Leaf.TheVariants.{Empty, Idle, Task, Wait}
use Rattle.sched_base.specs.declared.sets.Task as declared
use Rattle.sched_base.specs.Sets.{task_at}
use Rattle.sched_base.proofs.CountingLemmas.{bit_at}
use Rattle.sched_base.proofs.ListLemmas.{first_from}
use Rattle.sched_base.proofs.HeldLemmas.{held}
use Rattle.run_tree.specs.Tree.{IsLeaf, IsTree, Tree, at_level, leaf, level, member}
use Rattle.run_tree.specs.Boundaries.{HaveBoundaries, set_boundary}
use Rattle.run_tree.specs.Schedule.{onto_at, packs_at, round_rows, rows_from, shown}
use Rattle.run_tree.specs.TreeOfSet.{HoldsTasks, is_real}
use Rattle.run_tree.specs.Plans.{IsPlan, PlanContents, schedule_of, stop_of}
use Rattle.run_tree.proofs.TreeLemmas.{leaf_at_level, pack_at}
use Rattle.run_tree.proofs.SetBoundaryLemmas.{set_leaves}
use Rattle.sched_laws.proofs.PlacedPacks.{onto_within}
use Rattle.sched_laws.proofs.RoundRows.{from_rounds, over_rounds}
use Rattle.sched_laws.proofs.TaskRows.{leaf_in, leaf_in_runs}
use Rattle.sched_base.specs.Lanes.{NamesOneOf}

-- a leaf as a row shows it names the same task
shown_names : (tasks : List declared.Task) (scale start : ℕ) (l : Leaf) → NamesOneOf tasks l → NamesOneOf tasks (shown tasks scale start l)
shown_names tasks scale start (Task id) h =
    let F : Bool → Type 0 = λ b. NamesOneOf tasks (elim b as (λ y. Leaf) [ true ↦ Wait id | false ↦ Task id ]) in
    elim (cases_Bool (ltb start ((task_at tasks id.0).offset * scale))) [
      | inl on ↦ subst F (sym on) h
      | inr off ↦ subst F (sym off) h
    ]
shown_names tasks scale start (Wait id) h = h
shown_names tasks scale start (Idle number) h = tt
shown_names tasks scale start Empty h = tt

-- where the packs on the processors run leaves of the tasks, the rows name tasks
rows_name : (tasks : List declared.Task) (t : Tree) (s e p : ℕ) (onto : List (Option ℕ))
    → ((i : ℕ) → 0 < held onto i → NamesOneOf tasks (leaf_in (set_boundary tasks) t s (get_or (packs_at t 0) i 0))) →
    AllByRecursion (λ r. NamesOneOf tasks r.leaf) (rows_from tasks t s e p onto)
rows_name tasks t s e p [] f = tt
rows_name tasks t s e p (None ∷ onto) f = (tt, rows_name tasks t s e (suc p) onto (λ i some. f i (omega arith)))
rows_name tasks t s e p (Some i ∷ onto) f = (
  shown_names tasks t.scale s (leaf_in (set_boundary tasks) t s (get_or (packs_at t 0) i 0)) (f i (let o = bit_at (eqb i i) (eq-eqb i i refl) in
      omega (arith, o))),
  rows_name tasks t s e (suc p) onto (λ j some. f j (omega arith)),
)

module _ (tasks : List declared.Task) (t : Tree) (h : IsTree t) (leaves : HaveBoundaries (set_boundary tasks) t) (holds : HoldsTasks tasks t) where
  -- the leaves of a tree name the set's tasks
  leaf_names : (x : ℕ) → IsLeaf t x → (l : Leaf) → leaf t x ≡ l → NamesOneOf tasks l
  leaf_names x is (Task id) e = holds.known x id is e
  leaf_names x is (Wait id) e = absurd (let real = holds.real x is in let b = ap is_real e in cc)
  leaf_names x is (Idle number) e = tt
  leaf_names x is Empty e = tt

  -- so does the leaf that a pack on a processor runs
  held_names : (s i : ℕ) → 0 < held (onto_at (set_boundary tasks) t s) i → NamesOneOf tasks (leaf_in (set_boundary tasks) t s (get_or (packs_at t 0) i 0))
  held_names s i some =
      let at = onto_within (set_boundary tasks) t h leaves s i some in
      let f = first_from (at_level t 0) (length t.nodes) 0 i at.0 in
      let p = get_or (packs_at t 0) i 0 in
      let (is_p, low) = pack_at t 0 p (let b = f.0 in omega (arith, b)) f.1 in
      let (k, lk, run, same) = leaf_in_runs (set_boundary tasks) t h leaves p s is_p at.1 in
      let m = h.members_are p k is_p lk in
      let a_leaf = leaf_at_level t h (member t p k) m.0 (ap (level t) m.1 ∙ low) in
      leaf_names (member t p k) (m.0.0, a_leaf) (leaf_in (set_boundary tasks) t s p) (sym same)

  round_names : (s e : ℕ) → AllByRecursion (λ r. NamesOneOf tasks r.leaf) (round_rows tasks t s e)
  unfolding round_rows
  round_names s e = rows_name tasks t s e 0 (onto_at (set_boundary tasks) t s) (λ i some. held_names s i some)

-- each task that a row of a plan's schedule names is one of its set
pub schedule_names : (p : PlanContents) → IsPlan p → AllByRecursion (λ r. NamesOneOf p.set.tasks r.leaf) (schedule_of p)
schedule_names p h = from_rounds p.set.tasks p.tree (stop_of p) (λ rows. AllByRecursion (λ r. NamesOneOf p.set.tasks r.leaf) rows) tt
    (λ n e. over_rounds p.set.tasks p.tree (λ r. NamesOneOf p.set.tasks r.leaf) (stop_of p) 0
    (λ begin end low up top. round_names p.set.tasks p.tree h.tree.tree (set_leaves p.set.tasks h.lawful.each p.tree h.tree.tasks) h.tree.tasks begin end) n
    1 0 e (le_refl 0) (omega arith))
