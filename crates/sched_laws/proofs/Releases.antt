-- Rows before a task's offset, and that its first release is an event.
use Rattle.std.proofs.Common.{Bool, List, ap, arith, eq-eqb, eqb, false, inl, inr, length, ltb, mul-div_cancel, refl, suc, sym, true, zero, zero-add}
use Rattle.std.proofs.Common.{ℕ, ◌%◌, ◌&&◌, ◌*◌, ◌+◌, ◌/◌, ◌∙◌, ◌≡◌, ◌≤◌}
use Rattle.std.proofs.lemmas.Bool.{and_from, both_ways, cases_Bool, eqb-true, le-ltb, ltb-false, or_left}
use Rattle.std.proofs.lemmas.List.Folds.{list_any_at}
use Rattle.std.proofs.lemmas.List.FromFn.{get_or-range_with_len, length-range_with_len}
use Rattle.std.specs.List.{range_with_len}
use native.Mathlib.Nat.{mul-mod_left}
use Rattle.sched_base.specs.declared.rows.Leaf.{Leaf}
use Rattle.sched_base.specs.declared.rows.Leaf.TheVariants.{Empty, Idle, Task, Wait}
use Rattle.sched_base.specs.Sets.{task_at}
use Rattle.sched_base.specs.Rows.{is_of_task}
use Rattle.sched_base.proofs.BoolLemmas.{same_Bool}
use Rattle.sched_base.proofs.RowLemmas.{is_of_task_same}
use Rattle.run_tree.specs.Tree.{IsLeaf, IsTree, Tree, is_leaf, kind_at, leaf}
use Rattle.sched_base.specs.Boundaries.{task_boundary}
use Rattle.run_tree.specs.Boundaries.{set_boundary}
use Rattle.run_tree.specs.Rounds.{is_event, is_task, task_begins}
use Rattle.run_tree.specs.Schedule.{shown}
use Rattle.run_tree.specs.TreeOfSet.{task_id}
use Rattle.run_tree.proofs.SetBoundaryLemmas.{offset_at}
use Rattle.sched_base.specs.declared.sets.Task as declared

-- a row that shows a task is one of its leaf, and starts at its offset or later
pub shown_task : (tasks : List declared.Task) (scale start j : ℕ) (l : Leaf) → is_of_task j (shown tasks scale start l) ≡ true → (is_of_task j l ≡ true)
    × ((task_at tasks j).offset * scale ≤ start)
shown_task tasks scale start j (Task id) e =
    elim (cases_Bool (ltb start ((task_at tasks id.0).offset * scale))) [
      | inl on ↦ absurd (both_ways false refl (sym (ap (λ (b : Bool). is_of_task j (elim b as (λ y. Leaf) [ true ↦ Wait id | false ↦ Task id ])) on) ∙ e))
      | inr off ↦
          (let at : eqb id.0 j ≡ true = sym (ap (λ (b : Bool). is_of_task j (elim b as (λ y. Leaf) [ true ↦ Wait id | false ↦ Task id ])) off) ∙ e in
          let low = ltb-false start ((task_at tasks id.0).offset * scale) off in
          let same = ap (λ z. (task_at tasks z).offset * scale) (eqb-true id.0 j at) in
          (at, omega (arith, low, same)))
    ]
shown_task tasks scale start j (Wait id) e = absurd (both_ways false refl e)
shown_task tasks scale start j (Idle number) e = absurd (both_ways false refl e)
shown_task tasks scale start j Empty e = absurd (both_ways false refl e)

-- from the offset on a task's leaf is shown as the task
pub shown_kept : (tasks : List declared.Task) (scale start j : ℕ) (l : Leaf) → is_of_task j l ≡ true → (task_at tasks j).offset * scale ≤ start →
    is_of_task j (shown tasks scale start l) ≡ true
shown_kept tasks scale start j l e low =
    ap (λ m. is_of_task j (shown tasks scale start m)) (is_of_task_same j l e)
    ∙ ap (λ (b : Bool). is_of_task j (elim b as (λ y. Leaf) [ true ↦ Wait (task_id j) | false ↦ Task (task_id j) ]))
    (le-ltb start ((task_at tasks j).offset * scale) low)
    ∙ eq-eqb j j refl

-- so from the offset on rows are of the task where their leaf is
pub shown_same : (tasks : List declared.Task) (scale start j : ℕ) (l : Leaf) → (task_at tasks j).offset * scale ≤ start →
    is_of_task j (shown tasks scale start l) ≡ is_of_task j l
shown_same tasks scale start j l low =
    same_Bool (is_of_task j (shown tasks scale start l)) (is_of_task j l) (λ e. (shown_task tasks scale start j l e).0) (λ e. shown_kept tasks scale start j
    l e low)

-- only an empty leaf is shown as empty
pub shown_empty : (tasks : List declared.Task) (scale start : ℕ) (l : Leaf) → shown tasks scale start l ≡ Empty → l ≡ Empty
shown_empty tasks scale start (Task id) e = elim (cases_Bool (ltb start ((task_at tasks id.0).offset * scale))) [
  | inl on ↦ (let f : Wait id ≡ Empty = sym (ap (λ (b : Bool). elim b as (λ y. Leaf) [ true ↦ Wait id | false ↦ Task id ]) on) ∙ e in cc)
  | inr off ↦ (let f : Task id ≡ Empty = sym (ap (λ (b : Bool). elim b as (λ y. Leaf) [ true ↦ Wait id | false ↦ Task id ]) off) ∙ e in cc)
]
shown_empty tasks scale start (Wait id) e = e
shown_empty tasks scale start (Idle number) e = e
shown_empty tasks scale start Empty e = e

-- a task's first release is an event
pub release_event : (tasks : List declared.Task) (t : Tree) → IsTree t → (x j : ℕ) → IsLeaf t x → leaf t x ≡ Task (task_id j) →
    is_event (set_boundary tasks) t ((task_at tasks j).offset * t.scale) ≡ true
unfolding is_event
release_event tasks t h x j i e = go ((task_at tasks j).offset * t.scale) refl
  where
    go : (n : ℕ) → (task_at tasks j).offset * t.scale ≡ n → is_event (set_boundary tasks) t n ≡ true
    go zero f = refl
    go (suc n) f =
        (let whole : suc n % t.scale ≡ 0 = ap (λ z. z % t.scale) (sym f) ∙ mul-mod_left (task_at tasks j).offset t.scale in
        let unit : suc n / t.scale ≡ (task_at tasks j).offset = ap (λ z. z / t.scale) (sym f) ∙ mul-div_cancel (task_at tasks j).offset h.scaled in
        let first : (task_at tasks j).offset + 0 * (task_at tasks j).period ≡ (task_at tasks j).offset = omega arith in
        let here : set_boundary tasks (leaf t x) (suc n / t.scale) ≡ true =
        ap (λ l. set_boundary tasks l (suc n / t.scale)) e ∙ ap (task_boundary (task_at tasks j)) (unit ∙ sym first) ∙ offset_at (task_at tasks j) 0 in
        let begins : task_begins (set_boundary tasks) t (suc n) x ≡ true =
        and_from (is_leaf (kind_at t x) && is_task (leaf t x)) (set_boundary tasks (leaf t x) (suc n / t.scale))
        (and_from (is_leaf (kind_at t x)) (is_task (leaf t x)) i.1 (ap is_task e)) here in
        let any = list_any_at (λ y. task_begins (set_boundary tasks) t (suc n) y) (range_with_len 0 (length t.nodes)) x 0
        (let c = length-range_with_len 0 (length t.nodes) in let b = i.0 in omega (arith, c, b))
        (ap (λ y. task_begins (set_boundary tasks) t (suc n) y) (get_or-range_with_len 0 (length t.nodes) x 0 i.0 ∙ zero-add x) ∙ begins) in
        or_left _ _ (and_from (eqb (suc n % t.scale) 0) _ (eq-eqb (suc n % t.scale) 0 whole) any))
