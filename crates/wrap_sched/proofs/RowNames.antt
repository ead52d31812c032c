-- The tasks that rows name, and what a slice gives.
use Rattle.std.proofs.Common.{◌≡◌, ℕ, ◌+◌, ◌*◌, ◌-◌, ◌<◌, ◌≤◌, List, arith, inl, inr, length, subst, sym}
use Rattle.std.specs.Prelude.{nat_lt}
use Rattle.std.proofs.lemmas.Bool.{cases_Bool, ltb-true}
use Rattle.std.specs.List.{AllByRecursion}
use Rattle.sched_base.specs.declared.sets.Task as declared
use Rattle.sched_base.specs.Rows.{task_ticks}
use Rattle.sched_base.specs.Scale.{Fits, IsScale, rate_of}
use Rattle.sched_base.specs.Sets.{IsLawful, SetContents, task_at}
use Rattle.sched_base.specs.Lanes.{NamesOneOf, lanes_of}
use Rattle.wrap_sched.specs.Spans.{Span}
use Rattle.wrap_sched.specs.Wrapped.{holder, leaf_of, shares, slice_rows, units, wrapped}
use Rattle.sched_base.proofs.ScheduleLanes.{lanes_of-all}
use Rattle.wrap_sched.proofs.SliceLemmas.{leaf_idle, leaf_runs, leaf_waits}
use Rattle.wrap_sched.proofs.ValidRows.{slice_inside, wrapped_all}

-- what a row shows names a task of the set
leaf_names : (tasks : List declared.Task) (x p i : ℕ) → NamesOneOf tasks (leaf_of tasks x p i)
leaf_names tasks x p i =
    elim (cases_Bool (nat_lt i (length tasks))) [
      | inr off ↦ subst (NamesOneOf tasks) (sym (leaf_idle tasks x p i off)) tt
      | inl on ↦ elim (cases_Bool (nat_lt x (task_at tasks i).offset)) [
        | inl early ↦ subst (NamesOneOf tasks) (sym (leaf_waits tasks x p i on early)) (ltb-true i (length tasks) on)
        | inr late ↦ subst (NamesOneOf tasks) (sym (leaf_runs tasks x p i on late)) (ltb-true i (length tasks) on)
      ]
    ]

pub wrapped_names : (s : SetContents) (scale : ℕ) → IsLawful s → IsScale s.tasks scale → Fits scale s → AllByRecursion (λ r. NamesOneOf s.tasks r.leaf)
    (wrapped scale s)
wrapped_names s scale lawful is fits = wrapped_all s scale lawful is fits (λ r. NamesOneOf s.tasks r.leaf)
    (λ slice r up high begins ends p b. leaf_names s.tasks slice.begin p (holder (shares scale (units slice) s.tasks) (p * (units slice * scale) + r.begin)))

-- so does each lane
pub lanes_name : (s : SetContents) (scale : ℕ) → IsLawful s → IsScale s.tasks scale → Fits scale s
    → AllByRecursion (λ rows. AllByRecursion (λ r. NamesOneOf s.tasks r.leaf) rows) (lanes_of s.processors (wrapped scale s))
lanes_name s scale lawful is fits = lanes_of-all (λ r. NamesOneOf s.tasks r.leaf) s.processors (wrapped scale s) (wrapped_names s scale lawful is fits)

-- from its offset on a slice gives a task exactly its rate for each unit
pub slice_share : (s : SetContents) (scale : ℕ) → IsLawful s → IsScale s.tasks scale → Fits scale s → (slice : Span) → slice.begin < slice.end → (j : ℕ) →
    j < length s.tasks → (task_at s.tasks j).offset ≤ slice.begin
    → task_ticks (slice_rows scale s.tasks s.processors slice) j (slice.begin * scale) (slice.end * scale) ≡ rate_of scale (task_at s.tasks j)
    * (slice.end - slice.begin)
slice_share s scale lawful is fits slice up j l late = slice_inside s scale lawful is fits slice up j (slice.begin * scale) (slice.end * scale) l late
    (let e : slice.begin * scale ≤ slice.begin * scale = omega arith in e) (let e : slice.end * scale ≤ slice.end * scale = omega arith in e)
