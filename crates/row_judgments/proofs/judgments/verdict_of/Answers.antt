use Rattle.std.proofs.Common.{◌≡◌, ◌+◌, ◌*◌, ◌≤◌, ℕ, length, arith, inl, inr, ◌⊎◌, subst, not, ltb, leb, eqb}
use Rattle.sched_base.specs.declared.rows.Row.{Row}
use Rattle.trace_verdict.specs.Searches.{kind_of}
use Rattle.std.proofs.lemmas.Bool.{cases_eq}
use Rattle.trace_verdict.specs.Orders.{task_key}
use Rattle.trace_verdict.specs.Faults.{row_at}
use Rattle.trace_verdict.proofs.IndexLemmas.{distinct-from_NoHits}
use Rattle.trace_verdict.proofs.VerdictLemmas.{row_verdict, total_verdict, no_verdict, order_within, fit_parts}
use Rattle.row_judgments.proofs.judgments.verdict_of.Goals as goal

pub returns-then-first-count : goal.returns-then-first-count
returns-then-first-count c =
    let i : ℕ = c.min-first.result in
    let a : i ≤ c.args.unfit = omega arith in
    let b : i ≤ c.args.hit = omega arith in
    let d : i ≤ c.first_task_hit-task_hit.result = omega arith in
    let which : (i ≡ c.args.unfit) ⊎ ((i ≡ c.args.hit) ⊎ (i ≡ c.first_task_hit-task_hit.result)) =
    elim (cases_eq i c.args.unfit) [
      | inl e ↦ inl e
      | inr x ↦ (elim (cases_eq i c.args.hit) [
        | inl e ↦ inr (inl e)
        | inr y ↦ inr (inr (omega (arith, x, y)))
      ])
    ] in
    row_verdict c.args.set.now c.args.scale c.args.rows.now c.args.unfit c.args.hit c.first_task_hit-task_hit.result i
    (6 + c.from.result + c.from-then-first-count.result) c.row_kind-kind.result
    c.requires.unfit c.requires.hit c.first_task_hit-task_hit.ensures a b d (omega arith) (omega arith) which
    (subst (λ (r : Row). c.row_kind-kind.result ≡ kind_of (not (ltb r.processor c.args.set.now.processors))
    (not (leb r.end (c.args.set.now.horizon * c.args.scale))) (eqb c.args.hit i) (eqb c.first_task_hit-task_hit.result i))
    c.get.ensures c.row_kind-kind.ensures)

pub first_unsupplied-task-requires-clause-within : goal.first_unsupplied-task-requires-clause-within
first_unsupplied-task-requires-clause-within c =
    order_within c.args.set.now c.args.scale c.args.rows.now c.args.by_task.now c.requires.trace c.requires.by_task
    (λ i h. fit_parts c.args.set.now c.args.scale (row_at c.args.rows.now i) (c.requires.unfit.before i (omega (arith, h))))

pub first_unsupplied-task-requires-clause-apart : goal.first_unsupplied-task-requires-clause-apart
first_unsupplied-task-requires-clause-apart c =
    distinct-from_NoHits task_key (length c.args.rows.now) c.args.rows.now c.args.by_task.now c.requires.by_task.same
    (λ k j h m l. c.first_task_hit-task_hit.ensures.before k j h (omega (arith, m)))

pub returns-then-task-count : goal.returns-then-task-count
returns-then-task-count c =
    total_verdict c.args.set.now c.args.scale c.args.rows.now c.args.unfit c.args.hit c.first_task_hit-task_hit.result c.first_unsupplied-task.result
    (6 + c.from-then-task-count.result + c.from-then-task-count-2.result + c.from-then-task-count-3.result)
    c.requires.unfit c.requires.hit c.first_task_hit-task_hit.ensures (omega arith) (omega arith) (omega arith) c.first_unsupplied-task.ensures
    (omega arith) (omega arith)

pub returns : goal.returns
returns c =
    no_verdict c.args.set.now c.args.scale c.args.rows.now c.args.unfit c.args.hit c.first_task_hit-task_hit.result c.first_unsupplied-task.result
    c.requires.unfit c.requires.hit c.first_task_hit-task_hit.ensures (omega arith) (omega arith) (omega arith) c.first_unsupplied-task.ensures (omega arith)

pub first_task_hit-task_hit-requires-clause-trace : goal.first_task_hit-task_hit-requires-clause-trace
first_task_hit-task_hit-requires-clause-trace c = c.requires.trace

pub first_task_hit-task_hit-requires-clause-order : goal.first_task_hit-task_hit-requires-clause-order
first_task_hit-task_hit-requires-clause-order c = c.requires.by_task

pub row_kind-kind-requires : goal.row_kind-kind-requires
row_kind-kind-requires c = record { scale = c.requires.trace.scale_fits }

pub first_unsupplied-task-requires-clause-trace : goal.first_unsupplied-task-requires-clause-trace
first_unsupplied-task-requires-clause-trace c = c.requires.trace

pub first_unsupplied-task-requires-clause-order : goal.first_unsupplied-task-requires-clause-order
first_unsupplied-task-requires-clause-order c = c.requires.by_task
