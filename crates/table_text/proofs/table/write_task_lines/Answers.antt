use Rattle.std.proofs.Common.{le_refl}
use Rattle.sched_edges.proofs.Wrote.{wrote_item}
use Rattle.table_text.specs.Lines.{task_line}
use Rattle.sched_edges.proofs.CauseLemmas.{cause_cut, took_none}
use Rattle.table_text.proofs.table.write_task_lines.Goals as goal

pub loop-task-init : goal.loop-task-init
loop-task-init g c = (took_none _, le_refl _)

pub returns-in_err-write_all-clause-wrote : goal.returns-in_err-write_all-clause-wrote
returns-in_err-write_all-clause-wrote g c =
    let wrote = rw (c.as_slice.ensures.bytes, c.task_line.ensures) at c.in_err-write_all.ensures.wrote in
    rw (← c.tasks-task-items.ensures.value)
    (wrote_item task_line c.tasks-task-items.result.now c.loop-task.task-index c.task-item.result _ _ _ _ _ c.loop-task-test.true c.task-item.is
    c.loop-task.invariant.0 wrote c.from_residual.ensures.0)

pub returns-in_err-write_all-clause-cause : goal.returns-in_err-write_all-clause-cause
returns-in_err-write_all-clause-cause g c = cause_cut _ _ _ _ _ c.loop-task.invariant.1 c.in_err-write_all.ensures.cause

pub returns-clause-cause : goal.returns-clause-cause
returns-clause-cause g c = record { later = c.loop-task.invariant.1; failed = tt }
