use Rattle.std.proofs.Common.{le_refl, le_trans}
use Rattle.std.proofs.lemmas.List.{take_all}
use Rattle.sched_edges.proofs.Wrote.{item_written, wrote_item}
use Rattle.trace_format.specs.Lines.{task_line}
use Rattle.sched_edges.proofs.CauseLemmas.{cause_cut, took_none}
use Rattle.trace_writer.proofs.body.write_tasks.Goals as goal

pub loop-task-init : goal.loop-task-init
loop-task-init g c = (took_none _, le_refl _)

pub returns-in_err-write_all-clause-wrote : goal.returns-in_err-write_all-clause-wrote
returns-in_err-write_all-clause-wrote g c =
    let wrote = rw (c.as_slice.ensures.bytes, c.line_of_task.ensures) at c.in_err-write_all.ensures.wrote in
    rw (← c.tasks-task-items.ensures.value)
    (wrote_item (task_line c.args.version) c.tasks-task-items.result.now c.loop-task.task-index c.task-item.result _ _ _ _ _ c.loop-task-test.true
    c.task-item.is c.loop-task.invariant.0 wrote c.from_residual.ensures.0)

pub returns-in_err-write_all-clause-cause : goal.returns-in_err-write_all-clause-cause
returns-in_err-write_all-clause-cause g c = cause_cut _ _ _ _ _ c.loop-task.invariant.1 c.in_err-write_all.ensures.cause

pub loop-task-preserved : goal.loop-task-preserved
loop-task-preserved g c =
    let wrote = rw (c.as_slice.ensures.bytes, c.line_of_task.ensures) at c.in_ok-write_all.ensures.wrote in (
      item_written (task_line c.args.version) c.tasks-task-items.result.now c.loop-task.task-index c.task-item.result _ _ _ c.loop-task-test.true
          c.task-item.is c.loop-task.invariant.0 wrote.ok,
      le_trans c.loop-task.invariant.1 c.write_all.ensures.cause.later,
    )

pub returns-clause-wrote : goal.returns-clause-wrote
returns-clause-wrote g c =
    let all = take_all c.loop-task.task-index c.tasks-task-items.result.now c.loop-task-test.false in
    rw (← c.tasks-task-items.ensures.value) (record { ok = rw all at c.loop-task.invariant.0; err = tt })

pub returns-clause-cause : goal.returns-clause-cause
returns-clause-cause g c = record { later = c.loop-task.invariant.1; failed = tt }
