use Rattle.std.proofs.Common.{le_trans}
use Rattle.sched_edges.proofs.Wrote.{item_written, wrote_item}
use Rattle.tree_text.specs.Text.{task_line}
use Rattle.sched_edges.proofs.CauseLemmas.{cause_cut}
use Rattle.tree_text.proofs.PieceLemmas.{items_done}
use Rattle.tree_text.proofs.text.write_tasks.Goals as goal

pub returns-in_err-write_all-clause-wrote : goal.returns-in_err-write_all-clause-wrote
returns-in_err-write_all-clause-wrote g c =
    let wrote = rw (c.as_slice.ensures.bytes, c.line_of_task.ensures) at c.in_err-write_all.ensures.wrote in
    rw (← c.tasks-task-items.ensures.value)
    (wrote_item task_line c.tasks-task-items.result.now c.loop-task.task-index c.task-item.result _ _ _ _ _ c.loop-task-test.true c.task-item.is
    c.loop-task.invariant.0 wrote c.from_residual.ensures.0)

pub returns-in_err-write_all-clause-cause : goal.returns-in_err-write_all-clause-cause
returns-in_err-write_all-clause-cause g c = cause_cut _ _ _ _ _ c.loop-task.invariant.1 c.in_err-write_all.ensures.cause

pub loop-task-preserved : goal.loop-task-preserved
loop-task-preserved g c =
    let wrote = rw (c.as_slice.ensures.bytes, c.line_of_task.ensures) at c.in_ok-write_all.ensures.wrote.ok in (
      item_written task_line c.tasks-task-items.result.now c.loop-task.task-index c.task-item.result _ _ _ c.loop-task-test.true c.task-item.is
          c.loop-task.invariant.0 wrote,
      le_trans c.loop-task.invariant.1 c.write_all.ensures.cause.later,
    )

pub returns-clause-wrote : goal.returns-clause-wrote
returns-clause-wrote g c =
    rw (← c.tasks-task-items.ensures.value) (items_done task_line c.tasks-task-items.result.now c.loop-task.task-index _ _ _ c.loop-task-test.false
    c.loop-task.invariant.0)

pub returns-clause-cause : goal.returns-clause-cause
returns-clause-cause g c = record { later = c.loop-task.invariant.1; failed = tt }
