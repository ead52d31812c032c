use Rattle.std.proofs.Common.{◌≡◌, ◌<◌, length, ap, arith, le_refl, le_trans}
use Rattle.sched_edges.proofs.Wrote.{number_written, wrote_number}
use Rattle.trace_draw.specs.Periods.{task_text}
use Rattle.sched_edges.proofs.CauseLemmas.{cause_cut, took_none}
use Rattle.trace_draw.proofs.periods.write_tasks.Goals as goal

pub loop-task-init : goal.loop-task-init
loop-task-init g c = (took_none _, le_refl _)

pub returns-in_err-write_task-clause-wrote : goal.returns-in_err-write_task-clause-wrote
returns-in_err-write_task-clause-wrote g c =
    let t = c.args.scene.now.trace.now in
    let j = c.loop-task.task in
    let below : j < length t.set.tasks = omega (arith, c.loop-task-test.true, c.count-task-end.ensures.value, ap (λ s. length s.tasks) c.set.ensures) in
    wrote_number (task_text t c.args.scene.now.window.now c.args.scene.now.verdict) (length t.set.tasks) j _ _ _ _ _ below c.loop-task.invariant.0
    c.in_err-write_task.ensures.wrote
    c.from_residual.ensures.0

pub loop-task-preserved : goal.loop-task-preserved
loop-task-preserved g c = (
  number_written (task_text c.args.scene.now.trace.now c.args.scene.now.window.now c.args.scene.now.verdict) c.loop-task.task _ _ _ c.loop-task.invariant.0
      c.in_ok-write_task.ensures.wrote.ok,
  le_trans c.loop-task.invariant.1 c.write_task.ensures.cause.later,
)

pub returns-clause-wrote : goal.returns-clause-wrote
returns-clause-wrote g c =
    let all : c.loop-task.task ≡ length c.args.scene.now.trace.now.set.tasks
    = omega (arith, c.loop-task-test.false, c.loop-task.auto.task-end, c.count-task-end.ensures.value, ap (λ s. length s.tasks) c.set.ensures) in
    record { ok = rw all at c.loop-task.invariant.0; err = tt }

pub returns-in_err-write_task-clause-cause : goal.returns-in_err-write_task-clause-cause
returns-in_err-write_task-clause-cause g c = cause_cut _ _ _ _ _ c.loop-task.invariant.1 c.in_err-write_task.ensures.cause

pub returns-clause-cause : goal.returns-clause-cause
returns-clause-cause g c = record { later = c.loop-task.invariant.1; failed = tt }

pub write_task-requires-clause-window : goal.write_task-requires-clause-window
write_task-requires-clause-window g c = c.requires.window
