use Rattle.std.proofs.Common.{◌<◌, length, ap, arith}
use Rattle.trace_writer.proofs.FinishLemmas.{item_fits, room_put, begun_next}
use Rattle.trace_writer.proofs.finishes.begin_tasks.Goals as goal

pub begin-requires-clause-fits : goal.begin-requires-clause-fits
begin-requires-clause-fits c =
    let s = c.args.set.now in
    let items = ap length c.tasks-task-items.ensures.value in
    let within : c.loop-j.j < length s.tasks = omega (arith, items, c.loop-j-test.true) in
    item_fits s c.loop-j.finishes c.loop-j.j c.task-item.result _ c.tasks-task-items.ensures.lawful c.loop-j.invariant.0 within
    (rw c.tasks-task-items.ensures.value at c.task-item.is)

pub loop-j-preserved : goal.loop-j-preserved
loop-j-preserved c =
    let s = c.args.set.now in
    let items = ap length c.tasks-task-items.ensures.value in
    let within : c.loop-j.j < length s.tasks = omega (arith, items, c.loop-j-test.true) in (
      room_put s c.loop-j.finishes c.loop-j.j c.begin.new.self _ c.loop-j.invariant.0 within c.begin.ensures.same,
      begun_next c.args.scale s c.loop-j.finishes c.loop-j.j c.begin.new.self c.task-item.result c.loop-j.invariant.0 within
          (rw c.tasks-task-items.ensures.value at c.task-item.is)
          c.loop-j.invariant.1 (c.begin.ensures.none c.loop-j.j),
    )

pub returns-clause-none : goal.returns-clause-none
returns-clause-none c =
    let items = ap length c.tasks-task-items.ensures.value in
    λ j within. c.loop-j.invariant.1 j (omega (arith, within, items, c.loop-j-test.false))
