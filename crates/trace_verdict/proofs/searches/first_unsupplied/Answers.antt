use Rattle.std.proofs.Common.{◌≡◌, length, arith}
use Rattle.std.proofs.lemmas.Bool.{both_ways}
use Rattle.trace_verdict.specs.Orders.{part}
use Rattle.trace_verdict.proofs.OverlapLemmas.{Rising, Rising-from_sorted}
use Rattle.trace_verdict.proofs.DueLemmas.{stands_as, supplied_for, not_supplied, reaches_first, reaches_mine, reaches_next}
use Rattle.trace_verdict.proofs.searches.first_unsupplied.Goals as goal

pub loop-task-init : goal.loop-task-init
loop-task-init c = reaches_first c.args.set.now c.args.scale c.args.rows.now c.args.by_task.now (Rising-from_sorted c.args.by_task.now c.requires.order.sorted)

pub is_supplied-requires-clause-apart : goal.is_supplied-requires-clause-apart
is_supplied-requires-clause-apart c =
    let s = c.args.set.now in
    let es = c.args.by_task.now in
    let j = c.loop-task.task in
    let front = c.split_at.result.0.now in
    let rise : Rising es = Rising-from_sorted es c.requires.order.sorted in
    let mine : front ≡ part j es = reaches_mine s c.args.scale c.args.rows.now es j c.front_len.result c.loop-task.rest.now front c.loop-task.invariant
    c.front_len.ensures c.split_at.ensures.front in
    (stands_as s c.args.scale (length c.args.rows.now) es front j c.task_periods.result c.requires.within rise c.requires.apart
    c.task_periods.ensures.periods mine).apart

pub is_supplied-requires-clause-none : goal.is_supplied-requires-clause-none
is_supplied-requires-clause-none c =
    let s = c.args.set.now in
    let es = c.args.by_task.now in
    let j = c.loop-task.task in
    let front = c.split_at.result.0.now in
    let rise : Rising es = Rising-from_sorted es c.requires.order.sorted in
    let mine : front ≡ part j es = reaches_mine s c.args.scale c.args.rows.now es j c.front_len.result c.loop-task.rest.now front c.loop-task.invariant
    c.front_len.ensures c.split_at.ensures.front in
    (stands_as s c.args.scale (length c.args.rows.now) es front j c.task_periods.result c.requires.within rise c.requires.apart
    c.task_periods.ensures.periods mine).none

pub returns-then-not-is_supplied : goal.returns-then-not-is_supplied
returns-then-not-is_supplied c =
    let s = c.args.set.now in
    let rows = c.args.rows.now in
    let es = c.args.by_task.now in
    let j = c.loop-task.task in
    let front = c.split_at.result.0.now in
    let rise : Rising es = Rising-from_sorted es c.requires.order.sorted in
    let mine : front ≡ part j es = reaches_mine s c.args.scale rows es j c.front_len.result c.loop-task.rest.now front c.loop-task.invariant
    c.front_len.ensures c.split_at.ensures.front in
    record {
      within = omega (arith, c.loop-task-test.true, c.count-task-end.ensures.value);
      before = c.loop-task.invariant.met;
      at = λ h. not_supplied s c.args.scale (length rows) rows es j c.count-task-end.ensures.lawful c.requires.trace.some_scale c.requires.trace.scale_fits
          h c.requires.order.same c.requires.within rise c.requires.apart
          (λ sup. both_ways _ c.if-not-is_supplied.true (c.is_supplied.ensures.1 (supplied_for s c.args.scale es front j c.task_periods.result
          c.task_periods.ensures.periods mine sup)));
    }

pub loop-task-preserved : goal.loop-task-preserved
loop-task-preserved c =
    reaches_next c.args.set.now c.args.scale c.args.rows.now c.args.by_task.now c.loop-task.task c.front_len.result c.loop-task.rest.now
    c.split_at.result.0.now c.split_at.result.1.now c.task_periods.result
    c.loop-task.invariant c.front_len.ensures c.requires.order.same c.split_at.ensures.front c.split_at.ensures.back c.task_periods.ensures.periods
    (c.is_supplied.ensures.0 c.if-not-is_supplied.false)

pub returns : goal.returns
returns c =
    let all : c.loop-task.task ≡ length c.args.set.now.tasks = omega (
      arith,
      c.count-task-end.ensures.value,
      c.loop-task-test.false,
      c.loop-task.auto.task-end,
    ) in
    record {
      within = omega (arith, c.count.ensures.value);
      before = λ i k h m. c.loop-task.invariant.met i k (omega (arith, h, all, c.count.ensures.value)) m;
      at = λ h. absurd (omega (arith, h, c.count.ensures.value));
    }
