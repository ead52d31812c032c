use Rattle.std.proofs.Common.{◌<◌, ◌≤◌, length, ap, arith, le_refl, le_trans}
use Rattle.std.specs.List.{enumerate_from}
use Rattle.std.proofs.lemmas.List.{take_all}
use Rattle.std.proofs.lemmas.List.FromFn.{length-enumerate_from}
use Rattle.sched_edges.proofs.Wrote.{item_written, wrote_item}
use Rattle.sched_edges.proofs.CauseLemmas.{cause_cut, took_none}
use Rattle.trace_writer.proofs.TotalLemmas.{total_line, total_lines_are, numbered}
use Rattle.trace_writer.proofs.body.write_totals.Goals as goal

pub loop-i-init : goal.loop-i-init
loop-i-init g c = (took_none _, le_refl _)

pub bounds-totals-i : goal.bounds-totals-i
bounds-totals-i g c =
    let items = ap length c.tasks-task-items.ensures.value in
    omega (arith, c.requires, items, c.loop-i-test.true)

pub returns-in_err-write_all-clause-wrote : goal.returns-in_err-write_all-clause-wrote
returns-in_err-write_all-clause-wrote g c =
    let tasks = c.args.set.now.tasks in
    let totals = c.args.totals.now in
    let i = c.loop-i.i in
    let items = ap length c.tasks-task-items.ensures.value in
    let within : i < length tasks = omega (arith, items, c.loop-i-test.true) in
    let among : i < length (enumerate_from 0 tasks) = omega (arith, within, length-enumerate_from 0 tasks) in
    let is = rw c.tasks-task-items.ensures.value at c.task-item.is in
    let wrote = rw (c.as_slice-in-loop-i.ensures.bytes, c.named_line-line.ensures, c.as_slice.ensures.bytes) at c.in_err-write_all.ensures.wrote in
    rw (total_lines_are tasks totals)
    (wrote_item (total_line totals) (enumerate_from 0 tasks) i (i, c.task-item.result) _ _ _ _ _ among (numbered tasks i c.task-item.result within is)
    c.loop-i.invariant.0 wrote c.from_residual.ensures.0)

pub loop-i-preserved : goal.loop-i-preserved
loop-i-preserved g c =
    let tasks = c.args.set.now.tasks in
    let totals = c.args.totals.now in
    let i = c.loop-i.i in
    let items = ap length c.tasks-task-items.ensures.value in
    let within : i < length tasks = omega (arith, items, c.loop-i-test.true) in
    let among : i < length (enumerate_from 0 tasks) = omega (arith, within, length-enumerate_from 0 tasks) in
    let is = rw c.tasks-task-items.ensures.value at c.task-item.is in
    let wrote = rw (c.as_slice-in-loop-i.ensures.bytes, c.named_line-line.ensures, c.as_slice.ensures.bytes) at c.in_ok-write_all.ensures.wrote in (
      item_written (total_line totals) (enumerate_from 0 tasks) i (i, c.task-item.result) _ _ _ among (numbered tasks i c.task-item.result within is)
          c.loop-i.invariant.0 wrote.ok,
      le_trans c.loop-i.invariant.1 c.write_all.ensures.cause.later,
    )

pub returns-clause-wrote : goal.returns-clause-wrote
returns-clause-wrote g c =
    let tasks = c.args.set.now.tasks in
    let items = ap length c.tasks-task-items.ensures.value in
    let past : length (enumerate_from 0 tasks) ≤ c.loop-i.i = omega (arith, items, c.loop-i-test.false, length-enumerate_from 0 tasks) in
    let all = take_all c.loop-i.i (enumerate_from 0 tasks) past in
    rw (total_lines_are tasks c.args.totals.now) (record { ok = rw all at c.loop-i.invariant.0; err = tt })

pub returns-in_err-write_all-clause-cause : goal.returns-in_err-write_all-clause-cause
returns-in_err-write_all-clause-cause g c = cause_cut _ _ _ _ _ c.loop-i.invariant.1 c.in_err-write_all.ensures.cause

pub returns-clause-cause : goal.returns-clause-cause
returns-clause-cause g c = record { later = c.loop-i.invariant.1; failed = tt }
