use Rattle.std.proofs.Common.{◌<◌, ◌≤◌, length, sym, arith, le_refl, le_trans}
use Rattle.std.proofs.lemmas.List.{take_all}
use Rattle.std.proofs.lemmas.Option.{get_or_from_slice_get}
use Rattle.sched_base.specs.Tables.{lane_of}
use Rattle.sched_edges.proofs.Wrote.{item_written, wrote_item}
use Rattle.table_text.specs.Lines.{row_line}
use Rattle.sched_edges.proofs.CauseLemmas.{cause_cut, took_none}
use Rattle.table_text.proofs.lanes.write_rows.Goals as goal

pub loop-i-init : goal.loop-i-init
loop-i-init g c = (took_none _, le_refl _)

pub returns-in_err-write_all-clause-wrote : goal.returns-in_err-write_all-clause-wrote
returns-in_err-write_all-clause-wrote g c =
    let lane = lane_of c.args.rows.now.lanes c.args.p in
    let i = c.loop-i.i in
    let r = c.row-row.result in
    let many = c.count-i-end.ensures in
    let within : i < length lane = omega (arith, many, c.loop-i-test.true) in
    let at = sym (get_or_from_slice_get lane i r r c.row-row.ensures) in
    let wrote = rw (c.as_slice.ensures.bytes, c.row_line.ensures) at c.in_err-write_all.ensures.wrote in
    wrote_item (row_line c.args.step) lane i r _ _ _ _ _ within at c.loop-i.invariant.0 wrote c.from_residual.ensures.0

pub loop-i-preserved : goal.loop-i-preserved
loop-i-preserved g c =
    let lane = lane_of c.args.rows.now.lanes c.args.p in
    let i = c.loop-i.i in
    let r = c.row-row.result in
    let many = c.count-i-end.ensures in
    let within : i < length lane = omega (arith, many, c.loop-i-test.true) in
    let at = sym (get_or_from_slice_get lane i r r c.row-row.ensures) in
    let wrote = rw (c.as_slice.ensures.bytes, c.row_line.ensures) at c.in_ok-write_all.ensures.wrote in
    (item_written (row_line c.args.step) lane i r _ _ _ within at c.loop-i.invariant.0 wrote.ok, le_trans c.loop-i.invariant.1 c.write_all.ensures.cause.later)

pub returns-clause-wrote : goal.returns-clause-wrote
returns-clause-wrote g c =
    let lane = lane_of c.args.rows.now.lanes c.args.p in
    let many = c.count-i-end.ensures in
    let past : length lane ≤ c.loop-i.i = omega (arith, many, c.loop-i-test.false) in
    let all = take_all c.loop-i.i lane past in
    record { ok = rw all at c.loop-i.invariant.0; err = tt }

pub returns-in_err-write_all-clause-cause : goal.returns-in_err-write_all-clause-cause
returns-in_err-write_all-clause-cause g c = cause_cut _ _ _ _ _ c.loop-i.invariant.1 c.in_err-write_all.ensures.cause

pub returns-clause-cause : goal.returns-clause-cause
returns-clause-cause g c = record { later = c.loop-i.invariant.1; failed = tt }
