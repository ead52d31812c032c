use Rattle.std.proofs.Common.{◌+◌, ◌<◌, ◌≤◌, [], List, length, ap, arith, ◌∙◌, le_refl, le_trans, refl}
use Rattle.std.specs.List.{flat_map}
use Rattle.std.proofs.lemmas.List.{get_or_default, take_all}
use Rattle.sched_base.specs.declared.rows.Row.{Row}
use Rattle.sched_base.specs.Tables.{all_rows, lane_of}
use Rattle.sched_edges.proofs.Wrote.{item_written, wrote_item}
use Rattle.row_totals.specs.Sums.{NamesAmong}
use Rattle.trace_format.specs.Lines.{row_line}
use Rattle.sched_edges.proofs.CauseLemmas.{cause_cut, took_none}
use Rattle.trace_writer.proofs.CauseLemmas.{no_answer}
use Rattle.trace_writer.proofs.LaneLemmas.{lane_has}
use Rattle.trace_writer.proofs.MergedLemmas.{all_text, all_more, all_le}
use Rattle.trace_writer.proofs.rows.write_rows.Goals as goal

pub loop-p-init : goal.loop-p-init
loop-p-init g c = (took_none _, le_refl _, refl)

pub write_lane-requires-clause-names : goal.write_lane-requires-clause-names
write_lane-requires-clause-names g c =
    let lanes = g.R.ShownRows.lanes c.args.rows.now in
    let many = c.processors-p-end.ensures.count in
    lane_has (NamesAmong (length c.args.set.now.tasks)) lanes c.loop-p.p (omega (arith, many, c.loop-p-test.true)) c.requires.names

pub write_lane-requires-clause-whole : goal.write_lane-requires-clause-whole
write_lane-requires-clause-whole g c =
    let many = c.processors-p-end.ensures.count in
    c.processors-p-end.ensures.whole c.loop-p.p (omega (arith, many, c.loop-p-test.true))

pub write_lane-requires-clause-few : goal.write_lane-requires-clause-few
write_lane-requires-clause-few g c =
    let lanes = g.R.ShownRows.lanes c.args.rows.now in
    let p = c.loop-p.p in
    let many = c.processors-p-end.ensures.count in
    let within : p < length lanes = omega (arith, many, c.loop-p-test.true) in
    let more = all_more lanes p within in
    let all = all_le lanes (p + 1) in
    let few = c.requires.few in
    omega (arith, more, all, few)

pub returns-in_err-count-clause-wrote : goal.returns-in_err-count-clause-wrote
returns-in_err-count-clause-wrote g c =
    let lanes = g.R.ShownRows.lanes c.args.rows.now in
    let p = c.loop-p.p in
    let lane : List Row = lane_of lanes p in
    let many = c.processors-p-end.ensures.count in
    let within : p < length lanes = omega (arith, many, c.loop-p-test.true) in
    rw (all_text (row_line c.args.set.now.tasks) lanes)
    (wrote_item (flat_map (row_line c.args.set.now.tasks)) lanes p lane _ _ _ _ _ within (get_or_default lanes p [] lane within) c.loop-p.invariant.0
    c.in_err-count.ensures.wrote c.from_residual.ensures.0)

pub overflow_add-count : goal.overflow_add-count
overflow_add-count g c =
    let lanes = g.R.ShownRows.lanes c.args.rows.now in
    let p = c.loop-p.p in
    let many = c.processors-p-end.ensures.count in
    let within : p < length lanes = omega (arith, many, c.loop-p-test.true) in
    let more = all_more lanes p within in
    let all = all_le lanes (p + 1) in
    let so_far = c.loop-p.invariant.2 in
    let here = c.in_ok-count.ensures.count in
    let few = c.requires.few in
    omega (arith, more, all, so_far, here, few)

pub loop-p-preserved : goal.loop-p-preserved
loop-p-preserved g c =
    let lanes = g.R.ShownRows.lanes c.args.rows.now in
    let p = c.loop-p.p in
    let lane : List Row = lane_of lanes p in
    let many = c.processors-p-end.ensures.count in
    let within : p < length lanes = omega (arith, many, c.loop-p-test.true) in
    let more = all_more lanes p within in
    let so_far = c.loop-p.invariant.2 in
    let here = c.in_ok-count.ensures.count in (
      item_written (flat_map (row_line c.args.set.now.tasks)) lanes p lane _ _ _ within (get_or_default lanes p [] lane within) c.loop-p.invariant.0
          c.in_ok-count.ensures.wrote.ok,
      le_trans c.loop-p.invariant.1 c.write_lane.ensures.cause.later,
      omega (arith, more, so_far, here),
    )

pub returns-clause-wrote : goal.returns-clause-wrote
returns-clause-wrote g c =
    let lanes = g.R.ShownRows.lanes c.args.rows.now in
    let many = c.processors-p-end.ensures.count in
    let past : length lanes ≤ c.loop-p.p = omega (arith, many, c.loop-p-test.false) in
    let all = take_all c.loop-p.p lanes past in
    rw (all_text (row_line c.args.set.now.tasks) lanes) (record { ok = rw all at c.loop-p.invariant.0; err = tt })

pub returns-clause-count : goal.returns-clause-count
returns-clause-count g c =
    let lanes = g.R.ShownRows.lanes c.args.rows.now in
    let many = c.processors-p-end.ensures.count in
    let past : length lanes ≤ c.loop-p.p = omega (arith, many, c.loop-p-test.false) in
    c.loop-p.invariant.2 ∙ ap (λ ls. length (all_rows ls)) (take_all c.loop-p.p lanes past)

pub returns-in_err-count-clause-count : goal.returns-in_err-count-clause-count
returns-in_err-count-clause-count g c = no_answer _ _ c.from_residual.ensures.0

pub returns-in_err-count-clause-cause : goal.returns-in_err-count-clause-cause
returns-in_err-count-clause-cause g c = cause_cut _ _ _ _ _ c.loop-p.invariant.1 c.in_err-count.ensures.cause

pub returns-clause-cause : goal.returns-clause-cause
returns-clause-cause g c = record { later = c.loop-p.invariant.1; failed = tt }
