use Rattle.std.proofs.Common.{◌<◌, [], ap, arith, get_or, length}
use Rattle.merged_rounds.proofs.BegunLemmas.{length-rows_up_to}
use Rattle.merged_rounds.proofs.CopyLemmas.{copied_end, copied_next, copied_none, lane_read, row_there, row_within, still_there}
use Rattle.merged_rounds.proofs.copies.copy_lane.Goals as goal

pub loop-i-init : goal.loop-i-init
loop-i-init c = copied_none c.args.rows.now.begun c.args.q c.args.window c.requires.processor

pub copy_row-requires-clause-processor : goal.copy_row-requires-clause-processor
copy_row-requires-clause-processor c = still_there c.args.rows.now.begun c.args.q c.args.window c.requires.processor c.loop-i.rows.begun c.loop-i.i
    c.loop-i.invariant

pub copy_row-requires-clause-row : goal.copy_row-requires-clause-row
copy_row-requires-clause-row c =
    let rows = c.args.rows.now in
    let q = c.args.q in
    let is = ap length (lane_read rows.end rows.begun rows.lanes q c.know_begun.ensures.lanes c.requires.processor) in
    let long = length-rows_up_to q rows.end (get_or rows.begun q []) in
    let on = c.loop-i-test.true in
    let count = c.count-i-end.ensures in
    let within : c.loop-i.i < length (get_or rows.begun q []) = omega (arith, is, long, on, count) in
    row_within rows.begun q c.args.window c.requires.processor c.loop-i.rows.begun c.loop-i.i c.loop-i.invariant within

pub loop-i-preserved : goal.loop-i-preserved
loop-i-preserved c =
    let rows = c.args.rows.now in
    let q = c.args.q in
    let w = c.args.window in
    let l = c.requires.processor in
    let is = ap length (lane_read rows.end rows.begun rows.lanes q c.know_begun.ensures.lanes l) in
    let long = length-rows_up_to q rows.end (get_or rows.begun q []) in
    let on = c.loop-i-test.true in
    let count = c.count-i-end.ensures in
    let within : c.loop-i.i < length (get_or rows.begun q []) = omega (arith, is, long, on, count) in
    let there = row_there rows.begun q w l c.loop-i.rows.begun c.loop-i.i c.loop-i.invariant within in
    copied_next rows.begun q w l c.loop-i.rows.begun c.loop-i.i c.loop-i.invariant within _ (c.in_ok-copy_row.ensures.copied _ there)

pub returns : goal.returns
returns c =
    let rows = c.args.rows.now in
    let q = c.args.q in
    let is = ap length (lane_read rows.end rows.begun rows.lanes q c.know_begun.ensures.lanes c.requires.processor) in
    let long = length-rows_up_to q rows.end (get_or rows.begun q []) in
    let off = c.loop-i-test.false in
    let count = c.count-i-end.ensures in
    record {
      copied = copied_end rows.begun q c.args.window c.requires.processor c.loop-i.rows.begun c.loop-i.i (omega (arith, is, long, off, count))
          c.loop-i.invariant;
    }
