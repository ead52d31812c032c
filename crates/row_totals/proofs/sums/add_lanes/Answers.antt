use Rattle.std.proofs.Common.{◌+◌, ◌<◌, length, arith, add-one, suc, take}
use Rattle.sched_base.specs.Tables.{all_rows, lane_of}
use Rattle.row_totals.proofs.SumLemmas.{ticks_in-lanes-more, ticks_in-lanes-le, Adds-then, room_after}
use Rattle.row_totals.proofs.TableSums.{ticks_fit}
use Rattle.row_totals.proofs.sums.add_lanes.Goals as goal

pub add_lane-requires-clause-room : goal.add_lane-requires-clause-room
add_lane-requires-clause-room c =
    let lanes = c.args.table.now.lanes in
    let p = c.loop-p.p in
    let within : p < length lanes = omega arith in
    room_after (all_rows (take p lanes)) (lane_of lanes p) (all_rows lanes) c.args.sums.now c.loop-p.sums c.loop-p.auto.sums
    (λ j.
    let more = ticks_in-lanes-more j lanes p within in
    let all = ticks_in-lanes-le j lanes (suc p) in
    omega (arith, more, all))
    (λ j inside. let none = c.requires.none j inside in let fits = ticks_fit j lanes c.processors-p-end.ensures.lawful in omega (arith, none, fits))
    c.loop-p.invariant

pub loop-p-preserved : goal.loop-p-preserved
loop-p-preserved c =
    let lanes = c.args.table.now.lanes in
    let p = c.loop-p.p in
    let within : p < length lanes = omega arith in
    Adds-then (all_rows (take p lanes)) (lane_of lanes p) (all_rows (take (p + 1) lanes)) c.args.sums.now c.loop-p.sums c.add_lane.new.sums c.loop-p.auto.sums
    (λ j. rw add-one (ticks_in-lanes-more j lanes p within))
    c.loop-p.invariant c.add_lane.ensures

pub loop-p-init : goal.loop-p-init
loop-p-init c = λ j within. omega arith
