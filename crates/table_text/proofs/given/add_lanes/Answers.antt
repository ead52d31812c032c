use Rattle.std.proofs.Common.{List, ◌<◌, ◌≤◌, ◌++◌, ◌∙◌, ap, drop, length, arith, subst, take, ◌+◌}
use Rattle.std.proofs.lemmas.List.{take_all}
use Rattle.sched_base.specs.declared.rows.Row.{Row}
use Rattle.sched_base.specs.Tables.{all_rows, lane_of}
use Rattle.row_totals.specs.Sums.{NamesAmong}
use Rattle.table_text.specs.Given.{AddsGiven}
use Rattle.table_text.proofs.GivenLemmas.{given_then, lane_holds, lanes_more, lanes_parted, none_given, room_next}
use Rattle.table_text.proofs.given.add_lanes.Goals as goal

pub loop-p-init : goal.loop-p-init
loop-p-init c = none_given c.args.look c.args.tasks.now c.args.sums.now

pub add_lane-requires-clause-long : goal.add_lane-requires-clause-long
add_lane-requires-clause-long c = c.loop-p.auto.sums ∙ c.requires.long

pub add_lane-requires-clause-names : goal.add_lane-requires-clause-names
add_lane-requires-clause-names c =
    let lanes = c.args.rows.now.lanes in
    let many = c.processors-p-end.ensures in
    let within : c.loop-p.p < length lanes = omega (arith, many, c.loop-p-test.true) in
    lane_holds (NamesAmong (length c.args.tasks.now)) lanes c.loop-p.p within c.requires.names

pub add_lane-requires-clause-room : goal.add_lane-requires-clause-room
add_lane-requires-clause-room c =
    let lanes = c.args.rows.now.lanes in
    let p = c.loop-p.p in
    let many = c.processors-p-end.ensures in
    let within : p < length lanes = omega (arith, many, c.loop-p-test.true) in
    room_next c.args.look c.args.tasks.now (all_rows (take p lanes)) (lane_of lanes p) (all_rows (drop (p + 1) lanes)) (all_rows lanes) c.args.sums.now
    c.loop-p.sums
    (lanes_parted lanes (p + 1) ∙ ap (λ (rows : List Row). rows ++ all_rows (drop (p + 1) lanes)) (lanes_more lanes p within))
    c.loop-p.auto.sums c.requires.room c.loop-p.invariant

pub loop-p-preserved : goal.loop-p-preserved
loop-p-preserved c =
    let lanes = c.args.rows.now.lanes in
    let p = c.loop-p.p in
    let many = c.processors-p-end.ensures in
    let within : p < length lanes = omega (arith, many, c.loop-p-test.true) in
    given_then c.args.look c.args.tasks.now (all_rows (take p lanes)) (lane_of lanes p) (all_rows (take (p + 1) lanes)) c.args.sums.now c.loop-p.sums
    c.add_lane.new.sums
    (lanes_more lanes p within) c.loop-p.auto.sums c.loop-p.invariant c.add_lane.ensures

pub returns : goal.returns
returns c =
    let lanes = c.args.rows.now.lanes in
    let many = c.processors-p-end.ensures in
    let past : length lanes ≤ c.loop-p.p = omega (arith, many, c.loop-p-test.false) in
    subst (λ (ls : List (List Row)). AddsGiven c.args.look c.args.tasks.now (all_rows ls) c.args.sums.now c.loop-p.sums) (take_all c.loop-p.p lanes past)
    c.loop-p.invariant
