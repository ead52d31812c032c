use Rattle.std.proofs.Common.{List, [], ◌∷◌, ◌<◌, ◌≤◌, ◌∙◌, drop, length, arith, subst, take, ◌+◌}
use Rattle.std.proofs.lemmas.List.{take_all}
use Rattle.sched_base.specs.declared.rows.Row.{Row}
use Rattle.sched_base.specs.Tables.{lane_of}
use Rattle.row_totals.specs.Sums.{IsAmong}
use Rattle.sched_base.proofs.RowLemmas.{AllByRecursion-get}
use Rattle.table_text.specs.Given.{AddsGiven}
use Rattle.table_text.proofs.GivenLemmas.{given_then, none_given, room_next, rows_more, rows_parted}
use Rattle.table_text.proofs.given.add_lane.Goals as goal

pub loop-i-init : goal.loop-i-init
loop-i-init c = none_given c.args.look c.args.tasks.now c.args.sums.now

pub add_row-requires-clause-long : goal.add_row-requires-clause-long
add_row-requires-clause-long c = c.loop-i.auto.sums ∙ c.requires.long

pub add_row-requires-clause-among : goal.add_row-requires-clause-among
add_row-requires-clause-among c =
    AllByRecursion-get (λ r. IsAmong (length c.args.tasks.now) r.leaf) (lane_of c.args.rows.now.lanes c.args.p) c.loop-i.i c.row.result c.requires.names
    c.row.ensures

pub add_row-requires-clause-room : goal.add_row-requires-clause-room
add_row-requires-clause-room c =
    let lane = lane_of c.args.rows.now.lanes c.args.p in
    let i = c.loop-i.i in
    let many = c.count-i-end.ensures in
    let within : i < length lane = omega (arith, many, c.loop-i-test.true) in
    room_next c.args.look c.args.tasks.now (take i lane) (c.row.result ∷ []) (drop (i + 1) lane) lane c.args.sums.now c.loop-i.sums
    (rows_parted lane i c.row.result within c.row.ensures) c.loop-i.auto.sums c.requires.room c.loop-i.invariant

pub loop-i-preserved : goal.loop-i-preserved
loop-i-preserved c =
    let lane = lane_of c.args.rows.now.lanes c.args.p in
    let i = c.loop-i.i in
    let many = c.count-i-end.ensures in
    let within : i < length lane = omega (arith, many, c.loop-i-test.true) in
    given_then c.args.look c.args.tasks.now (take i lane) (c.row.result ∷ []) (take (i + 1) lane) c.args.sums.now c.loop-i.sums c.add_row.new.sums
    (rows_more lane i c.row.result within c.row.ensures) c.loop-i.auto.sums c.loop-i.invariant c.add_row.ensures

pub returns : goal.returns
returns c =
    let lane = lane_of c.args.rows.now.lanes c.args.p in
    let many = c.count-i-end.ensures in
    let past : length lane ≤ c.loop-i.i = omega (arith, many, c.loop-i-test.false) in
    subst (λ (rows : List Row). AddsGiven c.args.look c.args.tasks.now rows c.args.sums.now c.loop-i.sums) (take_all c.loop-i.i lane past) c.loop-i.invariant
