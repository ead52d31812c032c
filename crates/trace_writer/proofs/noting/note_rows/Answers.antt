use Rattle.std.proofs.Common.{◌<◌, ◌≤◌, length, take, arith}
use Rattle.std.proofs.lemmas.List.{take_all}
use Rattle.row_totals.specs.Sums.{NamesAmong}
use Rattle.sched_base.specs.Tables.{all_rows}
use Rattle.trace_writer.proofs.LaneLemmas.{lane_has}
use Rattle.trace_writer.proofs.NotedLemmas.{all_next}
use Rattle.trace_writer.proofs.noting.note_rows.Goals as goal

pub loop-p-init : goal.loop-p-init
loop-p-init g c = (c.begin.ensures.none, c.begin.ensures.room)

pub note_lane-requires-clause-room : goal.note_lane-requires-clause-room
note_lane-requires-clause-room g c = c.loop-p.invariant.1

pub note_lane-requires-clause-whole : goal.note_lane-requires-clause-whole
note_lane-requires-clause-whole g c =
    let many = c.processors-p-end.ensures.count in
    c.processors-p-end.ensures.whole c.loop-p.p (omega (arith, many, c.loop-p-test.true))

pub note_lane-requires-clause-names : goal.note_lane-requires-clause-names
note_lane-requires-clause-names g c =
    let lanes = g.R.ShownRows.lanes c.args.rows.now in
    let many = c.processors-p-end.ensures.count in
    let within : c.loop-p.p < length lanes = omega (arith, many, c.loop-p-test.true) in
    lane_has (NamesAmong (length c.args.set.now.tasks)) lanes c.loop-p.p within c.requires.names

pub loop-p-preserved : goal.loop-p-preserved
loop-p-preserved g c =
    let lanes = g.R.ShownRows.lanes c.args.rows.now in
    let many = c.processors-p-end.ensures.count in
    let within : c.loop-p.p < length lanes = omega (arith, many, c.loop-p-test.true) in
    (rw (all_next lanes c.loop-p.p within) (c.note_lane.ensures.done (all_rows (take c.loop-p.p lanes)) c.loop-p.invariant.0), c.note_lane.ensures.room)

pub returns-clause-room : goal.returns-clause-room
returns-clause-room g c = c.loop-p.invariant.1

pub returns-clause-done : goal.returns-clause-done
returns-clause-done g c =
    let lanes = g.R.ShownRows.lanes c.args.rows.now in
    let many = c.processors-p-end.ensures.count in
    let past : length lanes ≤ c.loop-p.p = omega (arith, many, c.loop-p-test.false) in
    rw (take_all c.loop-p.p lanes past) at c.loop-p.invariant.0
