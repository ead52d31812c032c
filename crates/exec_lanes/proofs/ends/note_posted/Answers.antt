use Rattle.std.proofs.Common.{ap, ◌∙◌, arith, length-set}
use Rattle.std.proofs.lemmas.List.{get_or_default}
use Rattle.unit_ledger.specs.Seats.{Seat}
use Rattle.exec_lanes.specs.Lanes.{LaneContents, no_lane}
use Rattle.exec_lanes.proofs.EndLemmas.{posted_are, posted_more}
use Rattle.exec_lanes.proofs.ends.note_posted.Goals as goal

pub loop-p-init : goal.loop-p-init
loop-p-init g c = (c.requires, λ q below. absurd (omega (arith, below)))

pub loop-p-preserved : goal.loop-p-preserved
loop-p-preserved g c =
    let lanes = c.args.lanes.now in
    let p = c.loop-p.p in
    let here = c.posted.ensures ∙ ap (λ (s : Seat). s.posted) c.seat.ensures ∙ ap (λ (l : LaneContents). l.seat.posted) (c.index-lanes-p.is ∙ get_or_default
    lanes p _ no_lane c.loop-p-test.true) in
    (rw length-set c.loop-p.invariant.0, posted_more lanes c.loop-p.posted p c.posted.result c.loop-p-test.true c.loop-p.invariant.0 c.loop-p.invariant.1 here)

pub returns : goal.returns
returns g c = posted_are c.args.lanes.now c.loop-p.posted c.loop-p.invariant.0 (λ q within. c.loop-p.invariant.1 q (let end = c.loop-p-test.false in
    omega (arith, within, end)))
