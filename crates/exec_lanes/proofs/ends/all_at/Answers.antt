use Rattle.exec_lanes.proofs.ErrorLemmas.{untrue}
use Rattle.std.proofs.Common.{arith, ◌≡◌, ap, refl, sym, ◌∙◌}
use Rattle.std.proofs.lemmas.List.{get_or_default}
use Rattle.exec_lanes.specs.Lanes.{LaneContents, no_lane}
use Rattle.exec_lanes.proofs.EndLemmas.{each_lane}
use Rattle.exec_lanes.proofs.ends.all_at.Goals as goal

pub loop-lane-init : goal.loop-lane-init
loop-lane-init g c = λ p below. absurd (omega (arith, below))

pub returns-then-posted-rounds : goal.returns-then-posted-rounds
returns-then-posted-rounds g c =
    let lane = c.lane.view_is ∙ c.lane-item.is ∙ get_or_default c.args.lanes.now c.loop-lane.lane-index c.lane-item.result no_lane c.loop-lane-test.true in (
      untrue,
      λ all. absurd (c.if-posted-rounds.true (c.posted.ensures ∙ ap (λ (l : LaneContents). l.seat.posted) lane ∙ all c.loop-lane.lane-index
          c.loop-lane-test.true)),
    )

pub returns : goal.returns
returns g c = (λ _ p below. c.loop-lane.invariant p (omega (arith, below)), λ _. refl)

pub offset_bounds-lanes-lane-index : goal.offset_bounds-lanes-lane-index
offset_bounds-lanes-lane-index g c = c.loop-lane.auto.lane-index-end

pub loop-lane-preserved : goal.loop-lane-preserved
loop-lane-preserved g c = each_lane (λ l. l.seat.posted ≡ c.args.rounds) c.args.lanes.now c.loop-lane.lane-index c.lane-item.result c.loop-lane-test.true
    c.lane-item.is
    (sym (ap (λ (l : LaneContents). l.seat.posted) c.lane.view_is) ∙ sym c.posted.ensures ∙ c.if-posted-rounds.false) c.loop-lane.invariant
