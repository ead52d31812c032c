use Rattle.exec_lanes.proofs.ErrorLemmas.{untrue}
use Rattle.std.proofs.Common.{arith, true, false, None, ◌≡◌, ap, sym, ◌∙◌}
use Rattle.std.proofs.lemmas.List.{get_or_default}
use Rattle.exec_lanes.specs.Lanes.{LaneContents, no_lane}
use Rattle.exec_lanes.proofs.EndLemmas.{each_lane, none_of, not_none}
use Rattle.exec_lanes.proofs.ends.any_failed.Goals as goal
use Rattle.exec_lanes.proofs.ends.any_failed.Goals.{After-is_some}

pub loop-lane-init : goal.loop-lane-init
loop-lane-init g c = λ p below. absurd (omega (arith, below))

pub returns-clause-some : goal.returns-clause-some
returns-clause-some g c = untrue

pub returns-then-is_some-clause-none : goal.returns-then-is_some-clause-none
returns-then-is_some-clause-none g c = λ e. absurd (let is : true ≡ false = e in cc)

pub returns-clause-none : goal.returns-clause-none
returns-clause-none g c = λ _ p below. c.loop-lane.invariant p (omega (arith, below))

pub offset_bounds-lanes-lane-index : goal.offset_bounds-lanes-lane-index
offset_bounds-lanes-lane-index g c = c.loop-lane.auto.lane-index-end

module _ (g : _) (c : After-is_some g) where
  cause_is : c.lane.inside.cause ≡ c.lane-item.result.cause
  cause_is = ap (λ (l : LaneContents). l.cause) c.lane.view_is

pub returns-then-is_some-clause-some : goal.returns-then-is_some-clause-some
returns-then-is_some-clause-some g c =
    let at = cause_is g (goal.at.returns-then-is_some-clause-some g c).After-is_some in
    let lane = c.lane-item.is ∙ get_or_default c.args.lanes.now c.loop-lane.lane-index c.lane-item.result no_lane c.loop-lane-test.true in
    λ _. (
      c.loop-lane.lane-index,
      c.loop-lane-test.true,
      λ none. not_none c.lane.inside.cause (sym c.is_some.ensures ∙ c.if-is_some.true)
          (at ∙ ap (λ (l : LaneContents). l.cause) lane ∙ none),
    )

pub loop-lane-preserved : goal.loop-lane-preserved
loop-lane-preserved g c =
    let at = cause_is g (goal.at.loop-lane-preserved g c).After-is_some in
    each_lane (λ l. l.cause ≡ None) c.args.lanes.now c.loop-lane.lane-index c.lane-item.result c.loop-lane-test.true c.lane-item.is
    (sym at ∙ none_of c.lane.inside.cause (sym c.is_some.ensures ∙ c.if-is_some.false)) c.loop-lane.invariant
