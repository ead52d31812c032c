use Rattle.std.proofs.Common.{◌≡◌, length, sym, ap, ◌∙◌, subst, arith}
use Rattle.std.proofs.lemmas.List.{get_or_default}
use Rattle.exec_lanes.specs.Lanes.{LaneContents, lane_in, no_lane}
use Rattle.exec_lanes.specs.Ends.{KeepsCounts}
use Rattle.exec_lanes.proofs.EndLemmas.{keeps_next, job_within}
use Rattle.exec_lanes.proofs.ends.note_faults.Goals as goal
use Rattle.exec_lanes.proofs.ends.note_faults.Goals.{After-cause}

cause_is : (g : _) (c : After-cause g) → c.cause.result.now ≡ (lane_in c.args.lanes.now c.loop-lane.lane-index).cause
cause_is g c = c.cause.ensures ∙ ap (λ (l : LaneContents). l.cause) (c.lane-item.is ∙ get_or_default c.args.lanes.now c.loop-lane.lane-index
    c.lane-item.result no_lane c.loop-lane-test.true)

pub note_fault-requires : goal.note_fault-requires
note_fault-requires g c r faults task is leaf =
    let same = c.loop-lane.invariant.0 in
    let within = job_within c.args.counts.now c.args.lanes.now c.loop-lane.lane-index r faults task c.requires c.loop-lane-test.true
    (sym (cause_is g (goal.at.note_fault-requires g c).After-cause) ∙ is) leaf in
    omega (arith, same, within)

pub loop-lane-preserved : goal.loop-lane-preserved
loop-lane-preserved g c =
    let same = cause_is g (goal.at.loop-lane-preserved g c).After-cause in
    let long = c.loop-lane.invariant.0 in (
      (let kept = c.note_fault.auto.counts in omega (arith, kept, long)),
      keeps_next c.args.lanes.now c.loop-lane.lane-index c.loop-lane-test.true c.args.counts.now c.loop-lane.counts c.note_fault.new.counts long
          c.loop-lane.invariant.1 c.requires
          (λ r n task is leaf. c.note_fault.ensures.job r n task (same ∙ is) leaf) (λ no_job. c.note_fault.ensures.none (λ r n task is leaf. no_job r n task
          (sym same ∙ is) leaf)),
    )

pub returns : goal.returns
returns g c =
    let end : c.loop-lane.lane-index ≡ length c.args.lanes.now = omega (arith, c.loop-lane-test.false, c.loop-lane.auto.lane-index-end) in
    subst (λ k. KeepsCounts c.args.lanes.now k c.args.counts.now c.loop-lane.counts) end c.loop-lane.invariant.1
