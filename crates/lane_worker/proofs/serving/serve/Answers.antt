use Rattle.std.proofs.Common.{◌∙◌, ap, length, subst, sym}
use Rattle.run_tree.specs.Plans.{PlanContents}
use Rattle.plan_rounds.specs.PlanRows.{plan_rows}
use Rattle.exec_lanes.specs.Lanes.{Served}
use Rattle.locked_book.specs.Found.{IsAgreed}
use Rattle.lane_worker.proofs.serving.serve.Goals as goal

pub serve_lane-requires-clause-agreed : goal.serve_lane-requires-clause-agreed
serve_lane-requires-clause-agreed g c = subst (λ p. IsAgreed p g.Q.PostLedger.set) (sym c.alone-work.ensures.plan) c.alone-work.ensures.agreed

pub serve_lane-requires-clause-counts : goal.serve_lane-requires-clause-counts
serve_lane-requires-clause-counts g c = c.requires.counts ∙ ap (λ (p : PlanContents). length p.set.tasks) (sym c.alone-work.ensures.plan)

pub returns : goal.returns
returns g c = subst (λ p. Served (plan_rows p) c.args.counts.now c.args.lane.now c.serve_lane.new.lane) c.alone-work.ensures.plan c.serve_lane.ensures
