use Rattle.std.proofs.Common.{◌≡◌, None}
use Rattle.plan_rounds.specs.PlanRows.{plan_rows}
use Rattle.exec_lanes.specs.Lanes.{Served}
use Rattle.locked_book.specs.Promises.{GivesRow}
use Rattle.lane_worker.proofs.serving.serve_lane.Given as goal

abbrev pub invariant-loop : goal.invariant-loop
invariant-loop g l =
    (l.lane.cause ≡ None)
    × Served (plan_rows l.work.plan.now) l.counts l.initial.lane l.lane
    × GivesRow g.J.Job.id g.J.Job.used g.J.Job.made g.Q.PostLedger.made l.work.plan.now l.lane.seat l.next
