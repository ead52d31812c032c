use Rattle.exec_lanes.specs.Ends.{NoJobBefore}
use Rattle.exec_lanes.proofs.ends.first_job.Given as goal

abbrev pub invariant-loop-p : goal.invariant-loop-p
invariant-loop-p g l = NoJobBefore l.lanes l.p
