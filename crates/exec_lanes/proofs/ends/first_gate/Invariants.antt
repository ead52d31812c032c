use Rattle.exec_lanes.specs.Ends.{NoGateBefore}
use Rattle.exec_lanes.proofs.ends.first_gate.Given as goal

abbrev pub invariant-loop-p : goal.invariant-loop-p
invariant-loop-p g l = NoGateBefore l.lanes l.p
