use Rattle.std.proofs.Common.{◌≡◌, drop}
use Rattle.trace_draw.specs.Head.{step_among}
use Rattle.trace_draw.proofs.head.axis_step.Given as goal

abbrev pub invariant-loop-ten : goal.invariant-loop-ten
invariant-loop-ten l = step_among (drop l.ten-index l.ten-items) l.units ≡ step_among l.ten-items l.units
