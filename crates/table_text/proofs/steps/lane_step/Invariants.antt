use Rattle.std.proofs.Common.{take}
use Rattle.sched_base.specs.Tables.{lane_of}
use Rattle.table_text.specs.Steps.{IsStep}
use Rattle.table_text.proofs.steps.lane_step.Given as goal

abbrev pub invariant-loop-i : goal.invariant-loop-i
invariant-loop-i l = IsStep l.fn.before (take l.i (lane_of l.rows.lanes l.p)) l.step
