use Rattle.std.proofs.Common.{take}
use Rattle.sched_base.specs.Tables.{all_rows}
use Rattle.table_text.specs.Steps.{IsStep}
use Rattle.table_text.proofs.steps.common_step.Given as goal

abbrev pub invariant-loop-p : goal.invariant-loop-p
invariant-loop-p l = IsStep l.fn.ticks (all_rows (take l.p l.rows.lanes)) l.step
