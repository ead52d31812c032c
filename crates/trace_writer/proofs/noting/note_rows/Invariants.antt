use Rattle.std.proofs.Common.{take}
use Rattle.sched_base.specs.Tables.{all_rows}
use Rattle.trace_writer.specs.Finishes.{HaveRoom, AreDoneBy}
use Rattle.trace_writer.proofs.noting.note_rows.Given as goal

abbrev pub invariant-loop-p : goal.invariant-loop-p
invariant-loop-p g l = AreDoneBy l.scale l.set.tasks (all_rows (take l.p (g.R.ShownRows.lanes l.rows))) l.finishes × HaveRoom l.set l.finishes
