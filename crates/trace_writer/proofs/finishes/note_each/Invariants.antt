use Rattle.std.proofs.Common.{◌≡◌, List}
use Rattle.sched_base.specs.declared.rows.Row.{Row}
use Rattle.sched_base.specs.Valid.{period_start}
use Rattle.trace_writer.specs.Finishes.{IsDoneBy}
use Rattle.trace_writer.proofs.FinishLemmas.{IsNoted}
use Rattle.trace_writer.proofs.finishes.note_each.Given as goal

abbrev pub invariant-loop-k : goal.invariant-loop-k
invariant-loop-k l = (l.begin ≡ period_start l.scale l.task l.k)
    × ((rows : List Row) → IsDoneBy l.scale l.task l._number rows l.fn.ends → IsNoted l.scale l.task l._number rows l.row l.k l.ends)
