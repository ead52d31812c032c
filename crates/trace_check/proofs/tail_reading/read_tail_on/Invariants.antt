use Rattle.std.proofs.Common.{◌+◌, ◌-◌, ◌*◌, cond}
use Rattle.trace_check.specs.Tails.{left_at, all_lines, IsPlace}
use Rattle.trace_check.proofs.TailSourceLemmas.{TailGoing}
use Rattle.trace_check.proofs.tail_reading.read_tail_on.Given as goal

abbrev pub invariant-loop-at_end : goal.invariant-loop-at_end
invariant-loop-at_end g l = TailGoing (g.R.Source.left l.fn.source) (g.R.Source.left l.source) (g.R.Source.faults l.fn.source) (g.R.Source.faults l.source)
    l.ended l.at_end l.fn.window l.window (all_lines l.tail) l.count (left_at l.tail l.place)
    × IsPlace l.tail l.place

abbrev pub decreases-loop-at_end : goal.decreases-loop-at_end
decreases-loop-at_end g l = 2 * (l.window.limit + 1 - l.window.count) + cond l.at_end 0 1
