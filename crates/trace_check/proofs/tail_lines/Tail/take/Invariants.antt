use Rattle.std.proofs.Common.{◌≡◌, ◌+◌, ◌++◌, ℕ, List, length}
use Rattle.trace_check.specs.Tails.{left_at, IsPlace, LinesStand}
use Rattle.trace_check.proofs.tail_lines.Tail.take.Given as goal

abbrev pub invariant-loop-line : goal.invariant-loop-line
invariant-loop-line l = ((gone : List ℕ) × (l.text ≡ gone ++ l.rest)) × IsPlace l.self l.place × (l.count + length (left_at l.self l.place) ≡ length
    (left_at l.self l.fn.place))
    × LinesStand l.ended (left_at l.self l.fn.place) l.text l.count (left_at l.self l.place) l.rest

abbrev pub decreases-loop-line : goal.decreases-loop-line
decreases-loop-line l = length l.rest
