use Rattle.std.proofs.Common.{◌≡◌, ◌++◌, map, take}
use Rattle.circular_buffer.specs.Buffer.{buffer}
use Rattle.book_steps.specs.Pending.{pending}
use Rattle.book_steps.proofs.pending.push_each.Given as goal

abbrev pub invariant-loop-q : goal.invariant-loop-q
invariant-loop-q l = l.held ≡ buffer (l.initial.held.items ++ map (pending l.given) (take l.q l.rows)) l.initial.held.capacity
