use Rattle.std.proofs.Common.{◌≡◌, drop}
use Rattle.circular_buffer.specs.Buffer.{buffer}
use Rattle.book_steps.proofs.ring.Ring.let_go.Given as goal

abbrev pub invariant-loop-row : goal.invariant-loop-row
invariant-loop-row l = l.self-inside.rows ≡ buffer (drop l._row l.initial.self-inside.rows.items) l.initial.self-inside.rows.capacity
