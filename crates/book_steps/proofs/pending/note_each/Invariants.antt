use Rattle.std.proofs.Common.{take}
use Rattle.book_steps.specs.Pending.{AreNoted}
use Rattle.book_steps.proofs.pending.note_each.Given as goal

abbrev pub invariant-loop-q : goal.invariant-loop-q
invariant-loop-q l = AreNoted l.tasks l.round l.initial.last.items (take l.q l.rows) l.last.items
