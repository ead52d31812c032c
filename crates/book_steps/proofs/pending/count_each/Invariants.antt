use Rattle.std.proofs.Common.{take}
use Rattle.book_steps.specs.Pending.{AreCounted}
use Rattle.book_steps.proofs.pending.count_each.Given as goal

abbrev pub invariant-loop-q : goal.invariant-loop-q
invariant-loop-q l = AreCounted l.initial.given.items (take l.q l.rows) l.given.items
