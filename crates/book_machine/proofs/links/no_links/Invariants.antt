use Rattle.std.proofs.Common.{◌≡◌, length}
use Rattle.book_machine.proofs.links.no_links.Given as goal

abbrev pub invariant-loop-p : goal.invariant-loop-p
invariant-loop-p l = length l.links.items ≡ l._p
