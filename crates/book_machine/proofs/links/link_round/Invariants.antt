use Rattle.book_machine.specs.Links.{AreLinked}
use Rattle.book_machine.proofs.links.link_round.Given as goal

abbrev pub invariant-loop-p : goal.invariant-loop-p
invariant-loop-p l = AreLinked l.table.lanes l.round l.p l.links.items l.latest_rows.items
