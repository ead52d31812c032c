use Rattle.std.proofs.Common.{◌≡◌, length, subst, arith}
use Rattle.book_machine.specs.Links.{AreLinked}
use Rattle.book_machine.proofs.LinkLemmas.{linked_round}
use Rattle.book_machine.proofs.links.link_round.Goals as goal

pub returns : goal.returns
returns c =
    let all : c.loop-p.p ≡ length c.args.table.now.lanes = omega (arith, c.loop-p-test.false, c.processors-p-end.ensures.value) in
    linked_round c.args.table.now.lanes c.args.round c.loop-p.links.items c.loop-p.latest_rows.items
    (subst (λ p. AreLinked c.args.table.now.lanes c.args.round p c.loop-p.links.items c.loop-p.latest_rows.items) all c.loop-p.invariant)
