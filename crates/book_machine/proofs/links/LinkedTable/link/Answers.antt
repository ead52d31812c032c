use Rattle.book_machine.proofs.LinkLemmas.{linked_says}
use Rattle.book_machine.proofs.links.LinkedTable.link.Goals as goal

pub returns : goal.returns
returns c r at =
    let links = c.self.inside.links.items in
    linked_says c.self.inside.table links c.self.inside.latest_rows.items c.self.invariant c.args.self.now c.self.view_is c.args.p c.args.k r
    c.index.result.now c.get.result c.requires.round c.index.ensures c.get.ensures at
