use Rattle.std.proofs.Common.{◌∙◌, ◌<◌, List, [], length, get_or, subst, refl, arith}
use Rattle.std.proofs.lemmas.List.{get_or_default}
use Rattle.sched_base.specs.Tables.{RowAt}
use Rattle.book_machine.specs.declared.links.Link.{Link}
use Rattle.book_machine.specs.Links.{KeepsLink}
use Rattle.book_machine.proofs.LinkLemmas.{linked_next}
use Rattle.book_machine.proofs.links.link_row.Goals as goal

pub returns : goal.returns
returns c =
    let rows = c.args.table.now.lanes in
    let n = c.args.round in
    let p = c.args.p in
    let links = c.args.links.now.items in
    let latest_rows = c.args.latest_rows.now.items in
    let r = c.row-leaf.result in
    let at : RowAt rows p n r = rw (← c.from.ensures) c.row-leaf.ensures.value in
    let within : p < length links = let many = c.requires.before.lanes in let lane = c.requires.lane in omega (arith, many, lane) in
    let keeps : KeepsLink (get_or links p []) c.put.new.self n c.follow-link.result =
    subst (λ (lane : List Link). KeepsLink lane c.put.new.self n c.follow-link.result) (c.index_mut.ensures.value ∙ get_or_default links p
    c.index_mut.result.now [] within) c.put.ensures in
    rw c.follow-link.ensures.latest_rows (linked_next rows n p links latest_rows r at c.requires.before (record { lane = p; round = n }) c.put.new.self refl
    refl (rw c.follow-link.ensures.link at keeps))
