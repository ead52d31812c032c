use Rattle.std.proofs.Common.{◌≡◌, ◌∙◌, [], replicate, length, ap, arith}
use Rattle.std.proofs.lemmas.List.{length-replicate}
use Rattle.book_machine.proofs.LinkLemmas.{linked_none, rounds_in-none}
use Rattle.book_machine.proofs.links.LinkedTable.new.Goals as goal

pub invariant_of-result : goal.invariant_of-result
invariant_of-result c =
    let lanes = c.in_ok-table.table.lanes in
    let none : lanes ≡ replicate c.args.processors [] = c.in_ok-table.ensures.none in
    let room = c.in_ok-table.ensures.room in
    let no = rounds_in-none lanes c.args.processors none in
    record {
      some = let many = ap length none ∙ length-replicate c.args.processors [] in let some = c.requires.some in omega (arith, many, some);
      few = let few = c.requires.few in omega (arith, room, no, few);
      linked = linked_none lanes c.args.processors _ c.in_ok-links.links.items c.in_ok-latest_rows.latest_rows.items none c.in_ok-links.ensures
          c.in_ok-latest_rows.ensures;
    }
