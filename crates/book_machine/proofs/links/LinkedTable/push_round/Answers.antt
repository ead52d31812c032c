use Rattle.std.proofs.Common.{◌≡◌, ◌∙◌, ◌+◌, length, sym, ap, subst, arith}
use Rattle.sched_base.specs.Tables.{Table, rounds_in}
use Rattle.sched_base.proofs.TableLemmas.{length-with_round}
use Rattle.book_machine.specs.Links.{AreLinked}
use Rattle.book_machine.proofs.LinkLemmas.{linked-with_round, rounds_in-with_round}
use Rattle.book_machine.proofs.links.LinkedTable.push_round.Goals.{After-push_round}
use Rattle.book_machine.proofs.links.LinkedTable.push_round.Goals as goal

module _ (c : After-push_round) where
  abbrev old : Table
  old = c.self.inside.table

  whole : length c.args.rows.now ≡ length old.lanes
  whole = subst (λ (t : Table). length c.args.rows.now ≡ length t.lanes) (sym c.self.view_is) c.requires.whole

  -- the round before the push is the number of rounds then
  round : c.rounds-round.result ≡ rounds_in old.lanes
  round = c.rounds-round.ensures.value

  one_more : rounds_in c.push_round.new.self.lanes ≡ rounds_in old.lanes + 1
  one_more = ap rounds_in c.push_round.ensures.lanes ∙ rounds_in-with_round old.lanes c.args.rows.now whole c.self.invariant.some

pub link_round-requires-clause-last : goal.link_round-requires-clause-last
link_round-requires-clause-last c =
    let r = (goal.at.link_round-requires-clause-last c).After-push_round in
    let more = one_more r in
    let before = round r in
    omega (arith, more, before)

pub link_round-requires-clause-before : goal.link_round-requires-clause-before
link_round-requires-clause-before c =
    let r = (goal.at.link_round-requires-clause-before c).After-push_round in
    let old = old r in
    rw (c.push_round.ensures.lanes, round r) (linked-with_round old.lanes c.args.rows.now c.self.inside.links.items c.self.inside.latest_rows.items
    c.rounds-round.ensures.lawful c.self.invariant.linked)

pub invariant_of-self : goal.invariant_of-self
invariant_of-self c =
    let r = (goal.at.invariant_of-self c).After-push_round in
    let more = one_more r in
    let before = round r in
    let few = c.self.invariant.few in
    let room = c.push_round.ensures.room in
    record {
      some = let same = ap length c.push_round.ensures.lanes ∙ length-with_round (old r).lanes c.args.rows.now in let some = c.self.invariant.some in
          omega (arith, same, some);
      few = omega (arith, more, few, room);
      linked = subst (λ n. AreLinked c.push_round.new.self.lanes n 0 c.link_round.new.links.items c.link_round.new.latest_rows.items)
          (omega (arith, more, before)) c.link_round.ensures;
    }
