use Rattle.std.proofs.Common.{inr}
use Rattle.part_rounds.proofs.PartedLemmas.{all_looked}
use Rattle.part_rounds.proofs.parted.Parted.go_telling.Goals as goal

pub look-requires-clause-belongs : goal.look-requires-clause-belongs
look-requires-clause-belongs c = c.place_telling-count.ensures.belongs c.go_parts-end.result c.go_parts-end.ensures.round

pub returns-clause-belongs : goal.returns-clause-belongs
returns-clause-belongs c =
    let b = c.requires.belongs in
    let parts = c.go_parts-end.ensures.parts in
    let round = c.go_parts-end.ensures.round in
    let long = c.go_parts-end.ensures.shows.long in
    record {
      on_time = b.on_time;
      covered = c.go_parts-end.ensures.covered;
      each = parts.each;
      lawful = parts.lawful;
      going = λ p s at. inr (parts.going p s at);
      told = λ p s at later. parts.told p s at;
      long = long;
      event = round.last;
      within = round.below;
      placed = c.place_telling-count.ensures.belongs c.go_parts-end.result round;
    }

pub returns-clause-all : goal.returns-clause-all
returns-clause-all c =
    let whole = c.args.plan.now in
    let tick = c.args.self.now.tick in
    let b = c.requires.belongs in
    all_looked whole tick c.go_parts-end.result c.place_telling-count.new.told c.place_telling-count.result c.args.leaves.now c.look.new.leaves c.look.ensures
    c.requires.many b.event b.within c.requires.before c.place_telling-count.ensures.first
    (λ q start none l away round. c.place_telling-count.ensures.others q start c.go_parts-end.result none l away round c.go_parts-end.ensures.round)
