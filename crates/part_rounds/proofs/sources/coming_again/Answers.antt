use Rattle.std.proofs.Common.{arith, le_of_lt, refl}
use Rattle.part_rounds.proofs.SourceLemmas.{again_begins, ticks_fit}
use Rattle.part_rounds.proofs.sources.coming_again.Goals as goal

pub overflow_mul-whole : goal.overflow_mul-whole
overflow_mul-whole c =
    let fits = ticks_fit c.args.plan.now c.args.part c.requires.part c.rounds_end-stop.ensures.lawful c.args.turn (le_of_lt c.requires.within) in
    omega (arith, fits)

pub returns-clause-belongs : goal.returns-clause-belongs
returns-clause-belongs c =
    again_begins c.args.plan.now _ c.requires.part c.know_lawful.ensures.lawful c.requires.can c.args.turn c.requires.turns c.requires.kept c.requires.end
    c.requires.long
    refl refl refl refl c.rounds_end-stop.ensures.value refl
