use Rattle.std.proofs.Common.{arith, le_of_lt, refl}
use Rattle.partition_rounds.proofs.OwnRoundLemmas.{again_begins, ticks_fit}
use Rattle.partition_rounds.proofs.own_rounds.coming_again.Goals as goal

pub overflow_mul-whole : goal.overflow_mul-whole
overflow_mul-whole c =
    let fits = ticks_fit c.args.plan.now c.args.q c.args.own c.requires.own c.rounds_end-stop.ensures.lawful c.args.turn (le_of_lt c.requires.within) in
    omega (arith, fits)

pub returns-clause-belongs : goal.returns-clause-belongs
returns-clause-belongs c =
    again_begins c.args.plan.now c.args.q _ c.requires.own c.know_lawful.ensures.lawful c.requires.can c.args.turn c.requires.turns c.requires.kept
    c.requires.end
    refl refl refl refl c.rounds_end-stop.ensures.value refl
