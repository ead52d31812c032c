use Rattle.std.proofs.Common.{◌%◌, arith}
use Rattle.std.proofs.lemmas.Bool.{eqb-true}
use Rattle.merged_rounds.proofs.LapLemmas.{turns_of}
use Rattle.merged_rounds.proofs.passes.are_turns.Goals as goal

pub returns : goal.returns
returns c = λ e.
    let off = c.if-ticks-eq0.false in
    turns_of c.args.plan.now c.know_lawful.ensures.lawful c.args.turn c.args.ticks c.requires.turn (omega (arith, off))
    (eqb-true (c.args.ticks % c.args.turn) 0 e)
