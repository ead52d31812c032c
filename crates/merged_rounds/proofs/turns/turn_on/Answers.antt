use Rattle.std.proofs.Common.{◌∙◌, arith}
use Rattle.merged_rounds.proofs.ChangeLemmas.{leaves_later}
use Rattle.merged_rounds.proofs.turns.turn_on.Goals as goal

pub rounds-init : goal.rounds-init
rounds-init c = record { going = c.requires.going; leaves = c.requires.leaves; holds = c.requires.holds; marks = c.requires.marks }

pub turn_next-requires-clause-going : goal.turn_next-requires-clause-going
turn_next-requires-clause-going c = c.rounds.invariant.going

pub turn_next-requires-clause-leaves : goal.turn_next-requires-clause-leaves
turn_next-requires-clause-leaves c = c.rounds.invariant.leaves

pub turn_next-requires-clause-holds : goal.turn_next-requires-clause-holds
turn_next-requires-clause-holds c = c.rounds.invariant.holds

pub turn_next-requires-clause-told : goal.turn_next-requires-clause-told
turn_next-requires-clause-told c = c.rounds.auto.changed ∙ c.requires.told

pub turn_next-requires-clause-marks : goal.turn_next-requires-clause-marks
turn_next-requires-clause-marks c = c.rounds.invariant.marks

pub rounds-preserved : goal.rounds-preserved
rounds-preserved c = record {
  going = c.in_ok-turn_next.ensures.going;
  leaves = (let above = c.in_ok-turn_next.ensures.later.above in leaves_later c.args.plan.now c.rounds.source.tick c.turn_next.new.source.tick
      c.args.leaves.now (omega (arith, above)) c.rounds.invariant.leaves);
  holds = c.in_ok-turn_next.ensures.holds;
  marks = c.in_ok-turn_next.ensures.long;
}

pub rounds-smaller : goal.rounds-smaller
rounds-smaller c =
    let up = c.in_ok-turn_next.ensures.later.above in
    let below = c.in_ok-turn_next.ensures.later.below in
    omega (arith, up, below)
