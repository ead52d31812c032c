use Rattle.std.proofs.Common.{◌*◌, ap, arith}
use Rattle.partition_rounds.proofs.OwnRoundLemmas.{computed_on, early_own, ticks_fit}
use Rattle.partition_rounds.proofs.own_rounds.OwnRounds.go.Goals as goal

pub run_own-self-requires-clause-early : goal.run_own-self-requires-clause-early
run_own-self-requires-clause-early c =
    let r = c.args.self.now in
    let b = c.requires.belongs in
    let at = (b.computed c.if-self.false).at in
    let soon = c.requires.early in
    early_own c.args.plan.now c.args.q r.own b.own r.core.tick (omega (arith, at, soon))

pub overflow_mul-self : goal.overflow_mul-self
overflow_mul-self c =
    let r = c.args.self.now in
    let b = c.requires.belongs in
    let core = c.run_own-self.new.core in
    let fits = ticks_fit c.args.plan.now c.args.q r.own b.own c.know_lawful.ensures.lawful core.tick c.run_own-self.ensures.belongs.at.early in
    let e = ap (λ n. n * r.own.factor) c.now.ensures.value in
    omega (arith, fits, e)

pub returns-else-self-clause-belongs : goal.returns-else-self-clause-belongs
returns-else-self-clause-belongs c =
    let r = c.args.self.now in
    computed_on c.args.plan.now c.args.q r c.requires.belongs c.if-self.false c.run_own-self.new.core c.run_own-self.ensures.belongs _ c.run_own-self.result
    (ap (λ n. n * r.own.factor) c.now.ensures.value)

pub replay-requires-clause-belongs : goal.replay-requires-clause-belongs
replay-requires-clause-belongs c = c.requires.belongs

pub replay-requires-clause-again : goal.replay-requires-clause-again
replay-requires-clause-again c = c.if-self.true

pub replay-requires-clause-early : goal.replay-requires-clause-early
replay-requires-clause-early c = c.requires.early

pub run_own-self-requires-clause-own : goal.run_own-self-requires-clause-own
run_own-self-requires-clause-own c = c.requires.belongs.own

pub returns-then-self-clause-belongs : goal.returns-then-self-clause-belongs
returns-then-self-clause-belongs c = c.replay.ensures.belongs

pub returns-then-self-clause-own : goal.returns-then-self-clause-own
returns-then-self-clause-own c = c.replay.ensures.own

pub returns-then-self-clause-round : goal.returns-then-self-clause-round
returns-then-self-clause-round c = c.replay.ensures.round
