use Rattle.std.proofs.Common.{◌*◌, ◌∙◌, List, Option, ap, arith, length, sym}
use Rattle.std.specs.Vec.{with_items}
use Rattle.sched_base.specs.declared.rows.Leaf.{Leaf}
use Rattle.part_rounds.proofs.SourceLemmas.{computed_on, early_part, ticks_fit, written}
use Rattle.part_rounds.proofs.sources.PartRounds.go.Goals as goal

pub run_part-requires-clause-early : goal.run_part-requires-clause-early
run_part-requires-clause-early c =
    let r = c.args.self.now in
    let b = c.requires.belongs in
    let at = (b.computed c.if-self.false).at in
    let soon = c.requires.early in
    early_part c.args.plan.now r.part b.part r.core.tick (omega (arith, at, soon))

pub overflow_mul-self : goal.overflow_mul-self
overflow_mul-self c =
    let r = c.args.self.now in
    let b = c.requires.belongs in
    let core = c.run_part.new.core in
    let fits = ticks_fit c.args.plan.now r.part b.part c.know_lawful.ensures.lawful core.tick c.run_part.ensures.belongs.at.early in
    let e = ap (λ n. n * r.part.factor) c.now.ensures.value in
    omega (arith, fits, e)

pub returns-else-self-clause-belongs : goal.returns-else-self-clause-belongs
returns-else-self-clause-belongs c =
    let r = c.args.self.now in
    let long = ap (λ (xs : List (Option Leaf)). length xs) (written r.shows c.run_part.new.shows (c.run_part.ensures.round.long
    ∙ sym c.requires.belongs.long)) ∙ c.run_part.ensures.round.long in
    computed_on c.args.plan.now r c.requires.belongs c.if-self.false c.run_part.new.core c.run_part.ensures.belongs _
    (with_items r.shows c.run_part.new.shows) long
    (ap (λ n. n * r.part.factor) c.now.ensures.value)

pub replay-requires-clause-belongs : goal.replay-requires-clause-belongs
replay-requires-clause-belongs c = c.requires.belongs

pub replay-requires-clause-again : goal.replay-requires-clause-again
replay-requires-clause-again c = c.if-self.true

pub replay-requires-clause-early : goal.replay-requires-clause-early
replay-requires-clause-early c = c.requires.early

pub run_part-requires-clause-part : goal.run_part-requires-clause-part
run_part-requires-clause-part c = c.requires.belongs.part

pub returns-then-self-clause-belongs : goal.returns-then-self-clause-belongs
returns-then-self-clause-belongs c = c.replay.ensures.belongs

pub returns-then-self-clause-part : goal.returns-then-self-clause-part
returns-then-self-clause-part c = c.replay.ensures.part

pub returns-then-self-clause-round : goal.returns-then-self-clause-round
returns-then-self-clause-round c = c.replay.ensures.round
