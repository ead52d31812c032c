use Rattle.std.proofs.Common.{Some, inl, ℕ, List, length, sym, ap, subst, arith, ◌∙◌}
use Rattle.sched_base.specs.declared.rows.Row.{Row}
use Rattle.sched_base.specs.Tables.{IsRound, with_round}
use Rattle.sched_base.proofs.ScheduleLanes.{length-lanes_of}
use Rattle.sched_laws.proofs.WholeRounds.{length-round}
use Rattle.event_core.specs.Rounds.{rows_before}
use Rattle.event_core.proofs.PlanRounds.{is_round}
use Rattle.plan_rounds.specs.PlanRows.{AreRoundsOf}
use Rattle.plan_rounds.proofs.RoundLemmas.{AreRoundsOf-next}
use Rattle.plan_rounds.proofs.rounds.push_again.Goals as goal

pub push_round-requires-clause-whole : goal.push_round-requires-clause-whole
push_round-requires-clause-whole c =
    let p = c.args.plan.now in
    ap length c.write_again.ensures.rows ∙ length-round p.set.tasks p.tree c.args.tick.now c.write_again.result ∙ sym (length-lanes_of p.tree.processors
    (rows_before p c.args.tick.now)) ∙ ap length (sym c.requires.rounds.lanes)

pub push_round-requires-clause-round : goal.push_round-requires-clause-round
push_round-requires-clause-round c =
    let p = c.args.plan.now in
    let whole = is_round p c.know_lawful.ensures.lawful c.args.tick.now c.write_again.result c.write_again.ensures.round in
    subst (λ (n : ℕ). IsRound n c.write_again.new.rows) (sym c.requires.rounds.ends) (subst (λ (rows : List Row). IsRound c.args.tick.now rows)
    (sym c.write_again.ensures.rows) whole)

next : (c : goal.After-push_round) → AreRoundsOf c.args.plan.now
    (record {
      core = c.args.core.now;
      tick = c.write_again.result;
      again = Some c.args.again;
      width = length c.write_again.new.rows;
      table = c.push_round.new.self;
    })
next c =
    let p = c.args.plan.now in
    let up = c.write_again.ensures.round.above in
    let past = c.requires.past in
    AreRoundsOf-next p c.know_lawful.ensures.lawful
    (record { core = c.args.core.now; tick = c.args.tick.now; again = Some c.args.again; width = length c.args.rows.now; table = c.args.table.now })
    (record {
      core = c.args.core.now;
      tick = c.write_again.result;
      again = Some c.args.again;
      width = length c.write_again.new.rows;
      table = c.push_round.new.self;
    })
    c.requires.rounds c.requires.rounds.core (c.requires.rounds.again, inl (omega (arith, up, past))) c.write_again.ensures.round c.write_again.auto.rows
    (c.push_round.ensures.lanes ∙ ap (with_round c.args.table.now.lanes) c.write_again.ensures.rows) c.push_round.ensures.room

pub returns-clause-rounds : goal.returns-clause-rounds
returns-clause-rounds c = next c

pub returns-clause-one_more : goal.returns-clause-one_more
returns-clause-one_more c =
    let before = c.requires.rounds.room in
    let after = (next c).room in
    let less = c.push_round.ensures.room in
    omega (arith, before, after, less)
