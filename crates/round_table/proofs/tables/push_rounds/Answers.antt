use Rattle.std.proofs.Common.{[], List, ap, arith, length, subst, sym, ℕ, ◌+◌, ◌<◌, ◌∙◌, ◌≡◌}
use Rattle.sched_base.specs.declared.rows.Row.{Row}
use Rattle.sched_base.specs.Tables.{IsRound, end_of, rounds_in, with_round}
use Rattle.run_tree.specs.Plans.{stop_of}
use Rattle.event_core.specs.Rounds.{rounds_before, rows_before, rows_of_round}
use Rattle.event_core.proofs.NextCores.{event_before_end}
use Rattle.event_core.proofs.RoundsInOrder.{more_rounds, next_rounds, no_rounds, no_rows}
use Rattle.sched_laws.proofs.WholeRounds.{length-round}
use Rattle.sched_base.specs.Lanes.{lanes_of}
use Rattle.sched_base.proofs.ScheduleLanes.{lanes_of-none, length-lanes_of}
use Rattle.event_core.proofs.PlanRounds.{is_round, next_count, next_end, next_lanes, no_end, no_round}
use Rattle.round_table.proofs.tables.push_rounds.Goals.{After-rounds}
use Rattle.round_table.proofs.tables.push_rounds.Goals as goal

pub rounds-init : goal.rounds-init
rounds-init c =
    let p = c.args.plan.now in
    let h = c.rounds_end-end.ensures.lawful in
    let m = p.tree.processors in
    let start = c.requires.first in
    let none : c.args.table.now.lanes ≡ lanes_of m [] = c.requires.none ∙ sym (lanes_of-none m) in
    let no_rows_yet : rows_before p c.args.core.now.tick ≡ [] = ap (rows_before p) start ∙ no_rows p in
    let no_rounds_yet : rounds_before p c.args.core.now.tick ≡ 0 = ap (rounds_before p) start ∙ no_rounds p in
    record {
      belongs = c.requires.belongs;
      lanes = none ∙ ap (lanes_of m) (sym no_rows_yet);
      end = ap end_of none ∙ no_end p h ∙ sym start;
      count = ap rounds_in none ∙ no_round p h ∙ sym no_rounds_yet;
      room = (let room = c.requires.room in omega (arith, room, no_rounds_yet));
    }

pub push_round-requires-clause-whole : goal.push_round-requires-clause-whole
push_round-requires-clause-whole c =
    let p = c.args.plan.now in
    let start = c.rounds.core.tick in
    ap length c.advance.ensures.rows ∙ length-round p.set.tasks p.tree start c.advance.new.self.tick ∙ sym (length-lanes_of p.tree.processors
    (rows_before p start)) ∙ ap length (sym c.rounds.invariant.lanes)

pub push_round-requires-clause-round : goal.push_round-requires-clause-round
push_round-requires-clause-round c =
    let p = c.args.plan.now in
    let whole = is_round p c.rounds_end-end.ensures.lawful c.rounds.core.tick c.advance.new.self.tick c.advance.ensures.round in
    subst (λ (n : ℕ). IsRound n c.advance.new.rows) (sym c.rounds.invariant.end) (subst (λ (rows : List Row). IsRound c.rounds.core.tick rows)
    (sym c.advance.ensures.rows) whole)

pub push_round-requires-clause-room : goal.push_round-requires-clause-room
push_round-requires-clause-room c =
    let p = c.args.plan.now in
    let now = c.now.ensures.value in
    let end = c.rounds_end-end.ensures.value in
    let on = c.rounds-test.true in
    let early : c.rounds.core.tick < stop_of p = omega (arith, now, end, on) in
    let more = more_rounds p c.rounds.core.tick (event_before_end p c.rounds.core c.rounds.invariant.belongs early) early in
    let room = c.rounds.invariant.room in
    omega (arith, more, room)

pub rounds-preserved : goal.rounds-preserved
rounds-preserved c =
    let p = c.args.plan.now in
    let h = c.rounds_end-end.ensures.lawful in
    let m = p.tree.processors in
    let start = c.rounds.core.tick in
    let end = c.advance.new.self.tick in
    let round = c.advance.ensures.round in
    let lanes = c.rounds.table.lanes in
    let long : length lanes ≡ m = ap length c.rounds.invariant.lanes ∙ length-lanes_of m (rows_before p start) in
    let is = c.push_round.ensures.lanes ∙ ap (with_round lanes) c.advance.ensures.rows in
    let next = next_rounds p start end round in
    let room = c.rounds.invariant.room in
    let less = c.push_round.ensures.room in
    record {
      belongs = c.advance.ensures.belongs;
      lanes = is ∙ ap (λ before. with_round before (rows_of_round p start end)) c.rounds.invariant.lanes ∙ sym (next_lanes p h start end round);
      end = ap end_of is ∙ next_end p h start end round lanes long;
      count = ap rounds_in is ∙ next_count p h start end round lanes long ∙ ap (λ n. n + 1) c.rounds.invariant.count ∙ sym next;
      room = omega (arith, next, room, less);
    }

pub advance-requires-clause-belongs : goal.advance-requires-clause-belongs
advance-requires-clause-belongs c = c.rounds.invariant.belongs

pub advance-requires-clause-rows : goal.advance-requires-clause-rows
advance-requires-clause-rows c = c.rounds.auto.rows ∙ c.requires.rows

pub advance-requires-clause-early : goal.advance-requires-clause-early
advance-requires-clause-early c =
    let now = c.now.ensures.value in
    let end = c.rounds_end-end.ensures.value in
    let on = c.rounds-test.true in
    omega (arith, now, end, on)

-- the core has come to the end
at_end : (c : After-rounds) → c.rounds.core.tick ≡ stop_of c.args.plan.now
at_end c =
    let now = c.now.ensures.value in
    let end = c.rounds_end-end.ensures.value in
    let off = c.rounds-test.false in
    let early = c.rounds.invariant.belongs.at.early in
    omega (arith, now, end, off, early)

pub returns-clause-lanes : goal.returns-clause-lanes
returns-clause-lanes c = c.rounds.invariant.lanes ∙ ap (λ n. lanes_of c.args.plan.now.tree.processors (rows_before c.args.plan.now n))
    (at_end (goal.at.returns-clause-lanes c).After-rounds)

pub returns-clause-count : goal.returns-clause-count
returns-clause-count c = c.rounds.invariant.count ∙ ap (rounds_before c.args.plan.now) (at_end (goal.at.returns-clause-count c).After-rounds)

pub returns-clause-full : goal.returns-clause-full
returns-clause-full c =
    let all = ap (rounds_before c.args.plan.now) (at_end (goal.at.returns-clause-full c).After-rounds) in
    let room = c.rounds.invariant.room in
    omega (arith, all, room)
