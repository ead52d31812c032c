use Rattle.std.proofs.Common.{◌≡◌, ℕ, ◌+◌, ◌*◌, ◌/◌, ◌<◌, min, ap, arith, subst, ◌∙◌}
use Rattle.sched_base.specs.Tables.{row_limit}
use Rattle.run_tree.specs.Plans.{rounds_of, stop_of}
use Rattle.run_tree.specs.Tree.{Tree}
use Rattle.event_core.proofs.NextCores.{event_before_end}
use Rattle.event_core.proofs.RoundsInOrder.{next_rounds, too_long}
use Rattle.merged_rounds.proofs.CountLemmas.{rounds_within}
use Rattle.merged_rounds.proofs.counts.count_up_to.Goals as goal

pub returns-then-next_rows-gt-ROW_LIMIT-clause-fault : goal.returns-then-next_rows-gt-ROW_LIMIT-clause-fault
returns-then-next_rows-gt-ROW_LIMIT-clause-fault c =
    let p = c.args.plan.now in
    let now = c.now.ensures.value in
    let on = c.rounds-test.true in
    let until = c.requires.until in
    let early : c.rounds.core.tick < stop_of p = omega (arith, now, until, on) in
    let TooLong : ℕ → Type 0 = λ m. (row_limit < rounds_of p * m) × ((c.rounds.count + 1) * c.from-processors.result ≡ (row_limit / m + 1) * m) in
    subst TooLong (c.from-processors.ensures ∙ c.processors.ensures.value ∙ ap (λ (t : Tree). t.processors) c.tree.ensures.value)
    (too_long p c.rounds.core.tick c.rounds.count c.from-processors.result (event_before_end p c.rounds.core c.rounds.invariant.belongs early) early
    c.rounds.invariant.here c.rounds.invariant.few c.if-next_rows-gt-ROW_LIMIT.true)

pub rounds-preserved : goal.rounds-preserved
rounds-preserved c =
    let p = c.args.plan.now in
    let start = c.rounds.core.tick in
    let end = c.go.new.self.tick in
    let until = c.args.until in
    let round = c.go.ensures.round in
    let next = next_rounds p start end round in
    let is = c.rounds.invariant.here in
    let now = c.now.ensures.value in
    let on = c.rounds-test.true in
    let up = round.above in
    record {
      belongs = c.go.ensures.belongs;
      here = omega (arith, next, is);
      before =
          let within = rounds_within p start end (min end until) round (omega (arith, now, on, up)) (omega arith) in
          omega (arith, within, is);
      few = c.if-next_rows-gt-ROW_LIMIT.false;
    }
