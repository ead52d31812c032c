use Rattle.std.proofs.Common.{ap, arith, length, ◌∙◌, ◌≡◌, ◌++◌, ◌∷◌, [], ◌*◌}
use Rattle.std.proofs.lemmas.Result.{IfOk-from_err}
use Rattle.merged_rounds.specs.Laps.{round_start}
use Rattle.partition_rounds.specs.declared.kept.KeptRounds.{KeptRounds}
use Rattle.partition_rounds.proofs.KeptLemmas.{more_end, none_kept, one_more, round_above, tick_fits}
use Rattle.partition_rounds.proofs.kept.keep_rounds.Goals as goal

pub overflow_mul-now : goal.overflow_mul-now
overflow_mul-now c =
    let own = c.args.own.now in
    let most = tick_fits c.args.plan.now c.know_lawful.ensures.lawful own c.args.q c.requires.own c.run_own-leaf.new.core.tick
    c.run_own-leaf.ensures.belongs.at.early in
    let now = ap (λ n. n * own.factor) c.now-in-rounds.ensures.value in
    omega (arith, most, now)

pub rounds-preserved : goal.rounds-preserved
rounds-preserved c =
    let own = c.args.own.now in
    let kept = c.rounds.kept in
    let next : KeptRounds = record { ends = c.push.new.self; shows = c.push-in-rounds.new.self } in
    let start = c.rounds.core.tick * own.factor in
    let end = c.run_own-leaf.new.core.tick * own.factor in
    let leaf = c.run_own-leaf.result in
    let ends_are : c.push.new.self.items ≡ kept.ends.items ++ end ∷ [] = c.in_ok-push.ensures.items ∙ ap (λ n. kept.ends.items ++ n * own.factor ∷ [])
    c.now-in-rounds.ensures.value in
    let shows_are : c.push-in-rounds.new.self.items ≡ kept.shows.items ++ leaf ∷ [] = c.in_ok-push-2.ensures.items in
    record {
      belongs = c.run_own-leaf.ensures.belongs;
      kept = one_more own kept next start end leaf c.rounds.invariant.kept c.rounds.invariant.end c.run_own-leaf.ensures.round ends_are shows_are;
      end = more_end own kept next start end leaf c.rounds.invariant.kept c.rounds.invariant.end c.run_own-leaf.ensures.round ends_are shows_are;
    }

pub rounds-smaller : goal.rounds-smaller
rounds-smaller c =
    let now = c.now.ensures.value in
    let on = c.rounds-test.true in
    let most = c.requires.until in
    let above = round_above c.args.own.now c.requires.own.own.some c.rounds.core.tick c.run_own-leaf.new.core.tick c.run_own-leaf.result
    c.run_own-leaf.ensures.round in
    omega (arith, now, on, most, above)

pub rounds-init : goal.rounds-init
rounds-init c = record {
  belongs = c.requires.belongs;
  kept = none_kept c.args.own.now c.no_kept-kept.result c.no_kept-kept.ensures.ends c.no_kept-kept.ensures.shows;
  end =
      let none = ap (λ es. round_start 0 es (length es)) c.no_kept-kept.ensures.ends in
      let first = ap (λ n. n * c.args.own.now.factor) c.requires.first in
      omega (arith, none, first);
}

pub run_own-leaf-requires-clause-own : goal.run_own-leaf-requires-clause-own
run_own-leaf-requires-clause-own c = c.requires.own

pub run_own-leaf-requires-clause-belongs : goal.run_own-leaf-requires-clause-belongs
run_own-leaf-requires-clause-belongs c = c.rounds.invariant.belongs

pub run_own-leaf-requires-clause-early : goal.run_own-leaf-requires-clause-early
run_own-leaf-requires-clause-early c =
    let now = c.now.ensures.value in
    let on = c.rounds-test.true in
    let most = c.requires.until in
    omega (arith, now, on, most)

pub returns-in_err-push-clause-belongs : goal.returns-in_err-push-clause-belongs
returns-in_err-push-clause-belongs c = IfOk-from_err c.from_residual.result _ c.from_residual.ensures.0

pub returns-in_err-push-clause-kept : goal.returns-in_err-push-clause-kept
returns-in_err-push-clause-kept c = IfOk-from_err c.from_residual.result _ c.from_residual.ensures.0

pub returns-in_err-push-clause-end : goal.returns-in_err-push-clause-end
returns-in_err-push-clause-end c = IfOk-from_err c.from_residual.result _ c.from_residual.ensures.0

pub returns-in_err-push-2-clause-belongs : goal.returns-in_err-push-2-clause-belongs
returns-in_err-push-2-clause-belongs c = IfOk-from_err c.from_residual-in_err-push-2.result _ c.from_residual-in_err-push-2.ensures.0

pub returns-in_err-push-2-clause-kept : goal.returns-in_err-push-2-clause-kept
returns-in_err-push-2-clause-kept c = IfOk-from_err c.from_residual-in_err-push-2.result _ c.from_residual-in_err-push-2.ensures.0

pub returns-in_err-push-2-clause-end : goal.returns-in_err-push-2-clause-end
returns-in_err-push-2-clause-end c = IfOk-from_err c.from_residual-in_err-push-2.result _ c.from_residual-in_err-push-2.ensures.0

pub returns-clause-belongs : goal.returns-clause-belongs
returns-clause-belongs c = c.rounds.invariant.belongs

pub returns-clause-kept : goal.returns-clause-kept
returns-clause-kept c = c.rounds.invariant.kept

pub returns-clause-end : goal.returns-clause-end
returns-clause-end c = c.rounds.invariant.end
