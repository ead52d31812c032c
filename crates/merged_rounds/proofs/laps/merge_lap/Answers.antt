use Rattle.std.proofs.Common.{◌≡◌, ℕ, ◌++◌, ◌∷◌, [], ap, arith, length, subst, sym, List, Option, ◌∙◌}
use Rattle.sched_base.specs.declared.rows.Leaf.{Leaf}
use Rattle.event_core.specs.Rounds.{IsRoundUpTo}
use Rattle.merged_rounds.specs.Laps.{IsAllTold, IsLap, IsSumUpTo, round_start}
use Rattle.merged_rounds.proofs.LapLemmas.{lap_on, last_start, no_lap, told_all}
use Rattle.merged_rounds.proofs.laps.merge_lap.Goals as goal

pub rounds-init : goal.rounds-init
rounds-init c = record {
  belongs = c.requires.belongs;
  sum = c.requires.sum;
  lap = subst (λ (es : List ℕ). IsLap c.args.plan.now c.args.source.now.tick es c.args.lap.now.told.items) (sym c.requires.ends)
      (subst (λ (ts : List (Option Leaf)). IsLap c.args.plan.now c.args.source.now.tick [] ts) (sym c.requires.none) (no_lap c.args.plan.now
      c.args.source.now.tick));
  end = ap (λ (es : List ℕ). round_start c.args.source.now.tick es (length es)) c.requires.ends;
}

pub go-requires-clause-belongs : goal.go-requires-clause-belongs
go-requires-clause-belongs c = c.rounds.invariant.belongs

pub go-requires-clause-early : goal.go-requires-clause-early
go-requires-clause-early c = let now = c.now.ensures in let on = c.rounds-test.true in let most = c.requires.until in omega (arith, now, on, most)

pub look_all-requires-clause-belongs : goal.look_all-requires-clause-belongs
look_all-requires-clause-belongs c = c.go.ensures.belongs

pub look_all-requires-clause-round : goal.look_all-requires-clause-round
look_all-requires-clause-round c = subst (λ (n : ℕ). IsRoundUpTo c.args.plan.now n c.go.new.self.tick) (sym c.now-start.ensures) c.go.ensures.round

pub look_all-requires-clause-told : goal.look_all-requires-clause-told
look_all-requires-clause-told c = c.rounds.auto.told ∙ c.requires.told

pub add_round-requires-clause-sum : goal.add_round-requires-clause-sum
add_round-requires-clause-sum c = subst (λ (n : ℕ). IsSumUpTo c.args.plan.now n c.rounds.sum) (sym c.now-start.ensures) c.rounds.invariant.sum

pub add_round-requires-clause-round : goal.add_round-requires-clause-round
add_round-requires-clause-round c =
    subst (λ (n : ℕ). IsRoundUpTo c.args.plan.now c.now-start.result n) (sym c.now-end.ensures)
    (subst (λ (n : ℕ). IsRoundUpTo c.args.plan.now n c.go.new.self.tick) (sym c.now-start.ensures) c.go.ensures.round)

pub add_round-requires-clause-told : goal.add_round-requires-clause-told
add_round-requires-clause-told c =
    told_all c.args.plan.now c.now-start.result c.now-end.result c.look_all.new.told c.rounds.sum.rows.lanes
    (subst (λ (n : ℕ). IsAllTold c.args.plan.now c.now-start.result n c.look_all.new.told) (sym c.now-end.ensures) c.look_all.ensures)

pub rounds-preserved : goal.rounds-preserved
rounds-preserved c =
    let p = c.args.plan.now in
    let first = c.args.source.now.tick in
    let start = c.rounds.source.tick in
    let end = c.go.new.self.tick in
    let ends = c.rounds.lap.ends.items in
    let all = c.rounds.lap.told.items in
    let told = subst (λ (n : ℕ). IsAllTold p n end c.look_all.new.told) c.now-start.ensures c.look_all.ensures in
    let lap = lap_on p first start end ends all c.look_all.new.told c.rounds.invariant.lap c.rounds.invariant.end c.go.ensures.round told in
    let ends_are : c.keep_round.new.self.ends.items ≡ ends ++ end ∷ [] = c.in_ok-keep_round.ensures.ends ∙ ap (λ n. ends ++ n ∷ []) c.now-end.ensures in
    record {
      belongs = c.go.ensures.belongs;
      sum = subst (λ (n : ℕ). IsSumUpTo p n c.add_round.new.sum) c.now-end.ensures c.in_ok-add_round.ensures.sum;
      lap = subst (λ (es : List ℕ). IsLap p first es c.keep_round.new.self.told.items) (sym ends_are)
          (subst (λ (ts : List (Option Leaf)). IsLap p first (ends ++ end ∷ []) ts) (sym c.in_ok-keep_round.ensures.told) lap);
      end = ap (λ (es : List ℕ). round_start first es (length es)) ends_are ∙ last_start first end ends;
    }

pub rounds-smaller : goal.rounds-smaller
rounds-smaller c =
    let now = c.now.ensures in
    let on = c.rounds-test.true in
    let most = c.requires.until in
    let above = c.go.ensures.round.above in
    omega (arith, now, on, most, above)

pub returns-clause-belongs : goal.returns-clause-belongs
returns-clause-belongs c = c.rounds.invariant.belongs

pub returns-clause-sum : goal.returns-clause-sum
returns-clause-sum c = c.rounds.invariant.sum

pub returns-clause-lap : goal.returns-clause-lap
returns-clause-lap c = c.rounds.invariant.lap

pub returns-clause-end : goal.returns-clause-end
returns-clause-end c = c.rounds.invariant.end
