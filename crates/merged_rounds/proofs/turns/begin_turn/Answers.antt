use Rattle.std.proofs.Common.{◌∙◌, ℕ, List, ap, arith, length, sym, subst}
use Rattle.merged_rounds.proofs.ChangeLemmas.{released_at_once, the_leaves}
use Rattle.std.proofs.lemmas.Result.{IfOk-from_err}
use Rattle.event_core.specs.Rounds.{IsRoundUpTo}
use Rattle.merged_rounds.specs.Laps.{IsAllTold}
use Rattle.merged_rounds.proofs.turns.begin_turn.Goals as goal

pub merge_whole-requires-clause-released : goal.merge_whole-requires-clause-released
merge_whole-requires-clause-released c = released_at_once c.args.plan.now c.args.source.now.tick c.requires.can.on_time

pub keep_round-requires-clause-still : goal.keep_round-requires-clause-still
keep_round-requires-clause-still c = λ l. absurd (let none = ap (λ (xs : List ℕ). length xs) c.in_ok-turn.ensures.ends in omega (arith, l, none))

pub returns-clause-going : goal.returns-clause-going
returns-clause-going c =
    let p = c.args.plan.now in
    let start = c.args.source.now.tick in
    let end = c.merge_whole.new.source.tick in
    record {
      showing = c.in_ok-merge_whole.ensures.showing;
      turn = c.in_ok-keep_round.ensures.turn;
      end = c.in_ok-keep_round.ensures.end ∙ c.now-end.ensures;
      leaves = the_leaves p start end c.merge_whole.new.told c.in_ok-merge_whole.ensures.round c.in_ok-merge_whole.ensures.told;
    }

pub merge_whole-requires-clause-belongs : goal.merge_whole-requires-clause-belongs
merge_whole-requires-clause-belongs c = c.requires.belongs

pub merge_whole-requires-clause-early : goal.merge_whole-requires-clause-early
merge_whole-requires-clause-early c = c.requires.early

pub merge_whole-requires-clause-sum : goal.merge_whole-requires-clause-sum
merge_whole-requires-clause-sum c = c.requires.sum

pub merge_whole-requires-clause-told : goal.merge_whole-requires-clause-told
merge_whole-requires-clause-told c = c.requires.told

pub returns-in_err-merge_whole-clause-going : goal.returns-in_err-merge_whole-clause-going
returns-in_err-merge_whole-clause-going c = IfOk-from_err _ _ c.from_residual.ensures.0

pub returns-in_err-turn-clause-going : goal.returns-in_err-turn-clause-going
returns-in_err-turn-clause-going c = IfOk-from_err _ _ c.from_residual-in_err-turn.ensures.0

pub places-requires : goal.places-requires
places-requires c = c.in_ok-merge_whole.ensures.showing.belongs

pub keep_round-requires-clause-can : goal.keep_round-requires-clause-can
keep_round-requires-clause-can c = c.requires.can

pub keep_round-requires-clause-round : goal.keep_round-requires-clause-round
keep_round-requires-clause-round c = subst (λ (n : ℕ). IsRoundUpTo c.args.plan.now c.now-start.result n) (sym c.now-end.ensures)
    (subst (λ (n : ℕ). IsRoundUpTo c.args.plan.now n c.merge_whole.new.source.tick) (sym c.now-start.ensures) c.in_ok-merge_whole.ensures.round)

pub keep_round-requires-clause-leaves : goal.keep_round-requires-clause-leaves
keep_round-requires-clause-leaves c = subst (λ (n : ℕ). IsAllTold c.args.plan.now c.now-start.result n c.merge_whole.new.told) (sym c.now-end.ensures)
    (subst (λ (n : ℕ). IsAllTold c.args.plan.now n c.merge_whole.new.source.tick c.merge_whole.new.told) (sym c.now-start.ensures)
    c.in_ok-merge_whole.ensures.told)

pub keep_round-requires-clause-turn : goal.keep_round-requires-clause-turn
keep_round-requires-clause-turn c = c.in_ok-turn.ensures.turn

pub keep_round-requires-clause-marks : goal.keep_round-requires-clause-marks
keep_round-requires-clause-marks c = c.requires.marks

pub keep_round-requires-clause-few : goal.keep_round-requires-clause-few
keep_round-requires-clause-few c = c.requires.few

pub returns-in_err-keep_round-clause-going : goal.returns-in_err-keep_round-clause-going
returns-in_err-keep_round-clause-going c = IfOk-from_err _ _ c.from_residual-in_err-keep_round.ensures.0
