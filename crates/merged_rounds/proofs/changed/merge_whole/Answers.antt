use Rattle.std.proofs.Common.{◌≡◌, ℕ, ap, slice_get, sym, subst, List, ◌∙◌}
use Rattle.sched_base.specs.declared.rows.Row.{Row}
use Rattle.event_core.specs.Rounds.{IsRoundUpTo, rows_of_round}
use Rattle.merged_rounds.specs.Laps.{IsAllTold, IsSumUpTo}
use Rattle.merged_rounds.proofs.ChangeLemmas.{showing_on}
use Rattle.merged_rounds.proofs.LapLemmas.{told_all}
use Rattle.merged_rounds.proofs.changed.merge_whole.Goals as goal

pub look_all-requires-clause-belongs : goal.look_all-requires-clause-belongs
look_all-requires-clause-belongs c = c.go.ensures.belongs

pub look_all-requires-clause-round : goal.look_all-requires-clause-round
look_all-requires-clause-round c = subst (λ (n : ℕ). IsRoundUpTo c.args.plan.now n c.go.new.self.tick) (sym c.now-start.ensures) c.go.ensures.round

pub add_round-requires-clause-sum : goal.add_round-requires-clause-sum
add_round-requires-clause-sum c = subst (λ (n : ℕ). IsSumUpTo c.args.plan.now n c.args.sum.now) (sym c.now-start.ensures) c.requires.sum

pub add_round-requires-clause-round : goal.add_round-requires-clause-round
add_round-requires-clause-round c =
    subst (λ (n : ℕ). IsRoundUpTo c.args.plan.now c.now-start.result n) (sym c.now-end.ensures)
    (subst (λ (n : ℕ). IsRoundUpTo c.args.plan.now n c.go.new.self.tick) (sym c.now-start.ensures) c.go.ensures.round)

pub add_round-requires-clause-told : goal.add_round-requires-clause-told
add_round-requires-clause-told c =
    told_all c.args.plan.now c.now-start.result c.now-end.result c.look_all.new.told c.args.sum.now.rows.lanes
    (subst (λ (n : ℕ). IsAllTold c.args.plan.now c.now-start.result n c.look_all.new.told) (sym c.now-end.ensures) c.look_all.ensures)

pub returns-clause-showing : goal.returns-clause-showing
returns-clause-showing c =
    let p = c.args.plan.now in
    let start = c.args.source.now.tick in
    let end = c.go.new.self.tick in
    let rows : rows_of_round p c.now-start.result c.now-end.result ≡ rows_of_round p start end =
    ap (λ n. rows_of_round p n c.now-end.result) c.now-start.ensures ∙ ap (rows_of_round p start) c.now-end.ensures in
    showing_on p c.go.new.self c.add_round.new.sum start c.go.ensures.belongs c.go.ensures.round c.requires.released
    (subst (λ (n : ℕ). IsSumUpTo p n c.add_round.new.sum) c.now-end.ensures c.in_ok-add_round.ensures.sum)
    (λ q r at. c.in_ok-add_round.ensures.ends q r (ap (λ (rs : List Row). slice_get rs q) rows ∙ at))
