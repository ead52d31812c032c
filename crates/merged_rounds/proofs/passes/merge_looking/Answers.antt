use Rattle.std.proofs.Common.{◌≡◌, ℕ, ◌<◌, ap, arith, get_or, length, subst, sym, List, None, slice_get, ◌∙◌}
use Rattle.sched_base.specs.declared.rows.Row.{Row}
use Rattle.event_core.specs.Rounds.{IsRoundUpTo, rows_of_round}
use Rattle.merged_rows.specs.Columns.{AreChangesTold}
use Rattle.merged_rounds.specs.Laps.{IsSumUpTo}
use Rattle.round_looks.specs.Looks.{IsLooked}
use Rattle.merged_rounds.proofs.LookLemmas.{are_told, kept_on}
use Rattle.merged_rounds.proofs.passes.merge_looking.Goals as goal

pub rounds-init : goal.rounds-init
rounds-init c = c.requires.merging

pub go-requires-clause-belongs : goal.go-requires-clause-belongs
go-requires-clause-belongs c = c.rounds.invariant.belongs

pub go-requires-clause-early : goal.go-requires-clause-early
go-requires-clause-early c = let now = c.now.ensures.value in let on = c.rounds-test.true in let most = c.requires.until in omega (arith, now, on, most)

pub look_each-requires-clause-belongs : goal.look_each-requires-clause-belongs
look_each-requires-clause-belongs c = c.go.ensures.belongs

pub look_each-requires-clause-round : goal.look_each-requires-clause-round
look_each-requires-clause-round c = subst (λ (n : ℕ). IsRoundUpTo c.args.plan.now n c.go.new.self.tick) (sym c.now-start.ensures.value) c.go.ensures.round

pub look_each-requires-clause-kept : goal.look_each-requires-clause-kept
look_each-requires-clause-kept c = c.rounds.auto.kept ∙ c.requires.kept

pub look_each-requires-clause-told : goal.look_each-requires-clause-told
look_each-requires-clause-told c = c.rounds.auto.told ∙ c.requires.told

pub add_round-requires-clause-sum : goal.add_round-requires-clause-sum
add_round-requires-clause-sum c = subst (λ (n : ℕ). IsSumUpTo c.args.plan.now n c.rounds.sum) (sym c.now-start.ensures.value) c.rounds.invariant.sum

pub add_round-requires-clause-round : goal.add_round-requires-clause-round
add_round-requires-clause-round c =
    subst (λ (n : ℕ). IsRoundUpTo c.args.plan.now c.now-start.result n) (sym c.now-end.ensures.value)
    (subst (λ (n : ℕ). IsRoundUpTo c.args.plan.now n c.go.new.self.tick) (sym c.now-start.ensures.value) c.go.ensures.round)

pub add_round-requires-clause-told : goal.add_round-requires-clause-told
add_round-requires-clause-told c =
    let p = c.args.plan.now in
    let start = c.rounds.core.tick in
    let end = c.go.new.self.tick in
    let looked : (q : ℕ) → q < p.tree.processors → IsLooked p start end q (get_or c.rounds.kept q None) (get_or c.look_each.new.kept q None)
    (get_or c.look_each.new.told q None) =
    (λ q l. subst (λ (n : ℕ). IsLooked p n end q (get_or c.rounds.kept q None) (get_or c.look_each.new.kept q None) (get_or c.look_each.new.told q None))
    c.now-start.ensures.value (c.look_each.ensures q l)) in
    let long : length c.look_each.new.told ≡ p.tree.processors = (let a = c.requires.told in let b = c.rounds.auto.told in omega (arith, a, b)) in
    let told = are_told p start end c.rounds.sum.rows.lanes c.rounds.kept c.look_each.new.kept c.look_each.new.told c.rounds.invariant.kept looked long in
    subst (λ (n : ℕ). AreChangesTold c.rounds.sum.rows.lanes c.look_each.new.told (rows_of_round p c.now-start.result n)) (sym c.now-end.ensures.value)
    (subst (λ (n : ℕ). AreChangesTold c.rounds.sum.rows.lanes c.look_each.new.told (rows_of_round p n end)) (sym c.now-start.ensures.value) told)

pub rounds-preserved : goal.rounds-preserved
rounds-preserved c =
    let p = c.args.plan.now in
    let start = c.rounds.core.tick in
    let end = c.go.new.self.tick in
    let round = c.go.ensures.round in
    let looked : (q : ℕ) → q < p.tree.processors → IsLooked p start end q (get_or c.rounds.kept q None) (get_or c.look_each.new.kept q None)
    (get_or c.look_each.new.told q None) =
    (λ q l. subst (λ (n : ℕ). IsLooked p n end q (get_or c.rounds.kept q None) (get_or c.look_each.new.kept q None) (get_or c.look_each.new.told q None))
    c.now-start.ensures.value (c.look_each.ensures q l)) in
    let rows : rows_of_round p c.now-start.result c.now-end.result ≡ rows_of_round p start end =
    ap (λ n. rows_of_round p n c.now-end.result) c.now-start.ensures.value ∙ ap (rows_of_round p start) c.now-end.ensures.value in
    record {
      belongs = c.go.ensures.belongs;
      sum = subst (λ (n : ℕ). IsSumUpTo p n c.add_round.new.sum) c.now-end.ensures.value c.in_ok-add_round.ensures.sum;
      kept = kept_on p start end c.rounds.sum.rows.lanes c.rounds.kept c.look_each.new.kept c.look_each.new.told c.rounds.invariant.kept looked
          c.add_round.new.sum.rows.lanes
          (let above = round.above in omega (arith, above))
          (λ q r at. c.in_ok-add_round.ensures.ends q r (ap (λ (rs : List Row). slice_get rs q) rows ∙ at));
    }

pub rounds-smaller : goal.rounds-smaller
rounds-smaller c =
    let now = c.now.ensures.value in
    let on = c.rounds-test.true in
    let most = c.requires.until in
    let above = c.go.ensures.round.above in
    omega (arith, now, on, most, above)

pub returns-clause-merging : goal.returns-clause-merging
returns-clause-merging c = c.rounds.invariant

pub returns-clause-reached : goal.returns-clause-reached
returns-clause-reached c = let now = c.now.ensures.value in let off = c.rounds-test.false in omega (arith, now, off)
