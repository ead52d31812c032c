use Rattle.std.proofs.Common.{◌≡◌, ◌<◌, ◌∙◌, ℕ, ap, arith, length, slice_get, subst, sym, List}
use Rattle.sched_base.specs.declared.rows.Row.{Row}
use Rattle.event_core.specs.Rounds.{rows_of_round}
use Rattle.event_core.specs.Told.{AllReleased}
use Rattle.event_core.proofs.SettledPacks.{same_start}
use Rattle.merged_rows.specs.Columns.{AreShown}
use Rattle.merged_rounds.specs.Changes.{AreLeavesOf, AreTold, IsNone}
use Rattle.merged_rounds.specs.Laps.{IsAllTold, IsSumUpTo}
use Rattle.round_looks.specs.Looks.{leaf_at}
use Rattle.merged_rounds.proofs.ChangeLemmas.{changed_shown, released_later, showing_on, the_leaves, told_now}
use Rattle.std.proofs.lemmas.Result.{IfOk-from_err}
use Rattle.merged_rounds.proofs.changed.merge_telling.Goals as goal

pub add_changed-requires-clause-shown : goal.add_changed-requires-clause-shown
add_changed-requires-clause-shown c =
    let p = c.args.plan.now in
    let start = c.args.source.now.tick in
    let end = c.go_telling-count.new.self.tick in
    let seen = c.first_of-seen.result.now in
    let many = c.first_of-seen.ensures.long in
    let showing = c.requires.showing in
    let still : (q : ℕ) (none : Row) → q < p.tree.processors → IsNone seen (length seen) q → leaf_at p start end q none ≡ leaf_at p showing.start start q none =
    (λ q none l no. c.go_telling-count.ensures.others q showing.start none l (λ t. no t.0 (let m = t.1 in omega (arith, m, many))
    (c.first_of-seen.ensures.each t.0 t.1 ∙ t.2)) showing.released showing.round) in
    let told : AreTold p start end seen (length seen) c.args.told.now c.look_changed.new.told =
    subst (λ (n : ℕ). AreTold p n end seen (length seen) c.args.told.now c.look_changed.new.told) c.now-start.ensures c.look_changed.ensures in
    let all : IsAllTold p start end c.look_changed.new.told =
    told_now p start end seen (length seen) showing.start c.args.told.now c.look_changed.new.told (c.requires.told.all showing.start showing.round)
    c.look_changed.auto.told told still in
    let shown = changed_shown p start end seen showing.start c.look_changed.new.told c.args.sum.now.rows.lanes all still showing.last in
    subst (λ (n : ℕ). AreShown c.args.sum.now.rows.lanes seen c.look_changed.new.told (rows_of_round p c.now-start.result n)) (sym c.now-end.ensures)
    (subst (λ (n : ℕ). AreShown c.args.sum.now.rows.lanes seen c.look_changed.new.told (rows_of_round p n end)) (sym c.now-start.ensures) shown)

pub look_changed-requires-clause-leaves : goal.look_changed-requires-clause-leaves
look_changed-requires-clause-leaves c = subst (λ (n : ℕ). AreLeavesOf c.args.plan.now n c.args.leaves.now) (sym c.now-start.ensures) c.requires.leaves

pub returns-clause-showing : goal.returns-clause-showing
returns-clause-showing c =
    let p = c.args.plan.now in
    let start = c.args.source.now.tick in
    let end = c.go_telling-count.new.self.tick in
    let rows : rows_of_round p c.now-start.result c.now-end.result ≡ rows_of_round p start end =
    ap (λ n. rows_of_round p n c.now-end.result) c.now-start.ensures ∙ ap (rows_of_round p start) c.now-end.ensures in
    let showing = c.requires.showing in
    let above = showing.round.above in
    showing_on p c.go_telling-count.new.self c.add_changed.new.sum start c.go_telling-count.ensures.belongs c.go_telling-count.ensures.round
    (released_later p showing.start start (omega (arith, above)) showing.released) (subst (λ (n : ℕ). IsSumUpTo p n c.add_changed.new.sum) c.now-end.ensures
    c.in_ok-add_changed.ensures.sum)
    (λ q r at. c.in_ok-add_changed.ensures.ends q r (ap (λ (rs : List Row). slice_get rs q) rows ∙ at))

pub returns-clause-changed : goal.returns-clause-changed
returns-clause-changed c = record {
  within = c.go_telling-count.ensures.within;
  processors = c.go_telling-count.ensures.processors;
  others = λ q before none l away round.
      let showing = c.requires.showing in
      let released = subst (λ (n : ℕ). AllReleased c.args.plan.now n) (sym (same_start c.args.plan.now before showing.start c.args.source.now.tick round
      showing.round)) showing.released in
      c.go_telling-count.ensures.others q before none l (λ t. away t.0 t.1 t.2) released round;
}

pub returns-clause-told : goal.returns-clause-told
returns-clause-told c =
    let p = c.args.plan.now in
    let start = c.args.source.now.tick in
    let end = c.go_telling-count.new.self.tick in
    let seen = c.first_of-seen.result.now in
    let many = c.first_of-seen.ensures.long in
    let showing = c.requires.showing in
    let still : (q : ℕ) (none : Row) → q < p.tree.processors → IsNone seen (length seen) q → leaf_at p start end q none ≡ leaf_at p showing.start start q none =
    (λ q none l no. c.go_telling-count.ensures.others q showing.start none l (λ t. no t.0 (let m = t.1 in omega (arith, m, many))
    (c.first_of-seen.ensures.each t.0 t.1 ∙ t.2)) showing.released showing.round) in
    let told : AreTold p start end seen (length seen) c.args.told.now c.look_changed.new.told =
    subst (λ (n : ℕ). AreTold p n end seen (length seen) c.args.told.now c.look_changed.new.told) c.now-start.ensures c.look_changed.ensures in
    let all : IsAllTold p start end c.look_changed.new.told =
    told_now p start end seen (length seen) showing.start c.args.told.now c.look_changed.new.told (c.requires.told.all showing.start showing.round)
    c.look_changed.auto.told told still in
    the_leaves p start end c.look_changed.new.told c.go_telling-count.ensures.round all

pub returns-clause-still : goal.returns-clause-still
returns-clause-still c = λ q away.
    let many = c.first_of-seen.ensures.long in
    c.look_changed.ensures.rest q (λ k m e. (let l : k < c.go_telling-count.result = omega (arith, m, many) in
    away k l (sym (c.first_of-seen.ensures.each k l) ∙ e)))

pub go_telling-count-requires-clause-belongs : goal.go_telling-count-requires-clause-belongs
go_telling-count-requires-clause-belongs c = c.requires.showing.belongs

pub returns-in_err-add_changed-clause-showing : goal.returns-in_err-add_changed-clause-showing
returns-in_err-add_changed-clause-showing c = IfOk-from_err _ _ c.from_residual.ensures.0

pub returns-in_err-add_changed-clause-round : goal.returns-in_err-add_changed-clause-round
returns-in_err-add_changed-clause-round c = IfOk-from_err _ _ c.from_residual.ensures.0

pub returns-in_err-add_changed-clause-changed : goal.returns-in_err-add_changed-clause-changed
returns-in_err-add_changed-clause-changed c = IfOk-from_err _ _ c.from_residual.ensures.0

pub returns-in_err-add_changed-clause-placed : goal.returns-in_err-add_changed-clause-placed
returns-in_err-add_changed-clause-placed c = IfOk-from_err _ _ c.from_residual.ensures.0

pub returns-in_err-add_changed-clause-told : goal.returns-in_err-add_changed-clause-told
returns-in_err-add_changed-clause-told c = IfOk-from_err _ _ c.from_residual.ensures.0

pub returns-in_err-add_changed-clause-still : goal.returns-in_err-add_changed-clause-still
returns-in_err-add_changed-clause-still c = IfOk-from_err _ _ c.from_residual.ensures.0
