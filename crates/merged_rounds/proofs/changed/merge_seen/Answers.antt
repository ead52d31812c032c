use Rattle.std.proofs.Common.{◌≡◌, ◌<◌, ◌∙◌, ℕ, ap, arith, length, slice_get, subst, sym, List}
use Rattle.sched_base.specs.declared.rows.Row.{Row}
use Rattle.event_core.specs.Rounds.{rows_of_round}
use Rattle.merged_rows.specs.Columns.{AreShown}
use Rattle.merged_rounds.specs.Changes.{IsNone, leaves_in}
use Rattle.round_looks.specs.Looks.{leaf_at}
use Rattle.merged_rounds.proofs.ChangeLemmas.{all_in, changed_shown, leaves_later, released_later, showing_on}
use Rattle.std.proofs.lemmas.Result.{IfOk-from_err}
use Rattle.merged_rounds.proofs.changed.merge_seen.Goals as goal

pub add_seen-requires-clause-shown : goal.add_seen-requires-clause-shown
add_seen-requires-clause-shown c =
    let p = c.args.plan.now in
    let start = c.args.source.now.tick in
    let end = c.go_telling-count.new.self.tick in
    let seen = c.first_of-seen.result.now in
    let many = c.first_of-seen.ensures.long in
    let lanes = c.args.sum.now.rows.lanes in
    let showing = c.requires.showing in
    let still : (q : ℕ) (none : Row) → q < p.tree.processors → IsNone seen (length seen) q → leaf_at p start end q none ≡ leaf_at p showing.start start q none =
    (λ q none l no. c.go_telling-count.ensures.others q showing.start none l (λ t. no t.0 (let m = t.1 in omega (arith, m, many))
    (c.first_of-seen.ensures.each t.0 t.1 ∙ t.2)) showing.released showing.round) in
    subst (λ (n : ℕ). AreShown lanes seen (leaves_in p n end) (rows_of_round p n end)) (sym c.now-start.ensures)
    (changed_shown p start end seen showing.start (leaves_in p start end) lanes (all_in p start end) still showing.last)

pub returns-clause-showing : goal.returns-clause-showing
returns-clause-showing c =
    let p = c.args.plan.now in
    let start = c.args.source.now.tick in
    let end = c.go_telling-count.new.self.tick in
    let rows : rows_of_round p c.now-start.result end ≡ rows_of_round p start end = ap (λ n. rows_of_round p n end) c.now-start.ensures in
    let showing = c.requires.showing in
    let above = showing.round.above in
    showing_on p c.go_telling-count.new.self c.add_seen.new.sum start c.go_telling-count.ensures.belongs c.go_telling-count.ensures.round
    (released_later p showing.start start (omega (arith, above)) showing.released) c.in_ok-add_seen.ensures.sum
    (λ q r at. c.in_ok-add_seen.ensures.ends q r (ap (λ (rs : List Row). slice_get rs q) rows ∙ at))

pub returns-clause-leaves : goal.returns-clause-leaves
returns-clause-leaves c =
    let above = c.go_telling-count.ensures.round.above in
    leaves_later c.args.plan.now c.args.source.now.tick c.go_telling-count.new.self.tick c.args.leaves.now (omega (arith, above)) c.requires.leaves

pub returns-in_err-add_seen-clause-showing : goal.returns-in_err-add_seen-clause-showing
returns-in_err-add_seen-clause-showing c = IfOk-from_err _ _ c.from_residual.ensures.0

pub returns-in_err-add_seen-clause-round : goal.returns-in_err-add_seen-clause-round
returns-in_err-add_seen-clause-round c = IfOk-from_err _ _ c.from_residual.ensures.0

pub returns-in_err-add_seen-clause-leaves : goal.returns-in_err-add_seen-clause-leaves
returns-in_err-add_seen-clause-leaves c = IfOk-from_err _ _ c.from_residual.ensures.0
