use Rattle.std.proofs.Common.{◌≡◌, ◌∙◌, ℕ, ap, slice_get, subst, sym, List}
use Rattle.std.proofs.lemmas.Result.{IfOk-from_err}
use Rattle.sched_base.specs.declared.rows.Row.{Row}
use Rattle.event_core.specs.Rounds.{IsRoundUpTo, rows_of_round}
use Rattle.merged_rows.specs.Columns.{AreShown}
use Rattle.merged_rounds.specs.Laps.{IsSumUpTo}
use Rattle.part_rounds.proofs.MergingLemmas.{gone_told, merging_on, next_shown}
use Rattle.part_rounds.proofs.merging.merge_next.Goals as goal

pub go_telling-count-requires-clause-before : goal.go_telling-count-requires-clause-before
go_telling-count-requires-clause-before c =
    gone_told c.args.plan.now c.args.parted.now.tick c.args.leaves.now c.args.sum.now c.requires.merging.gone

pub add_changed-requires-clause-shown : goal.add_changed-requires-clause-shown
add_changed-requires-clause-shown c =
    let p = c.args.plan.now in
    let tick = c.args.parted.now.tick in
    let end = c.go_telling-count.new.self.tick in
    let sum = c.args.sum.now in
    let seen = c.first_of-seen.result.now in
    let now = c.go_telling-count.new.leaves in
    let went = c.go_telling-count.ensures in
    let shown = next_shown p tick c.args.leaves.now sum end c.go_telling-count.result c.go_telling-count.new.told seen c.first_of-seen.ensures.long
    c.first_of-seen.ensures.each
    now c.requires.merging.gone went.all went.first went.others in
    subst (λ (n : ℕ). AreShown sum.rows.lanes seen now (rows_of_round p c.now-start.result n)) (sym c.now-end.ensures)
    (subst (λ (n : ℕ). AreShown sum.rows.lanes seen now (rows_of_round p n end)) (sym c.now-start.ensures) shown)

pub returns-clause-merging : goal.returns-clause-merging
returns-clause-merging c =
    let p = c.args.plan.now in
    let start = c.args.parted.now.tick in
    let parted = c.go_telling-count.new.self in
    let went = c.go_telling-count.ensures in
    let sum = c.add_changed.new.sum in
    let rows : rows_of_round p c.now-start.result c.now-end.result ≡ rows_of_round p start parted.tick =
    ap (λ n. rows_of_round p n c.now-end.result) c.now-start.ensures ∙ ap (rows_of_round p start) c.now-end.ensures in
    merging_on p start parted c.go_telling-count.new.leaves sum went.belongs went.round went.all
    (subst (λ (n : ℕ). IsSumUpTo p n sum) c.now-end.ensures c.in_ok-add_changed.ensures.sum)
    (λ q r at. c.in_ok-add_changed.ensures.ends q r (ap (λ (rs : List Row). slice_get rs q) rows ∙ at))

pub go_telling-count-requires-clause-belongs : goal.go_telling-count-requires-clause-belongs
go_telling-count-requires-clause-belongs c = c.requires.merging.belongs

pub go_telling-count-requires-clause-early : goal.go_telling-count-requires-clause-early
go_telling-count-requires-clause-early c = c.requires.early

pub go_telling-count-requires-clause-room : goal.go_telling-count-requires-clause-room
go_telling-count-requires-clause-room c = c.requires.room

pub go_telling-count-requires-clause-many : goal.go_telling-count-requires-clause-many
go_telling-count-requires-clause-many c = c.requires.merging.many

pub first_of-seen-requires : goal.first_of-seen-requires
first_of-seen-requires c = c.go_telling-count.ensures.within

pub add_changed-requires-clause-sum : goal.add_changed-requires-clause-sum
add_changed-requires-clause-sum c = subst (λ (n : ℕ). IsSumUpTo c.args.plan.now n c.args.sum.now) (sym c.now-start.ensures) c.requires.merging.sum

pub add_changed-requires-clause-round : goal.add_changed-requires-clause-round
add_changed-requires-clause-round c =
    subst (λ (n : ℕ). IsRoundUpTo c.args.plan.now n c.now-end.result) (sym c.now-start.ensures)
    (subst (λ (n : ℕ). IsRoundUpTo c.args.plan.now c.args.parted.now.tick n) (sym c.now-end.ensures) c.go_telling-count.ensures.round)

pub returns-clause-later : goal.returns-clause-later
returns-clause-later c = c.go_telling-count.ensures.round.above

pub returns-in_err-add_changed-clause-merging : goal.returns-in_err-add_changed-clause-merging
returns-in_err-add_changed-clause-merging c = IfOk-from_err _ _ c.from_residual.ensures.0

pub returns-in_err-add_changed-clause-later : goal.returns-in_err-add_changed-clause-later
returns-in_err-add_changed-clause-later c = IfOk-from_err _ _ c.from_residual.ensures.0
