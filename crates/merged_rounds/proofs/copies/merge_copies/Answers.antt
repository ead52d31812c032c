use Rattle.std.proofs.Common.{◌∙◌, ◌-◌, ℕ, ap, refl, subst}
use Rattle.merged_rows.specs.Columns.{lanes_up_to}
use Rattle.merged_rounds.specs.declared.copies.Window.{Window}
use Rattle.merged_rounds.specs.declared.sums.RoundSum.{RoundSum}
use Rattle.merged_rounds.specs.Copies.{AreCopied}
use Rattle.merged_rounds.proofs.LastLemmas.{copies_sum, many_begun}
use Rattle.std.proofs.lemmas.Result.{IfOk-from_err}
use Rattle.merged_rounds.proofs.copies.merge_copies.Goals as goal

pub copy_lanes-requires-clause-many : goal.copy_lanes-requires-clause-many
copy_lanes-requires-clause-many c =
    many_begun c.args.plan.now c.know_lawful.ensures.lawful c.args.source.now c.requires.belongs c.args.ticks c.requires.last c.requires.alike
    c.args.sum.now c.requires.sum c.know_begun.ensures.lanes

pub returns-clause-sum : goal.returns-clause-sum
returns-clause-sum c =
    let p = c.args.plan.now in
    let source = c.args.source.now in
    let w : Window = record { from = c.now-now.result - c.args.ticks; until = c.rounds_end-stop.result - c.args.ticks; ticks = c.args.ticks } in
    let next : RoundSum = record { rows = c.go_to.new.self; rounds = c.in_ok-rounds.rounds } in
    let count = c.in_ok-rounds.ensures.count in
    let lanes = c.copy_lanes.new.rows.begun in
    copies_sum p c.know_lawful.ensures.lawful source c.requires.belongs c.args.ticks c.requires.last c.requires.alike c.args.sum.now c.requires.sum
    c.know_begun.ensures.lanes
    w (ap (λ n. n - c.args.ticks) c.now-now.ensures) (ap (λ n. n - c.args.ticks) c.rounds_end-stop.ensures.value) refl lanes
    (subst (λ (n : ℕ). AreCopied p n w c.args.sum.now.rows.begun lanes p.tree.processors) c.now-now.ensures c.in_ok-copy_lanes.ensures.copied)
    next count.0 count.1 (c.go_to.ensures.end ∙ c.rounds_end-stop.ensures.value)
    (c.know_begun-2.ensures.lanes ∙ ap (lanes_up_to 0 c.go_to.new.self.end) c.go_to.ensures.begun)

pub returns-in_err-rounds-clause-sum : goal.returns-in_err-rounds-clause-sum
returns-in_err-rounds-clause-sum c = IfOk-from_err _ _ c.from_residual.ensures.0

pub returns-in_err-copy_lanes-clause-sum : goal.returns-in_err-copy_lanes-clause-sum
returns-in_err-copy_lanes-clause-sum c = IfOk-from_err _ _ c.from_residual-in_err-copy_lanes.ensures.0
