use Rattle.std.proofs.Common.{ℕ, ◌*◌, ◌-◌, ◌+◌, ◌<◌, ◌≤◌, arith, ◌∙◌}
use Rattle.std.proofs.Math.Nat.{mul-le-mul_left}
use Rattle.run_tree.specs.Plans.{stop_of}
use Rattle.event_core.proofs.PlanRounds.{stop_fits}
use Rattle.std.proofs.lemmas.Result.{IfOk-from_err}
use Rattle.merged_rounds.proofs.searches.merge_until_seen.Goals as goal

nearer : (stop old new : ℕ) → old < stop → old < new → stop - new < stop - old
nearer stop old new a b = omega arith

pub turns-init : goal.turns-init
turns-init c = record { merging = c.requires.merging; seen = c.requires.seen }

pub overflow_add-at : goal.overflow_add-at
overflow_add-at c =
    let fits = stop_fits c.args.plan.now c.rounds_end-stop.ensures.lawful in
    let stop = c.rounds_end-stop.ensures.value in
    let on = c.turns-test.true in
    let within = c.requires.within in
    omega (arith, fits, stop, on, within)

pub turns-smaller : goal.turns-smaller
turns-smaller c =
    let p = c.args.plan.now in
    let some = c.rounds_end-stop.ensures.lawful.tree.tree.scaled in
    let square : p.tree.scale * 1 ≤ p.tree.scale * p.tree.scale = mul-le-mul_left p.tree.scale some in
    let turn = c.requires.turn in
    let stop = c.rounds_end-stop.ensures.value in
    let on = c.turns-test.true in
    let positive : 0 < c.args.turn = omega (arith, some, square, turn) in
    nearer (stop_of p) c.turns.at (c.turns.at + c.args.turn) (omega (arith, stop, on)) (omega (arith, positive))

pub merge_up_to-requires-clause-merging : goal.merge_up_to-requires-clause-merging
merge_up_to-requires-clause-merging c = c.turns.invariant.merging

pub merge_up_to-requires-clause-kept : goal.merge_up_to-requires-clause-kept
merge_up_to-requires-clause-kept c = c.turns.auto.kept ∙ c.requires.kept

pub merge_up_to-requires-clause-told : goal.merge_up_to-requires-clause-told
merge_up_to-requires-clause-told c = c.turns.auto.told ∙ c.requires.told

pub returns-in_err-merge_up_to-clause-merging : goal.returns-in_err-merge_up_to-clause-merging
returns-in_err-merge_up_to-clause-merging c = IfOk-from_err _ _ c.from_residual.ensures.0

pub returns-in_err-merge_up_to-clause-again : goal.returns-in_err-merge_up_to-clause-again
returns-in_err-merge_up_to-clause-again c = IfOk-from_err _ _ c.from_residual.ensures.0

pub again_after-requires-clause-is : goal.again_after-requires-clause-is
again_after-requires-clause-is c = c.turns.invariant.seen

pub again_after-requires-clause-belongs : goal.again_after-requires-clause-belongs
again_after-requires-clause-belongs c = c.in_ok-merge_up_to.ensures.merging.belongs

pub returns-in_err-again-clause-merging : goal.returns-in_err-again-clause-merging
returns-in_err-again-clause-merging c = IfOk-from_err _ _ c.from_residual-in_err-again.ensures.0

pub returns-in_err-again-clause-again : goal.returns-in_err-again-clause-again
returns-in_err-again-clause-again c = IfOk-from_err _ _ c.from_residual-in_err-again.ensures.0

pub returns-then-is_some-clause-merging : goal.returns-then-is_some-clause-merging
returns-then-is_some-clause-merging c = c.in_ok-merge_up_to.ensures.merging

pub returns-then-is_some-clause-again : goal.returns-then-is_some-clause-again
returns-then-is_some-clause-again c = c.in_ok-again.ensures

pub see_later-requires-clause-belongs : goal.see_later-requires-clause-belongs
see_later-requires-clause-belongs c = c.in_ok-merge_up_to.ensures.merging.belongs

pub see_later-requires-clause-seen : goal.see_later-requires-clause-seen
see_later-requires-clause-seen c = c.turns.invariant.seen

pub returns-in_err-see_later-clause-merging : goal.returns-in_err-see_later-clause-merging
returns-in_err-see_later-clause-merging c = IfOk-from_err _ _ c.from_residual-in_err-see_later.ensures.0

pub returns-in_err-see_later-clause-again : goal.returns-in_err-see_later-clause-again
returns-in_err-see_later-clause-again c = IfOk-from_err _ _ c.from_residual-in_err-see_later.ensures.0

pub turns-preserved : goal.turns-preserved
turns-preserved c = record { merging = c.in_ok-merge_up_to.ensures.merging; seen = c.in_ok-see_later.ensures }

pub returns-clause-merging : goal.returns-clause-merging
returns-clause-merging c = c.turns.invariant.merging
