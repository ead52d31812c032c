use Rattle.std.proofs.Common.{◌*◌, ◌≤◌, ap, arith, mul-le-mul_left, sym, ◌∙◌}
use Rattle.event_core.specs.Rounds.{rounds_before}
use Rattle.event_core.proofs.PlanRounds.{stop_fits}
use Rattle.event_core.proofs.RoundsInOrder.{no_rounds}
use Rattle.std.proofs.lemmas.Result.{IfOk-from_err}
use Rattle.merged_rounds.proofs.recurrences.search.Goals as goal

pub overflow_add-at : goal.overflow_add-at
overflow_add-at c =
    let fits = stop_fits c.args.plan.now c.rounds_end-most.ensures.lawful in
    let stop = c.rounds_end-most.ensures.value in
    let on = c.turns-test.true in
    let within = c.requires.within in
    omega (arith, fits, stop, on, within)

pub turns-smaller : goal.turns-smaller
turns-smaller c =
    let p = c.args.plan.now in
    let some = c.rounds_end-most.ensures.lawful.tree.tree.scaled in
    let square : p.tree.scale * 1 ≤ p.tree.scale * p.tree.scale = mul-le-mul_left p.tree.scale some in
    let turn = c.requires.turn in
    let stop = c.rounds_end-most.ensures.value in
    let on = c.turns-test.true in
    omega (arith, some, square, turn, stop, on)

pub seen_at-requires-clause-here : goal.seen_at-requires-clause-here
seen_at-requires-clause-here c = sym (ap (rounds_before c.args.plan.now) c.requires.first ∙ no_rounds c.args.plan.now)

pub turns-init : goal.turns-init
turns-init c = record {
  belongs = c.requires.belongs;
  here = sym (ap (rounds_before c.args.plan.now) c.requires.first ∙ no_rounds c.args.plan.now);
  seen = c.in_ok-seen.ensures;
  late = omega arith;
}

pub seen_at-requires-clause-belongs : goal.seen_at-requires-clause-belongs
seen_at-requires-clause-belongs c = c.requires.belongs

pub returns-in_err-seen : goal.returns-in_err-seen
returns-in_err-seen c = IfOk-from_err _ _ c.from_residual.ensures.0

pub returns-in_err-seen-2 : goal.returns-in_err-seen-2
returns-in_err-seen-2 c = IfOk-from_err _ _ c.from_residual-in_err-seen-2.ensures.0
