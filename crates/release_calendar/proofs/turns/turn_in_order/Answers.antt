use Rattle.std.proofs.Common.{arith, ◌≡◌, get_or, ap, subst, sym, take, ◌+◌, ◌∙◌, ◌<◌, List, ℕ, length}
use Rattle.std.proofs.Math.ListN.{set}
use Rattle.knockout.specs.Knockouts.{IsFirst}
use Rattle.run_tree.specs.Windows.{window_end}
use Rattle.run_tree.specs.Tree.{numbers}
use Rattle.run_tree.specs.Plans.{boundary_of}
use Rattle.release_calendar.specs.Calendars.{EndsFit, IsLeastEnd, ending}
use Rattle.release_calendar.proofs.OrderLemmas.{ending_less, ends_later, ends_member, fit_set, least_first, elsewhere_first}
use Rattle.release_calendar.proofs.BegunLemmas.{ending_most, ending_some}
use Rattle.release_calendar.proofs.ListedTurns.{turning_more}
use Rattle.release_calendar.proofs.turns.turn_in_order.Goals as goal

pub loop-first-smaller : goal.loop-first-smaller
loop-first-smaller c =
    let x = c.loop-first.first.index in
    let f = c.loop-first.invariant.2 in
    let here = f.here in
    let within = f.within in
    let long = c.requires.ends in
    let kept = c.loop-first.auto.ends in
    let at = c.loop-first-test.true in
    let less = ending_less c.args.at c.loop-first.ends x (window_end (boundary_of c.args.plan.now x) c.args.at) within (omega (arith, here, at))
    (ends_later c.args.plan.now c.requires.plan c.loop-first.ends c.args.at x c.loop-first.invariant.1.turning.packs c.requires.at (omega (
      arith,
      within,
      long,
      kept,
    )) (omega (arith, here, at))) in
    subst (λ (xs : List ℕ). ending c.args.at xs < ending c.args.at c.loop-first.ends) (sym c.turn_due-end.ensures.ends) less

pub loop-first-init : goal.loop-first-init
loop-first-init c =
    let most = ending_most c.args.at c.args.ends.now in
    let ends = c.requires.ends in
    let begun = c.requires.begun in (
      c.requires.order,
      c.requires.turning,
      subst (λ (xs : List ℕ). IsFirst xs c.first-first.result) c.requires.order c.first-first.ensures,
      λ fit. fit,
      omega (arith, most, ends, begun),
    )

pub turn_due-end-requires-clause-member : goal.turn_due-end-requires-clause-member
turn_due-end-requires-clause-member c =
    let x = c.loop-first.first.index in
    let f = c.loop-first.invariant.2 in
    let here = f.here in
    let within = f.within in
    let long = c.requires.ends in
    let kept = c.loop-first.auto.ends in
    let at = c.loop-first-test.true in
    ends_member c.args.plan.now c.requires.plan c.loop-first.ends c.args.at x c.loop-first.invariant.1.turning.packs c.requires.at (omega (
      arith,
      within,
      long,
      kept,
    )) (omega (arith, here, at))

pub turn_due-end-requires-clause-boundary : goal.turn_due-end-requires-clause-boundary
turn_due-end-requires-clause-boundary c =
    let x = c.loop-first.first.index in
    let f = c.loop-first.invariant.2 in
    let here = f.here in
    let within = f.within in
    let long = c.requires.ends in
    let kept = c.loop-first.auto.ends in
    let at = c.loop-first-test.true in
    let end : get_or c.loop-first.ends x 0 ≡ c.args.at = omega (arith, here, at) in
    let is = ends_member c.args.plan.now c.requires.plan c.loop-first.ends c.args.at x c.loop-first.invariant.1.turning.packs c.requires.at
    (omega (arith, within, long, kept)) (omega (arith, here, at)) in
    (c.loop-first.invariant.1.turning.ready x is).due end

pub turn_due-end-requires-clause-known : goal.turn_due-end-requires-clause-known
turn_due-end-requires-clause-known c = λ x i later. ((c.loop-first.invariant.1.turning.ready x i).other later).end

pub list_one-requires : goal.list_one-requires
list_one-requires c =
    let f = c.loop-first.invariant.2 in
    let here = f.here in
    let at = c.loop-first-test.true in
    let some = ending_some c.args.at c.loop-first.ends c.loop-first.first.index f.within (omega (arith, here, at)) in
    let room = c.loop-first.invariant.4 in
    omega (arith, some, room)

pub loop-first-preserved : goal.loop-first-preserved
loop-first-preserved c =
    let x = c.loop-first.first.index in
    let f = c.loop-first.invariant.2 in
    let here = f.here in
    let within = f.within in
    let long = c.requires.ends in
    let kept = c.loop-first.auto.ends in
    let long_b = c.requires.begins in
    let kept_b = c.loop-first.auto.begins in
    let at = c.loop-first-test.true in
    let end = window_end (boundary_of c.args.plan.now x) c.args.at in
    let order = c.set.ensures ∙ ap (λ (xs : List ℕ). set xs x c.turn_due-end.result) c.loop-first.invariant.0 ∙ ap (set c.loop-first.ends x)
    c.turn_due-end.ensures.end ∙ sym c.turn_due-end.ensures.ends in (
      order,
      turning_more c.args.plan.now c.requires.plan c.loop-first.begins c.loop-first.ends c.turn_due-end.new.begins c.turn_due-end.new.ends
          (numbers (take c.loop-first.turned c.loop-first.begun)) (numbers (take (c.loop-first.turned + 1) c.list_one.new.begun)) c.args.at x c.requires.at
          (omega (arith, long_b, kept_b)) (omega (arith, long, kept)) (omega (arith, within, long, kept)) (omega (arith, here, at))
          c.turn_due-end.ensures.begins c.turn_due-end.ensures.ends c.list_one.ensures c.loop-first.invariant.1,
      subst (λ (xs : List ℕ). IsFirst xs c.first-first-in-loop-first.result) order c.first-first-in-loop-first.ensures,
      λ fit. subst (λ (xs : List ℕ). EndsFit xs) (sym c.turn_due-end.ensures.ends) (fit_set c.loop-first.ends x end (c.loop-first.invariant.3 fit)
          c.turn_due-end.ensures.fits within),
      (let less = ending_less c.args.at c.loop-first.ends x end within (omega (arith, here, at))
          (ends_later c.args.plan.now c.requires.plan c.loop-first.ends c.args.at x c.loop-first.invariant.1.turning.packs c.requires.at
          (omega (arith, within, long, kept)) (omega (arith, here, at))) in
          let is = ap (λ (xs : List ℕ). ending c.args.at xs) c.turn_due-end.ensures.ends in
          let room = c.loop-first.invariant.4 in
          let same = c.list_one.auto.begun in
          omega (arith, less, is, room, same)),
    )

pub turn_due-end-requires-clause-plan : goal.turn_due-end-requires-clause-plan
turn_due-end-requires-clause-plan c = c.requires.plan

pub turn_due-end-requires-clause-at : goal.turn_due-end-requires-clause-at
turn_due-end-requires-clause-at c = c.requires.at

pub turn_due-end-requires-clause-begins : goal.turn_due-end-requires-clause-begins
turn_due-end-requires-clause-begins c = c.loop-first.auto.begins ∙ c.requires.begins

pub turn_due-end-requires-clause-ends : goal.turn_due-end-requires-clause-ends
turn_due-end-requires-clause-ends c = c.loop-first.auto.ends ∙ c.requires.ends

pub returns-clause-order : goal.returns-clause-order
returns-clause-order c = c.loop-first.invariant.0

pub returns-clause-turning : goal.returns-clause-turning
returns-clause-turning c = c.loop-first.invariant.1

pub set-requires-clause-index : goal.set-requires-clause-index
set-requires-clause-index c = let within = c.loop-first.invariant.2.within in let order = ap (λ (xs : List ℕ). length xs) c.loop-first.invariant.0 in
    omega (arith, within, order)

pub set-requires-clause-end : goal.set-requires-clause-end
set-requires-clause-end c = let fits = c.turn_due-end.ensures.fits in let end = c.turn_due-end.ensures.end in omega (arith, fits, end)

pub returns-clause-first : goal.returns-clause-first
returns-clause-first c = subst (λ (d : ℕ). IsLeastEnd c.loop-first.ends (length c.loop-first.ends) d) (sym c.min.ensures) (least_first c.loop-first.ends
    c.loop-first.first c.loop-first.invariant.2)

pub returns-clause-later : goal.returns-clause-later
returns-clause-later c =
    elsewhere_first c.args.plan.now c.requires.plan c.loop-first.begins c.loop-first.ends c.loop-first.invariant.1.due c.args.at c.loop-first.first
    c.requires.at (c.loop-first.auto.ends ∙ c.requires.ends) c.loop-first.invariant.1.turning c.loop-first.invariant.2 c.loop-first-test.false

pub returns-clause-fit : goal.returns-clause-fit
returns-clause-fit c = c.loop-first.invariant.3

pub returns-clause-count : goal.returns-clause-count
returns-clause-count c = let room = c.loop-first.invariant.4 in omega (arith, room)

pub turn_due-end-requires-clause-steps : goal.turn_due-end-requires-clause-steps
turn_due-end-requires-clause-steps c = c.requires.steps
