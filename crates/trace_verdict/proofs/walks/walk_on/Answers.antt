use Rattle.std.proofs.Common.{◌≡◌, ◌∷◌, ◌<◌, ◌∙◌, [], Some, length, map, take, refl, sym, ap, subst, arith}
use Rattle.std.specs.List.{AllByRecursion}
use Rattle.sched_base.specs.declared.rows.Row.{Row}
use Rattle.trace_verdict.specs.Faults.{row_at}
use Rattle.trace_verdict.specs.Findings.{row_response, IsRowIn}
use Rattle.trace_verdict.specs.Orders.{task_key}
use Rattle.trace_verdict.specs.Supplied.{IsPlaceOf, entry_for, entries_at, GoesPast}
use Rattle.trace_verdict.proofs.SuppliedLemmas.{empty_is, Leaves, leaves_all, leaves_less, holds_end, went_all}
use Rattle.trace_verdict.proofs.TallyLemmas.{Tells, tells_first, tells_later, tells_few, tells_all}
use Rattle.trace_verdict.proofs.walks.walk_on.Goals as goal

pub loop-left-init : goal.loop-left-init
loop-left-init c =
    let p = c.args.periods.now in
    let rows = c.args.rows.now in
    let j = c.args.task in
    let first = c.args.first in
    let places = c.args.places.now in
    let within : first < length rows = omega (arith, c.if-first-len.false, c.len.ensures) in
    let row : c.get-row.result ≡ row_at rows first = c.get-row.ensures in
    let key : task_key (row_at rows first) ≡ Some j = ap task_key (sym row) ∙ c.step.ensures.key c.if-not-step.false in
    let own : AllByRecursion (IsPlaceOf rows j) (first ∷ []) = (record { within = within; key = key }, tt) in
    let past : GoesPast p (entries_at rows j (first ∷ [])) c.new-walk.result c.step.new.self
    = subst (λ (r : Row). GoesPast p (entry_for j r first ∷ []) c.new-walk.result c.step.new.self) row (c.step.ensures.past c.if-not-step.false first) in
    let all = leaves_all p rows j (first ∷ places) c.new-walk.result (c.new-walk.ensures.stands c.requires.begun) c.new-walk.ensures.tick
    c.new-walk.ensures.done in (
      leaves_less p rows j (first ∷ places) (first ∷ places) (first ∷ []) places c.new-walk.result c.step.new.self refl all own past,
      tells_first p (row_at rows first) (map (row_at rows) places) c.new-tally.result c.new-tally.ensures.pace (c.new-tally.ensures.before ∙ row)
          c.new-tally.ensures.preemptions c.new-tally.ensures.migrations (c.new-tally.ensures.response ∙ ap (row_response p) row),
    )

pub steps-requires-in-loop-left-clause-rows : goal.steps-requires-in-loop-left-clause-rows
steps-requires-in-loop-left-clause-rows c =
    subst (AllByRecursion (IsRowIn c.args.periods.now)) (sym (c.steps.ensures.fetched c.if-not-steps.false)) (c.steps.ensures.rows c.if-not-steps.false)

pub steps-requires-in-loop-left-clause-few_preempted : goal.steps-requires-in-loop-left-clause-few_preempted
steps-requires-in-loop-left-clause-few_preempted c =
    let rows = c.args.rows.now in
    let now = c.next_part.result.0.now in
    let few = tells_few c.args.periods.now rows (take (length now) c.steps.new.part) (row_at rows c.args.first) c.args.places.now c.loop-left.left.now now
    c.next_part.result.1.now c.loop-left.tally
    c.next_part.ensures.parts (c.steps.ensures.fetched c.if-not-steps.false) c.loop-left.invariant.1 in
    omega (arith, few.0)

pub steps-requires-in-loop-left-clause-few_moved : goal.steps-requires-in-loop-left-clause-few_moved
steps-requires-in-loop-left-clause-few_moved c =
    let rows = c.args.rows.now in
    let now = c.next_part.result.0.now in
    let few = tells_few c.args.periods.now rows (take (length now) c.steps.new.part) (row_at rows c.args.first) c.args.places.now c.loop-left.left.now now
    c.next_part.result.1.now c.loop-left.tally
    c.next_part.ensures.parts (c.steps.ensures.fetched c.if-not-steps.false) c.loop-left.invariant.1 in
    omega (arith, few.1)

pub loop-left-preserved : goal.loop-left-preserved
loop-left-preserved c =
    let p = c.args.periods.now in
    let rows = c.args.rows.now in
    let j = c.args.task in
    let all = c.args.first ∷ c.args.places.now in
    let now = c.next_part.result.0.now in
    let later = c.next_part.result.1.now in (
      leaves_less p rows j all c.loop-left.left.now now later c.loop-left.walk c.steps.new.self c.next_part.ensures.parts c.loop-left.invariant.0
          (c.steps.ensures.own c.if-not-steps.false)
          (c.steps.ensures.past c.if-not-steps.false),
      tells_later p rows (take (length now) c.steps.new.part) (map (row_at rows) all) c.loop-left.left.now now later c.loop-left.tally
          c.steps-in-loop-left.new.self c.next_part.ensures.parts
          (c.steps.ensures.fetched c.if-not-steps.false) c.loop-left.invariant.1 c.steps-in-loop-left.ensures,
    )

pub returns-then-ends : goal.returns-then-ends
returns-then-ends c =
    let p = c.args.periods.now in
    let rows = c.args.rows.now in
    let j = c.args.task in
    let all = c.args.first ∷ c.args.places.now in
    let none : c.loop-left.left.now ≡ [] = empty_is c.loop-left.left.now (sym c.is_empty.ensures ∙ c.loop-left-test.false) in
    let leaves : Leaves p rows j all [] c.loop-left.walk = subst (λ left. Leaves p rows j all left c.loop-left.walk) none c.loop-left.invariant.0 in
    let tells : Tells p (map (row_at rows) all) [] c.loop-left.tally = subst (λ left. Tells p (map (row_at rows) all) (map (row_at rows) left)
    c.loop-left.tally) none c.loop-left.invariant.1 in
    went_all p rows j all c.loop-left.walk c.loop-left.tally.found leaves (holds_end p c.loop-left.walk c.ends.result leaves.stands c.ends.ensures
    c.if-ends.true) (tells_all p (map (row_at rows) all) c.loop-left.tally tells)

pub new-walk-requires : goal.new-walk-requires
new-walk-requires c = record { lawful = c.requires.lawful }

pub step-requires-clause-lawful : goal.step-requires-clause-lawful
step-requires-clause-lawful c = c.requires.lawful

pub step-requires-clause-stands : goal.step-requires-clause-stands
step-requires-clause-stands c = (c.new-walk.ensures.stands c.requires.begun)

pub new-tally-requires-clause-some : goal.new-tally-requires-clause-some
new-tally-requires-clause-some c = c.requires.lawful.some_period

pub new-tally-requires-clause-row : goal.new-tally-requires-clause-row
new-tally-requires-clause-row c = c.step.ensures.row c.if-not-step.false

pub steps-requires-clause-lawful : goal.steps-requires-clause-lawful
steps-requires-clause-lawful c = c.requires.lawful

pub steps-requires-clause-stands : goal.steps-requires-clause-stands
steps-requires-clause-stands c = c.loop-left.invariant.0.stands

pub steps-requires-in-loop-left-clause-pace : goal.steps-requires-in-loop-left-clause-pace
steps-requires-in-loop-left-clause-pace c = c.loop-left.invariant.1.pace

pub loop-left-smaller : goal.loop-left-smaller
loop-left-smaller c = c.next_part.ensures.less

pub ends-requires-clause-lawful : goal.ends-requires-clause-lawful
ends-requires-clause-lawful c = c.requires.lawful

pub ends-requires-clause-stands : goal.ends-requires-clause-stands
ends-requires-clause-stands c = c.loop-left.invariant.0.stands
