use Rattle.std.proofs.Common.{◌≡◌, ◌∷◌, ◌∙◌, [], length, map, take, sym, subst, arith}
use Rattle.std.specs.List.{AllByRecursion}
use Rattle.trace_verdict.specs.Faults.{row_at}
use Rattle.trace_verdict.specs.Findings.{IsRowIn, AreInPeriods}
use Rattle.trace_verdict.proofs.SuppliedLemmas.{empty_is}
use Rattle.trace_verdict.proofs.TallyLemmas.{Tells, rows_in, in_front, in_back, tells_first, tells_later, tells_few, tells_all}
use Rattle.trace_verdict.proofs.findings.findings_from.Goals as goal

pub loop-left-init : goal.loop-left-init
loop-left-init c = (
  tells_first c.args.periods.now c.args.first.now (map (row_at c.args.rows.now) c.args.places.now) c.new-tally.result c.new-tally.ensures.pace
      c.new-tally.ensures.before
      c.new-tally.ensures.preemptions c.new-tally.ensures.migrations c.new-tally.ensures.response,
  c.requires.rows,
)

pub fetch-requires-clause-within : goal.fetch-requires-clause-within
fetch-requires-clause-within c =
    let left = subst (AreInPeriods c.args.periods.now c.args.rows.now) c.next_part.ensures.parts c.loop-left.invariant.1 in
    (in_front c.args.periods.now c.args.rows.now c.next_part.result.0.now c.next_part.result.1.now left).within

pub steps-requires-clause-rows : goal.steps-requires-clause-rows
steps-requires-clause-rows c =
    let left = subst (AreInPeriods c.args.periods.now c.args.rows.now) c.next_part.ensures.parts c.loop-left.invariant.1 in
    let inside = in_front c.args.periods.now c.args.rows.now c.next_part.result.0.now c.next_part.result.1.now left in
    subst (AllByRecursion (IsRowIn c.args.periods.now)) (sym c.fetch.ensures.rows) (rows_in c.args.periods.now c.args.rows.now c.next_part.result.0.now inside)

pub steps-requires-clause-few_preempted : goal.steps-requires-clause-few_preempted
steps-requires-clause-few_preempted c =
    let now = c.next_part.result.0.now in
    let few = tells_few c.args.periods.now c.args.rows.now (take (length now) c.fetch.new.part) c.args.first.now c.args.places.now c.loop-left.left.now now
    c.next_part.result.1.now c.loop-left.tally
    c.next_part.ensures.parts c.fetch.ensures.rows c.loop-left.invariant.0 in
    omega (arith, few.0, c.requires.few)

pub steps-requires-clause-few_moved : goal.steps-requires-clause-few_moved
steps-requires-clause-few_moved c =
    let now = c.next_part.result.0.now in
    let few = tells_few c.args.periods.now c.args.rows.now (take (length now) c.fetch.new.part) c.args.first.now c.args.places.now c.loop-left.left.now now
    c.next_part.result.1.now c.loop-left.tally
    c.next_part.ensures.parts c.fetch.ensures.rows c.loop-left.invariant.0 in
    omega (arith, few.1, c.requires.few)

pub loop-left-preserved : goal.loop-left-preserved
loop-left-preserved c =
    let p = c.args.periods.now in
    let rows = c.args.rows.now in
    let now = c.next_part.result.0.now in
    let later = c.next_part.result.1.now in (
      tells_later p rows _ _ c.loop-left.left.now now later c.loop-left.tally c.steps.new.self c.next_part.ensures.parts c.fetch.ensures.rows
          c.loop-left.invariant.0 c.steps.ensures,
      in_back p rows now later (subst (AreInPeriods p rows) c.next_part.ensures.parts c.loop-left.invariant.1),
    )

pub returns : goal.returns
returns c =
    let p = c.args.periods.now in
    let rows = c.args.rows.now in
    let all = c.args.first.now ∷ map (row_at rows) c.args.places.now in
    let none : c.loop-left.left.now ≡ [] = empty_is c.loop-left.left.now (sym c.is_empty.ensures ∙ c.loop-left-test.false) in
    tells_all p all c.loop-left.tally (subst (λ left. Tells p all (map (row_at rows) left) c.loop-left.tally) none c.loop-left.invariant.0)

pub new-tally-requires-clause-some : goal.new-tally-requires-clause-some
new-tally-requires-clause-some c = c.requires.some

pub new-tally-requires-clause-row : goal.new-tally-requires-clause-row
new-tally-requires-clause-row c = c.requires.first

pub steps-requires-clause-pace : goal.steps-requires-clause-pace
steps-requires-clause-pace c = c.loop-left.invariant.0.pace

pub loop-left-smaller : goal.loop-left-smaller
loop-left-smaller c = c.next_part.ensures.less
