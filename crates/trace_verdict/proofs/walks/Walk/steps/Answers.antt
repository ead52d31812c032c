use Rattle.std.proofs.lemmas.Bool.{false≢true}
use Rattle.std.proofs.Common.{◌<◌, ◌∷◌, [], get_or, slice_index, map, subst, sym, ◌∙◌, ap, arith, refl}
use Rattle.std.specs.List.{AllByRecursion}
use Rattle.std.proofs.lemmas.List.{take_all}
use Rattle.sched_base.specs.declared.rows.Row.{Row}
use Rattle.trace_verdict.specs.Orders.{task_key}
use Rattle.trace_verdict.specs.Findings.{IsRowIn}
use Rattle.trace_verdict.specs.Faults.{row_at}
use Rattle.trace_verdict.specs.Supplied.{IsPlaceOf, entry_for, entries_at, GoesPast}
use Rattle.trace_verdict.proofs.SuppliedLemmas.{past_none, own_more, past_more, rows_more, fetched}
use Rattle.trace_verdict.proofs.walks.Walk.steps.Goals as goal

pub loop-i-init : goal.loop-i-init
loop-i-init c = (tt, past_none c.args.periods.now c.args.self.now c.requires.stands, tt)

pub loop-i-preserved : goal.loop-i-preserved
loop-i-preserved c =
    let rows = c.args.rows.now in
    let places = c.args.places.now in
    let i = c.loop-i.i in
    let place = get_or places i 0 in
    let row = fetched rows c.fetch.new.part places i _ c.fetch.ensures.rows c.loop-i-test.true in
    let past = subst (λ (r : Row). GoesPast c.args.periods.now (entry_for c.args.task r place ∷ []) c.loop-i.self c.step.new.self) row
    (c.step.ensures.past c.if-not-step.false place) in (
      own_more rows c.args.task places i 0 c.loop-i-test.true c.loop-i.invariant.0 (record {
        within = subst (λ n. place < n) c.len.ensures (c.are_within.ensures c.if-not-are_within.false i c.loop-i-test.true);
        key = ap task_key (sym row) ∙ c.step.ensures.key c.if-not-step.false;
      }),
      past_more c.args.periods.now rows c.args.task places i 0 c.args.self.now c.loop-i.self c.step.new.self c.loop-i-test.true c.loop-i.invariant.1 past,
      rows_more c.args.periods.now rows places i 0 c.loop-i-test.true c.loop-i.invariant.2 (subst (IsRowIn c.args.periods.now) row
          (c.step.ensures.row c.if-not-step.false)),
    )

pub returns-clause-own : goal.returns-clause-own
returns-clause-own c = λ t. subst (AllByRecursion (IsPlaceOf c.args.rows.now c.args.task)) (take_all c.loop-i.i c.args.places.now (omega arith))
    c.loop-i.invariant.0

pub returns-clause-past : goal.returns-clause-past
returns-clause-past c = λ t.
    subst (λ places. GoesPast c.args.periods.now (entries_at c.args.rows.now c.args.task places) c.args.self.now c.loop-i.self)
    (take_all c.loop-i.i c.args.places.now (omega arith)) c.loop-i.invariant.1

pub returns-clause-rows : goal.returns-clause-rows
returns-clause-rows c = λ t.
    subst (λ places. AllByRecursion (IsRowIn c.args.periods.now) (map (row_at c.args.rows.now) places)) (take_all c.loop-i.i c.args.places.now
    (omega arith)) c.loop-i.invariant.2

pub returns-then-not-are_within-clause-own : goal.returns-then-not-are_within-clause-own
returns-then-not-are_within-clause-own c = λ t. absurd (false≢true t)

pub returns-then-not-are_within-clause-past : goal.returns-then-not-are_within-clause-past
returns-then-not-are_within-clause-past c = λ t. absurd (false≢true t)

pub returns-then-not-are_within-clause-fetched : goal.returns-then-not-are_within-clause-fetched
returns-then-not-are_within-clause-fetched c = λ t. absurd (false≢true t)

pub returns-then-not-are_within-clause-rows : goal.returns-then-not-are_within-clause-rows
returns-then-not-are_within-clause-rows c = λ t. absurd (false≢true t)

pub returns-then-not-step-clause-own : goal.returns-then-not-step-clause-own
returns-then-not-step-clause-own c = λ t. absurd (false≢true t)

pub returns-then-not-step-clause-past : goal.returns-then-not-step-clause-past
returns-then-not-step-clause-past c = λ t. absurd (false≢true t)

pub returns-then-not-step-clause-fetched : goal.returns-then-not-step-clause-fetched
returns-then-not-step-clause-fetched c = λ t. absurd (false≢true t)

pub returns-then-not-step-clause-rows : goal.returns-then-not-step-clause-rows
returns-then-not-step-clause-rows c = λ t. absurd (false≢true t)

pub fetch-requires-clause-room : goal.fetch-requires-clause-room
fetch-requires-clause-room c = c.requires.room

pub fetch-requires-clause-within : goal.fetch-requires-clause-within
fetch-requires-clause-within c = λ i h. subst (λ n. slice_index c.args.places.now i < n) c.len.ensures (c.are_within.ensures c.if-not-are_within.false i h)

pub step-requires-clause-lawful : goal.step-requires-clause-lawful
step-requires-clause-lawful c = c.requires.lawful

pub step-requires-clause-stands : goal.step-requires-clause-stands
step-requires-clause-stands c = c.loop-i.invariant.1.stands

pub returns-clause-fetched : goal.returns-clause-fetched
returns-clause-fetched c = λ _. c.fetch.ensures.rows

pub returns-then-not-are_within-clause-room : goal.returns-then-not-are_within-clause-room
returns-then-not-are_within-clause-room c = refl

pub returns-then-not-step-clause-room : goal.returns-then-not-step-clause-room
returns-then-not-step-clause-room c = c.fetch.ensures.room

pub returns-clause-room : goal.returns-clause-room
returns-clause-room c = c.fetch.ensures.room
