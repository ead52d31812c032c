use Rattle.std.proofs.Common.{◌≡◌, ◌&&◌, ap, sym, ◌∙◌, arith, refl}
use Rattle.std.proofs.lemmas.Bool.{and_from, false≢true}
use Rattle.trace_verdict.specs.Clock.{ClockState}
use Rattle.trace_verdict.specs.Supply.{ended_by, row_holds}
use Rattle.trace_verdict.proofs.SupplyLemmas.{seek_is}
use Rattle.trace_verdict.proofs.walks.Walk.pass.Goals as goal

pub gap_holds-requires-clause-counted : goal.gap_holds-requires-clause-counted
gap_holds-requires-clause-counted c =
    let s = c.requires.stands in
    record {
      begun = s.begun;
      ordered = c.requires.apart;
      fits = omega (arith, c.requires.long, c.requires.ends, c.requires.lawful.fits);
      before = c.number-ended.ensures ∙ s.number;
      after = seek_is c.args.periods.now c.args.self.now.clock.base c.args.self.now.clock.span c.args.start c.seek-before.result s.base s.span
          c.seek-before.ensures.number;
    }

pub row_holds-requires-clause-counted : goal.row_holds-requires-clause-counted
row_holds-requires-clause-counted c =
    let s = c.requires.stands in
    let base = ap (λ (k : ClockState). k.base) c.seek-before.ensures.stands ∙ s.base in
    let span = ap (λ (k : ClockState). k.span) c.seek-before.ensures.stands ∙ s.span in
    record {
      begun = omega (arith, s.begun, c.requires.apart);
      ordered = omega (arith, c.requires.long);
      fits = omega (arith, c.requires.ends, c.requires.lawful.fits);
      before = seek_is c.args.periods.now c.args.self.now.clock.base c.args.self.now.clock.span c.args.start c.seek-before.result s.base s.span
          c.seek-before.ensures.number;
      after = seek_is c.args.periods.now c.seek-before.new.self.base c.seek-before.new.self.span c.args.end c.seek-after.result base span
          c.seek-after.ensures.number;
    }

pub returns-then-not-gap_holds-clause-due : goal.returns-then-not-gap_holds-clause-due
returns-then-not-gap_holds-clause-due c =
    sym (ap (λ b. b && row_holds c.args.periods.now c.args.self.now.done c.args.start c.args.end) (sym c.gap_holds.ensures ∙ c.if-not-gap_holds.true))

pub returns-then-not-row_holds-clause-due : goal.returns-then-not-row_holds-clause-due
returns-then-not-row_holds-clause-due c =
    sym (ap (λ b. b && row_holds c.args.periods.now c.args.self.now.done c.args.start c.args.end) (sym c.gap_holds.ensures ∙ c.if-not-gap_holds.false)
    ∙ (sym c.row_holds.ensures ∙ c.if-not-row_holds.true))

pub returns-clause-due : goal.returns-clause-due
returns-clause-due c = sym (and_from _ _ (sym c.gap_holds.ensures ∙ c.if-not-gap_holds.false) (sym c.row_holds.ensures ∙ c.if-not-row_holds.false))

pub returns-clause-stands : goal.returns-clause-stands
returns-clause-stands c = λ t.
    let p = c.args.periods.now in
    let s = c.requires.stands in
    let base = ap (λ (k : ClockState). k.base) c.seek-before.ensures.stands ∙ s.base in
    let span = ap (λ (k : ClockState). k.span) c.seek-before.ensures.stands ∙ s.span in
    let number : c.seek-after.result ≡ ended_by p c.args.end
    = seek_is p c.seek-before.new.self.base c.seek-before.new.self.span c.args.end c.seek-after.result base span c.seek-after.ensures.number in
    record {
      base = ap (λ (k : ClockState). k.base) c.seek-after.ensures.stands ∙ base;
      span = ap (λ (k : ClockState). k.span) c.seek-after.ensures.stands ∙ span;
      number = ap (λ (k : ClockState). k.number) c.seek-after.ensures.stands ∙ number;
      begun = omega (arith, s.begun, c.requires.apart, c.requires.long);
      ends = c.requires.ends;
      small = omega (arith, s.small, c.requires.apart, c.requires.long);
    }

pub returns-then-not-gap_holds-clause-stands : goal.returns-then-not-gap_holds-clause-stands
returns-then-not-gap_holds-clause-stands c = λ t. absurd (false≢true t)

pub returns-then-not-gap_holds-clause-tick : goal.returns-then-not-gap_holds-clause-tick
returns-then-not-gap_holds-clause-tick c = λ t. absurd (false≢true t)

pub returns-then-not-gap_holds-clause-done : goal.returns-then-not-gap_holds-clause-done
returns-then-not-gap_holds-clause-done c = λ t. absurd (false≢true t)

pub returns-then-not-row_holds-clause-stands : goal.returns-then-not-row_holds-clause-stands
returns-then-not-row_holds-clause-stands c = λ t. absurd (false≢true t)

pub returns-then-not-row_holds-clause-tick : goal.returns-then-not-row_holds-clause-tick
returns-then-not-row_holds-clause-tick c = λ t. absurd (false≢true t)

pub returns-then-not-row_holds-clause-done : goal.returns-then-not-row_holds-clause-done
returns-then-not-row_holds-clause-done c = λ t. absurd (false≢true t)

pub gap_holds-requires-clause-lawful : goal.gap_holds-requires-clause-lawful
gap_holds-requires-clause-lawful c = c.requires.lawful

pub row_holds-requires-clause-lawful : goal.row_holds-requires-clause-lawful
row_holds-requires-clause-lawful c = c.requires.lawful

pub returns-clause-tick : goal.returns-clause-tick
returns-clause-tick c = λ _. refl

pub returns-clause-done : goal.returns-clause-done
returns-clause-done c = λ _. refl
