use Rattle.std.proofs.Common.{◌≡◌, ◌+◌, ◌-◌, ◌*◌, ◌≤◌, ap, ◌∙◌, arith}
use Rattle.trace_verdict.specs.Clock.{ClockState}
use Rattle.trace_verdict.specs.Supply.{bound_at, ended_by}
use Rattle.trace_verdict.proofs.SupplyLemmas.{seek_is, counted_from}
use Rattle.trace_verdict.proofs.tally.see.Goals as goal

pub response_of-response-requires-clause-first : goal.response_of-response-requires-clause-first
response_of-response-requires-clause-first c =
    seek_is c.args.periods.now c.args.clock.now.base c.args.clock.now.span c.args.row.now.start c.seek-first.result c.requires.base c.requires.span
    c.seek-first.ensures.number

pub response_of-response-requires-clause-last : goal.response_of-response-requires-clause-last
response_of-response-requires-clause-last c =
    let base = ap (λ (k : ClockState). k.base) c.seek-first.ensures.stands ∙ c.requires.base in
    let span = ap (λ (k : ClockState). k.span) c.seek-first.ensures.stands ∙ c.requires.span in
    seek_is c.args.periods.now c.seek-first.new.self.base c.seek-first.new.self.span (c.args.row.now.end - 1) c.seek-last.result base span
    c.seek-last.ensures.number

pub response_of-response-requires-clause-within : goal.response_of-response-requires-clause-within
response_of-response-requires-clause-within c =
    let p = c.args.periods.now in
    let base = ap (λ (k : ClockState). k.base) c.seek-first.ensures.stands ∙ c.requires.base in
    let span = ap (λ (k : ClockState). k.span) c.seek-first.ensures.stands ∙ c.requires.span in
    let last : c.seek-last.result ≡ ended_by p (c.args.row.now.end - 1)
    = seek_is p c.seek-first.new.self.base c.seek-first.new.self.span (c.args.row.now.end - 1) c.seek-last.result base span c.seek-last.ensures.number in
    let begin : c.begin.result ≡ bound_at p c.seek-last.result
    = c.begin.ensures ∙ (ap (λ (k : ClockState). k.base + k.number * k.span) c.seek-last.ensures.stands
    ∙ (ap (λ b. b + c.seek-last.result * c.seek-first.new.self.span) base ∙ ap (λ s. p.base + c.seek-last.result * s) span)) in
    let most : bound_at p c.seek-last.result ≤ c.args.row.now.end - 1
    = counted_from p (c.args.row.now.end - 1) c.seek-last.result c.requires.some (omega (arith, c.requires.row.begun, c.requires.row.long))
    (omega (arith, last)) in
    omega (arith, begin, most)

pub returns-clause-first : goal.returns-clause-first
returns-clause-first c =
    seek_is c.args.periods.now c.args.clock.now.base c.args.clock.now.span c.args.row.now.start c.seek-first.result c.requires.base c.requires.span
    c.seek-first.ensures.number

pub returns-clause-last : goal.returns-clause-last
returns-clause-last c =
    let base = ap (λ (k : ClockState). k.base) c.seek-first.ensures.stands ∙ c.requires.base in
    let span = ap (λ (k : ClockState). k.span) c.seek-first.ensures.stands ∙ c.requires.span in
    seek_is c.args.periods.now c.seek-first.new.self.base c.seek-first.new.self.span (c.args.row.now.end - 1) c.seek-last.result base span
    c.seek-last.ensures.number

pub response_of-response-requires-clause-ended : goal.response_of-response-requires-clause-ended
response_of-response-requires-clause-ended c = c.requires.ended
