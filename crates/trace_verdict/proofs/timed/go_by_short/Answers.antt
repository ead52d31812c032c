use Rattle.std.proofs.Common.{◌<◌, length, get_or, sym, arith}
use Rattle.std.proofs.lemmas.List.{get_or-map}
use Rattle.trace_verdict.proofs.ShortWalkLemmas.{short_gone_at, short_going_on}
use Rattle.trace_verdict.specs.ShortWalks.{wide_of}
use Rattle.trace_verdict.proofs.timed.go_by_short.Goals as goal

pub step-requires-clause-gone : goal.step-requires-clause-gone
step-requires-clause-gone c = short_gone_at c.args._rows.now c.args.walks.now c.in-Some.task _ (omega arith) c.requires.each

pub returns-clause-gone : goal.returns-clause-gone
returns-clause-gone c = λ t s l g.
    let walks = c.args.walks.now in
    let j = c.in-Some.task in
    let within : j < length walks = omega arith in
    short_going_on s l c.args._rows.now j walks (get_or walks j _) c.step.new.self within (sym (get_or-map wide_of walks j _ _ within)) g
    (c.step.ensures.gone t) c.step.ensures.periods
