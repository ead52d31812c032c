use Rattle.std.proofs.Common.{◌<◌, length, sym, subst, arith}
use Rattle.trace_writer.proofs.FinishLemmas.{begins_within, starts_next}
use Rattle.trace_writer.proofs.finishes.begin_each.Goals as goal

pub loop-k-init : goal.loop-k-init
loop-k-init c = λ i below. absurd (omega (arith, below))

pub period_start-requires-clause-scale : goal.period_start-requires-clause-scale
period_start-requires-clause-scale c = c.requires.scale

pub period_start-requires-clause-fits : goal.period_start-requires-clause-fits
period_start-requires-clause-fits c = begins_within c.args.task.now c.loop-k.k (length c.args.ends.now) _ c.loop-k.auto.k-end c.requires.fits

pub bounds-ends-k : goal.bounds-ends-k
bounds-ends-k c = subst (λ n. c.loop-k.k < n) (sym c.loop-k.auto.ends) c.loop-k-test.true

pub loop-k-preserved : goal.loop-k-preserved
loop-k-preserved c =
    starts_next c.args.scale c.args.task.now c.loop-k.k c.period_start.result c.loop-k.ends (subst (λ n. c.loop-k.k < n) (sym c.loop-k.auto.ends)
    c.loop-k-test.true) c.period_start.ensures c.loop-k.invariant

pub returns : goal.returns
returns c = λ j i inside. c.loop-k.invariant i (let past = c.loop-k-test.false in let all = c.loop-k.auto.ends in omega (arith, inside, past, all))
