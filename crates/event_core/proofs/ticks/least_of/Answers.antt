use Rattle.std.proofs.Common.{arith}
use Rattle.event_core.proofs.TickLemmas.{least_next}
use Rattle.event_core.proofs.ticks.least_of.Goals as goal

pub loop-k-preserved : goal.loop-k-preserved
loop-k-preserved c =
    let on = c.loop-k-test.true in
    let most = c.requires.within in
    least_next c.args.ticks.now c.args.from c.loop-k.k c.loop-k.first c.min-first.result (omega (arith, on, most)) c.min-first.ensures c.loop-k.invariant
