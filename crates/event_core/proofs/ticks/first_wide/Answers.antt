use Rattle.std.proofs.Common.{arith}
use Rattle.event_core.proofs.TickLemmas.{wide_next}
use Rattle.event_core.proofs.ticks.first_wide.Goals as goal

pub loop-k-preserved : goal.loop-k-preserved
loop-k-preserved c =
    let on = c.loop-k-test.true in
    let few = c.requires.used in
    wide_next c.args.ticks.now c.args.most c.loop-k.k c.loop-k.first c.min-first.result (omega (arith, on, few)) c.min-first.ensures c.loop-k.invariant
