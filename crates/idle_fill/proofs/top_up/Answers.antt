use Rattle.std.proofs.Common.{arith}
use Rattle.idle_fill.proofs.FillLemmas.{Fills-filled}
use Rattle.idle_fill.proofs.top_up.Goals as goal

pub returns-clause-filled : goal.returns-clause-filled
returns-clause-filled c =
    let done = Fills-filled c.scale-scale.result c.args.slack c.args.packing.now c.loop-s.packing c.loop-s.left c.loop-s.s c.loop-s.invariant (let long =
    c.loop-s.invariant.filling.long in omega (arith, long)) in
    rw (← c.scale-scale.ensures) done
