use Rattle.std.proofs.Common.{arith}
use Rattle.trace_writer.proofs.FinishLemmas.{begins_within, past_before, past_few}
use Rattle.trace_writer.proofs.finishes.first_period.Goals as goal

pub began_lately-requires-clause-scale : goal.began_lately-requires-clause-scale
began_lately-requires-clause-scale c = c.requires.scale

pub began_lately-requires-clause-fits : goal.began_lately-requires-clause-fits
began_lately-requires-clause-fits c = begins_within c.args.task.now c.args.at c.args.periods _ c.if-at-periods.true c.requires.fits

pub returns-then-began_lately-clause-within : goal.returns-then-began_lately-clause-within
returns-then-began_lately-clause-within c = c.if-at-periods.true

pub returns-then-began_lately-clause-past : goal.returns-then-began_lately-clause-past
returns-then-began_lately-clause-past c = past_before c.args.scale c.args.task.now c.args.at c.args.tick (c.began_lately.ensures c.if-began_lately.true)

pub period_at-requires : goal.period_at-requires
period_at-requires c = record { some = c.requires.some }

pub returns-clause-past : goal.returns-clause-past
returns-clause-past c = past_few c.args.scale c.args.task.now c.min.result c.period_at.result c.args.tick (let least = c.min.ensures in
    omega (arith, least)) c.period_at.ensures
