use Rattle.event_core.proofs.TickLemmas.{one_block}
use Rattle.event_core.proofs.ticks.first_of_one.Goals as goal

pub returns : goal.returns
returns c = record {
  first = one_block c.args.least.now c.args.ticks.now c.args.used c.args.most c.least_of.result c.min.result c.requires.blocks
      c.requires.most c.min.ensures c.least_of.ensures.all c.least_of.ensures.one;
}
