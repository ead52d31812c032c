use Rattle.event_core.proofs.TickLemmas.{first_none, first_past}
use Rattle.event_core.proofs.ticks.first_narrow.Goals as goal

pub early-init : goal.early-init
early-init c = (
  c.requires.blocks,
  first_past c.args.least.now c.args.ticks.now c.args.used c.args.most 0 c.next_before-block.result c.args.most c.requires.blocks
      c.next_before-block.ensures.skipped (first_none c.args.ticks.now c.args.most),
  c.next_before-block.ensures.within,
)

pub returns-then-used-eq0-clause-blocks : goal.returns-then-used-eq0-clause-blocks
returns-then-used-eq0-clause-blocks c = c.requires.blocks

pub first_of_one-requires-clause-blocks : goal.first_of_one-requires-clause-blocks
first_of_one-requires-clause-blocks c = c.requires.blocks

pub first_of_one-requires-clause-most : goal.first_of_one-requires-clause-most
first_of_one-requires-clause-most c = c.requires.most

pub returns-then-used-le-BLOCK-clause-blocks : goal.returns-then-used-le-BLOCK-clause-blocks
returns-then-used-le-BLOCK-clause-blocks c = c.requires.blocks

pub returns-then-used-le-BLOCK-clause-first : goal.returns-then-used-le-BLOCK-clause-first
returns-then-used-le-BLOCK-clause-first c = c.first_of_one.ensures.first

pub first_in-first-requires-clause-blocks : goal.first_in-first-requires-clause-blocks
first_in-first-requires-clause-blocks c = c.early.invariant.0
