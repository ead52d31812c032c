use Rattle.event_core.proofs.ticks.first_in.Goals as goal

pub returns-then-least-block-clause-blocks : goal.returns-then-least-block-clause-blocks
returns-then-least-block-clause-blocks c = c.requires.blocks

pub least_in-own-requires-clause-used : goal.least_in-own-requires-clause-used
least_in-own-requires-clause-used c = c.requires.blocks.few

pub least_in-own-requires-clause-block : goal.least_in-own-requires-clause-block
least_in-own-requires-clause-block c = c.requires.block
