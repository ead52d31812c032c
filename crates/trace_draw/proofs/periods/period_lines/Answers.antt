use Rattle.trace_draw.proofs.periods.period_lines.Goals as goal

pub place-left-requires : goal.place-left-requires
place-left-requires c = c.requires.window

pub first_tick-first-requires : goal.first_tick-first-requires
first_tick-first-requires c = c.requires.window

pub place-requires : goal.place-requires
place-requires c = c.requires.window

pub place-requires-else-is_wrong : goal.place-requires-else-is_wrong
place-requires-else-is_wrong c = c.requires.window

pub overflow_sub-y : goal.overflow_sub-y
overflow_sub-y c = c.requires.y
