use Rattle.table_text.proofs.StepLemmas.{rows_whole, step_greatest, ticks_whole}
use Rattle.table_text.proofs.steps.step_law.Goals as goal

pub returns-clause-rows : goal.returns-clause-rows
returns-clause-rows c = rows_whole

pub returns-clause-ticks : goal.returns-clause-ticks
returns-clause-ticks c = ticks_whole

pub returns-clause-greatest : goal.returns-clause-greatest
returns-clause-greatest c = step_greatest
