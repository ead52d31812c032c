use Rattle.tree_text_laws.proofs.SameSchedule.{schedule_same, rounds_count_same}
use Rattle.tree_text_laws.proofs.numbers_law.Goals as goal

pub returns-clause-rows : goal.returns-clause-rows
returns-clause-rows c tasks f t u h leaves r stop = schedule_same tasks f t u h r leaves stop

pub returns-clause-rounds : goal.returns-clause-rounds
returns-clause-rounds c tasks f t u h leaves r stop = rounds_count_same tasks f t u h r leaves stop
