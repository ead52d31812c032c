use Rattle.sched_laws.proofs.ValidRows.{schedule_valid, set_valid}
use Rattle.sched_laws.proofs.FullRows.{schedule_full}
use Rattle.sched_laws.proofs.validity.valid_law.Goals as goal

pub returns-clause-set : goal.returns-clause-set
returns-clause-set c = λ s lawful t is. set_valid s lawful t is

pub returns-clause-rows : goal.returns-clause-rows
returns-clause-rows c = λ s lawful t is stop early horizon l. schedule_valid s lawful t is stop early horizon l

pub returns-clause-full : goal.returns-clause-full
returns-clause-full c = λ s lawful t is stop. schedule_full s lawful t is stop
