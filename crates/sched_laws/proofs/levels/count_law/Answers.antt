use Rattle.sched_laws.proofs.LevelCounts.{each_level, processors_run}
use Rattle.sched_laws.proofs.PlacedPacks.{placed_once}
use Rattle.sched_laws.proofs.levels.count_law.Goals as goal

pub returns-clause-each : goal.returns-clause-each
returns-clause-each c = λ of_leaf t h leaves l n b. each_level of_leaf t h leaves l n b

pub returns-clause-first : goal.returns-clause-first
returns-clause-first c = λ of_leaf t h leaves n. processors_run of_leaf t h leaves n

pub returns-clause-placed : goal.returns-clause-placed
returns-clause-placed c = λ of_leaf t h leaves n i l. placed_once of_leaf t h leaves n i l
