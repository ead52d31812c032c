use Rattle.sched_laws.proofs.LevelBound.{levels_bound_at, three_duals}
use Rattle.sched_laws.proofs.height.height_law.Goals as goal

pub returns-clause-three : goal.returns-clause-three
returns-clause-three c = three_duals

pub returns-clause-levels : goal.returns-clause-levels
returns-clause-levels c = levels_bound_at
