use Rattle.sched_laws.proofs.LevelRates.{dual_bounds, primal_served}
use Rattle.sched_laws.proofs.servers.dual_law.Goals as goal

pub returns-clause-same : goal.returns-clause-same
returns-clause-same c = λ of_leaf t h p d i e u. dual_bounds of_leaf t h p d i e u

pub returns-clause-served : goal.returns-clause-served
returns-clause-served c = λ of_leaf t h leaves p d i e served. primal_served of_leaf t h leaves p d i e served
