use Rattle.sched_laws.proofs.LevelRates.{one_pack_runs, one_pack_served}
use Rattle.sched_laws.proofs.servers.edf_law.Goals as goal

pub returns-clause-served : goal.returns-clause-served
returns-clause-served c = λ of_leaf t h leaves p k i each l. one_pack_served of_leaf t h leaves p k i each l

pub returns-clause-runs : goal.returns-clause-runs
returns-clause-runs c = λ of_leaf t h leaves p n i each on. one_pack_runs of_leaf t h leaves p n i each on
