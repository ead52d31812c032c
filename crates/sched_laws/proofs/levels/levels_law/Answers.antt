use Rattle.sched_laws.proofs.LevelRates.{member_runs, member_served, pack_served}
use Rattle.sched_laws.proofs.levels.levels_law.Goals as goal

pub returns-clause-packs : goal.returns-clause-packs
returns-clause-packs c = λ of_leaf t h leaves p i u. pack_served of_leaf t h leaves p u i

pub returns-clause-members : goal.returns-clause-members
returns-clause-members c = λ of_leaf t h leaves x i u. member_served of_leaf t h leaves x u i

pub returns-clause-runs : goal.returns-clause-runs
returns-clause-runs c = λ of_leaf t h leaves p n i on. member_runs of_leaf t h leaves p n i on
