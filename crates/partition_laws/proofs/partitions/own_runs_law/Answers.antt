use Rattle.partition_laws.proofs.OwnTicks.{runs_own}
use Rattle.partition_laws.proofs.partitions.own_runs_law.Goals as goal

pub returns : goal.returns
returns c = λ whole own i factor w o roots is n k l. runs_own whole own i factor w o roots is n k l
