use Rattle.partition_laws.proofs.PartTicks.{node_there}
use Rattle.partition_laws.proofs.parts.part_runs_law.Goals as goal

pub returns : goal.returns
returns c = λ whole own onto factor w o is n x l. node_there whole own onto factor w o is n x l
