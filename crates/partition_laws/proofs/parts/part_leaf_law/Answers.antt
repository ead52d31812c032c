use Rattle.std.proofs.Common.{refl}
use Rattle.run_tree.specs.Tree.{level}
use Rattle.partition_laws.proofs.PartPlaces.{level_there, shown_there}
use Rattle.partition_laws.proofs.parts.part_leaf_law.Goals as goal

pub returns-clause-level : goal.returns-clause-level
returns-clause-level c = λ whole own onto factor w o is p pack. level_there whole own onto factor w o is (level own.tree p) p pack refl

pub returns-clause-leaf : goal.returns-clause-leaf
returns-clause-leaf c = λ whole own onto factor w o is n i p k pack at l on. shown_there whole own onto factor w o is n i p k pack at l on
