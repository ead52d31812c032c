use Rattle.partition_laws.proofs.OwnPlaces.{as_many, holds_own, leaf_own}
use Rattle.partition_laws.proofs.partitions.own_leaf_law.Goals as goal

pub returns-clause-packs : goal.returns-clause-packs
returns-clause-packs c = λ whole w roots. as_many whole w roots

pub returns-clause-places : goal.returns-clause-places
returns-clause-places c = λ whole w roots n q l. holds_own whole w roots n q l

pub returns-clause-leaf : goal.returns-clause-leaf
returns-clause-leaf c = λ whole own i factor w o roots is n k l on. leaf_own whole own i factor w o roots is n k l on
