use Rattle.tree_laws.proofs.SetRates.{rates_fit}
use Rattle.tree_laws.proofs.SetTree.{set_tree, set_tree_scale}
use Rattle.tree_laws.proofs.laws.tree_law.Goals as goal

pub returns-clause-is : goal.returns-clause-is
returns-clause-is c = set_tree

pub returns-clause-scale : goal.returns-clause-scale
returns-clause-scale c = set_tree_scale

pub returns-clause-rates : goal.returns-clause-rates
returns-clause-rates c = rates_fit
