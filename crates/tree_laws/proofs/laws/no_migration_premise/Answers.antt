use Rattle.std.proofs.Common.{map}
use Rattle.sched_base.specs.Scale.{rate_of}
use Rattle.tree_laws.proofs.SetRates.{rates_fit}
use Rattle.tree_laws.proofs.CompiledTree.{few_roots}
use Rattle.tree_laws.proofs.laws.no_migration_premise.Goals as goal

pub returns : goal.returns
returns c = λ s scale lawful is fits few. few_roots s.processors scale (map (rate_of scale) s.tasks) (rates_fit s scale lawful is fits) few
