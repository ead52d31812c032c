use Rattle.trace_check.proofs.LawfulLemmas.{lawful_set, own_scale, small_scale}
use Rattle.trace_check.proofs.laws.reads_lawful_law.Goals as goal

pub returns-clause-set : goal.returns-clause-set
returns-clause-set c = lawful_set

pub returns-clause-scale : goal.returns-clause-scale
returns-clause-scale c = own_scale

pub returns-clause-limit : goal.returns-clause-limit
returns-clause-limit c = small_scale
