use Rattle.sched_laws.proofs.OneLevel.{set_stays}
use Rattle.sched_laws.proofs.migration.one_level_law.Goals as goal

pub returns : goal.returns
returns c = set_stays
