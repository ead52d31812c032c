use Rattle.sched_laws.proofs.WholeRounds.{set_round, length-round}
use Rattle.sched_laws.proofs.rounds.round_law.Goals as goal

pub returns-clause-whole : goal.returns-clause-whole
returns-clause-whole c = λ s lawful t is start end forward fits. set_round s lawful t is start end forward fits

pub returns-clause-each : goal.returns-clause-each
returns-clause-each c = λ s t start end. length-round s.tasks t start end
