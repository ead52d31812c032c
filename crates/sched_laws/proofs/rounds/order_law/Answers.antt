use Rattle.sched_laws.proofs.WholeRounds.{event_first, event_last, event_next, set_forward}
use Rattle.sched_laws.proofs.rounds.order_law.Goals as goal

pub returns-clause-first : goal.returns-clause-first
returns-clause-first c = event_first

pub returns-clause-next : goal.returns-clause-next
returns-clause-next c = event_next

pub returns-clause-last : goal.returns-clause-last
returns-clause-last c = event_last

pub returns-clause-forward : goal.returns-clause-forward
returns-clause-forward c = set_forward
