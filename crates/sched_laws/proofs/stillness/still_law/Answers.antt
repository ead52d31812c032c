use Rattle.sched_laws.proofs.BetweenEvents.{set_runs_still, set_places_still}
use Rattle.sched_laws.proofs.stillness.still_law.Goals as goal

pub returns-clause-nodes : goal.returns-clause-nodes
returns-clause-nodes c = λ s lawful t is n early calm x l. set_runs_still s lawful t is n early calm x l

pub returns-clause-places : goal.returns-clause-places
returns-clause-places c = λ s lawful t is n early calm. set_places_still s lawful t is n early calm
