use Rattle.partition_laws.proofs.OwnEvents.{event_of_none, event_of_some}
use Rattle.partition_laws.proofs.partitions.own_events_law.Goals as goal

pub returns-clause-some : goal.returns-clause-some
returns-clause-some c = λ whole own factor w o roots are n i some l z e. event_of_some whole own factor w o roots are n i some l z e

pub returns-clause-none : goal.returns-clause-none
returns-clause-none c = λ whole own factor w o roots are n some none. event_of_none whole own factor w o roots are n some none
