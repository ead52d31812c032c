use Rattle.partition_laws.proofs.PartEvents.{event_of_none, event_there, has_like}
use Rattle.partition_laws.proofs.parts.part_events_law.Goals as goal

pub returns-clause-some : goal.returns-clause-some
returns-clause-some c = λ whole own onto factor w o is n some z e. event_there whole own onto factor w o is n some z e

pub returns-clause-none : goal.returns-clause-none
returns-clause-none c = λ whole parts w o are n some none.
    event_of_none whole parts.own parts.onto parts.factor parts.count w o are.each (has_like whole parts w o are) n some none
