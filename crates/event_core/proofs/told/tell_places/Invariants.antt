use Rattle.event_core.specs.Told.{AreHeldTold}
use Rattle.event_core.proofs.told.tell_places.Given as goal

abbrev pub invariant-loop-k : goal.invariant-loop-k
invariant-loop-k l = AreHeldTold l.places.onto l.packs l.told l.k l.count
