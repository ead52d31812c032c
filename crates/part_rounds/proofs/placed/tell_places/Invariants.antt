use Rattle.event_core.specs.Told.{AreTold}
use Rattle.part_rounds.proofs.placed.tell_places.Given as goal

abbrev pub invariant-loop-k : goal.invariant-loop-k
invariant-loop-k l = AreTold l.places l.packs l.told l.k l.count
