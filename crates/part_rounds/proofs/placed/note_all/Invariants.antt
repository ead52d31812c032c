use Rattle.part_rounds.proofs.PlacedLemmas.{AreNotedOf}
use Rattle.part_rounds.proofs.placed.note_all.Given as goal

abbrev pub invariant-loop-k : goal.invariant-loop-k
invariant-loop-k l = AreNotedOf l.shows l.fn.before l.before l.k l.changes
