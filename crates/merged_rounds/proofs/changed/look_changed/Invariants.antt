use Rattle.merged_rounds.specs.Changes.{AreTold}
use Rattle.merged_rounds.proofs.changed.look_changed.Given as goal

abbrev pub invariant-loop-k : goal.invariant-loop-k
invariant-loop-k l = AreTold l.plan l.start l.source.tick l.changed l.k l.initial.told l.told
