use Rattle.merged_rounds.specs.Copies.{AreCopied}
use Rattle.merged_rounds.proofs.copies.copy_lanes.Given as goal

abbrev pub invariant-loop-q : goal.invariant-loop-q
invariant-loop-q l = AreCopied l.plan l.now l.window l.fn.rows.begun l.rows.begun l.q
