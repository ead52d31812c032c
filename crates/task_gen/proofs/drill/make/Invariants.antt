use Rattle.task_gen.proofs.DrillLemmas.{HasDrawn}
use Rattle.task_gen.proofs.drill.make.Given as goal

abbrev pub invariant-loop-j : goal.invariant-loop-j
invariant-loop-j l = HasDrawn l.words l.j l.set l.load
