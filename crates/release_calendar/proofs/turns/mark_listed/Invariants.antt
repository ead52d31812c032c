use Rattle.std.proofs.Common.{take}
use Rattle.run_tree.specs.Tree.{numbers}
use Rattle.release_calendar.specs.Calendars.{AreListed}
use Rattle.release_calendar.proofs.turns.mark_listed.Given as goal

abbrev pub invariant-loop-k : goal.invariant-loop-k
invariant-loop-k l = AreListed l.due (numbers (take l.k l.begun))
