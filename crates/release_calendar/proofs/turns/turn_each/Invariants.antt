use Rattle.std.proofs.Common.{◌≤◌, take}
use Rattle.run_tree.specs.Tree.{numbers}
use Rattle.release_calendar.specs.Calendars.{AreTurning, EndElsewhere, EndsFit, IsLeastEnd}
use Rattle.release_calendar.proofs.turns.turn_each.Given as goal

abbrev pub invariant-loop-x : goal.invariant-loop-x
invariant-loop-x l =
    AreTurning l.plan l.begins l.ends (numbers (take l.turned l.begun)) l.at × EndElsewhere l.ends l.at l.x × IsLeastEnd l.ends l.x l.first × EndsFit l.ends
    × (l.turned ≤ l.x)
