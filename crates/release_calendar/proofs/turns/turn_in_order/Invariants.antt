use Rattle.std.proofs.Common.{◌≡◌, ◌≤◌, ◌+◌, length, take}
use Rattle.knockout.specs.Knockouts.{IsFirst}
use Rattle.run_tree.specs.Tree.{numbers}
use Rattle.release_calendar.specs.Calendars.{AreTurning, EndsFit, ending}
use Rattle.release_calendar.proofs.turns.turn_in_order.Given as goal

abbrev pub invariant-loop-first : goal.invariant-loop-first
invariant-loop-first l =
    (l.order ≡ l.ends) × AreTurning l.plan l.begins l.ends (numbers (take l.turned l.begun)) l.at × IsFirst l.ends l.first × (EndsFit l.fn.ends →
    EndsFit l.ends)
    × (l.turned + ending l.at l.ends ≤ length l.begun)

abbrev pub decreases-loop-first : goal.decreases-loop-first
decreases-loop-first l = ending l.at l.ends
