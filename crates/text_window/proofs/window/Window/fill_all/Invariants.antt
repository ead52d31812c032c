use Rattle.std.proofs.Common.{◌≤◌, ◌+◌, ◌-◌}
use Rattle.text_window.specs.Windows.{Fills}
use Rattle.text_window.proofs.window.Window.fill_all.Given as goal

abbrev pub invariant-loop : goal.invariant-loop
invariant-loop g l = Fills (g.R.Source.left l.fn.source) (g.R.Source.left l.source) l.fn.self l.self × (g.R.Source.faults l.fn.source ≤ g.R.Source.faults
    l.source)

abbrev pub decreases-loop : goal.decreases-loop
decreases-loop g l = l.self.limit + 1 - l.self.count
