use Rattle.std.proofs.Common.{◌≤◌, ◌+◌, ◌-◌}
use Rattle.text_window.specs.Windows.{Fills}
use Rattle.text_window.proofs.window.Window.fill.Given as goal

abbrev pub invariant-loop-self : goal.invariant-loop-self
invariant-loop-self g l = Fills (g.R.Source.left l.fn.source) (g.R.Source.left l.source) l.fn.self l.self
    × (g.R.Source.faults l.fn.source ≤ g.R.Source.faults l.source)

abbrev pub decreases-loop-self : goal.decreases-loop-self
decreases-loop-self g l = l.self.limit + 1 - l.self.count
