use Rattle.std.proofs.Common.{◌+◌, ◌-◌}
use Rattle.text_window.proofs.WindowLemmas.{Skips}
use Rattle.text_window.proofs.window.Window.skip_all.Given as goal

abbrev pub invariant-loop : goal.invariant-loop
invariant-loop g l = Skips (g.R.Source.left l.fn.source) (g.R.Source.left l.source) (g.R.Source.faults l.fn.source) (g.R.Source.faults l.source) l.fn.self
    l.self

abbrev pub decreases-loop : goal.decreases-loop
decreases-loop g l = l.self.limit + 1 - l.self.count
