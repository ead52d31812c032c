use Rattle.std.proofs.Common.{◌∙◌, ap, sym}
use Rattle.sched_base.specs.declared.rows.Leaf.{Leaf}
use Rattle.run_tree.specs.Windows.{window_end}
use Rattle.run_tree.specs.Boundaries.{set_boundary}
use Rattle.run_tree.proofs.TaskEnds.{idle_end}
use Rattle.run_tree.proofs.boundaries.leaf_end.Goals as goal

pub returns-in-Idle : goal.returns-in-Idle
returns-in-Idle c = idle_end c.args.set.now.tasks c.in-Idle.field-0 c.args.after c.requires.after
    ∙ ap (λ (l : Leaf). window_end (set_boundary c.args.set.now.tasks l) c.args.after) (sym c.in-Idle.is)
