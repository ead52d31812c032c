use Rattle.std.proofs.Common.{◌≡◌, ◌∙◌, true, ap, subst, sym}
use Rattle.sched_base.specs.declared.rows.Leaf.TheVariants.{Task}
use Rattle.sched_base.specs.Sets.{SetContents, task_at}
use Rattle.sched_base.specs.Boundaries.{task_boundary}
use Rattle.run_tree.specs.declared.kinds.Kind.TheVariants as kind
use Rattle.run_tree.specs.Windows.{window_end}
use Rattle.run_tree.proofs.NextBoundaries.{leaf_end_is}
use Rattle.release_calendar.proofs.TaskTurns.{leaf_begins}
use Rattle.release_calendar.proofs.steps.leaf_step.Goals as goal

pub returns-in-Task : goal.returns-in-Task
returns-in-Task c = λ some u on.
    let e = c.requires.leaf ∙ ap kind.Leaf c.in-Task.is in
    let of_task = leaf_begins c.args.plan.now c.requires.plan c.args.n.0 (Task c.in-Task.id) u c.requires.node e on in
    let begins = subst (λ (s : SetContents). task_boundary (task_at s.tasks c.in-Task.id.0) u ≡ true) (sym c.set.ensures.value) of_task in
    sym (ap (λ (s : SetContents). window_end (task_boundary (task_at s.tasks c.in-Task.id.0)) u) c.set.ensures.value
    ∙ leaf_end_is c.args.plan.now c.requires.plan c.args.n.0 (Task c.in-Task.id) u c.requires.node e)
    ∙ c.task_step.ensures some u begins
