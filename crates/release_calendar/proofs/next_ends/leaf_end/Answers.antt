use Rattle.std.proofs.Common.{◌≡◌, ◌<◌, ◌∙◌, length, true, ap, subst, sym}
use Rattle.sched_base.specs.declared.rows.Leaf.TheVariants.{Task}
use Rattle.sched_base.specs.Sets.{SetContents, task_at}
use Rattle.sched_base.specs.Boundaries.{task_boundary}
use Rattle.run_tree.specs.declared.kinds.Kind.TheVariants as kind
use Rattle.run_tree.specs.Windows.{window_end}
use Rattle.run_tree.proofs.NextBoundaries.{leaf_end_is, leaf_known}
use Rattle.release_calendar.proofs.TaskTurns.{leaf_begins}
use Rattle.release_calendar.proofs.next_ends.leaf_end.Goals as goal

pub task_end-requires-clause-task : goal.task_end-requires-clause-task
task_end-requires-clause-task c =
    let known = leaf_known c.args.plan.now c.requires.plan c.args.n.0 (Task c.in-Task.id) c.requires.member.0 (c.requires.leaf ∙ ap kind.Leaf c.in-Task.is) in
    subst (λ (s : SetContents). c.in-Task.id.0 < length s.tasks) (sym c.set.ensures.value) known

pub task_end-requires-clause-begins : goal.task_end-requires-clause-begins
task_end-requires-clause-begins c =
    let on = leaf_begins c.args.plan.now c.requires.plan c.args.n.0 (Task c.in-Task.id) c.args.at c.requires.member.0 (c.requires.leaf
    ∙ ap kind.Leaf c.in-Task.is) c.requires.begins in
    subst (λ (s : SetContents). task_boundary (task_at s.tasks c.in-Task.id.0) c.args.at ≡ true) (sym c.set.ensures.value) on

pub returns-in-Task : goal.returns-in-Task
returns-in-Task c =
    c.task_end.ensures
    ∙ ap (λ (s : SetContents). window_end (task_boundary (task_at s.tasks c.in-Task.id.0)) c.args.at) c.set.ensures.value
    ∙ leaf_end_is c.args.plan.now c.requires.plan c.args.n.0 (Task c.in-Task.id) c.args.at c.requires.member.0 (c.requires.leaf ∙ ap kind.Leaf c.in-Task.is)
