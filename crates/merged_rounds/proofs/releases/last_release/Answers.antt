use Rattle.std.proofs.Common.{ap, arith, length, List, mul-le-mul_right, subst₂, sym, ◌*◌, ◌∙◌, ◌≤◌, ℕ}
use Rattle.sched_base.specs.declared.sets.Task.{Task}
use Rattle.sched_base.specs.Sets.{SetContents, task_at}
use Rattle.repeat_laws.proofs.Repeating.{all_by_number}
use Rattle.merged_rounds.proofs.releases.last_release.Goals as goal

pub returns : goal.returns
returns c = all_by_number (λ t. t.offset * c.args.plan.now.tree.scale ≤ c.from.result * c.scale.result) c.args.plan.now.set.tasks (λ k below.
    let past = c.loop-task-test.false in
    let long = ap (λ (ts : List Task). length ts) (c.tasks-task-items.ensures.value ∙ ap (λ (s : SetContents). s.tasks) c.set.ensures.value) in
    let all : length c.args.plan.now.set.tasks ≤ c.loop-task.task-index = omega (arith, past, long) in
    let at = c.loop-task.invariant.1 k (omega (arith, below, all)) in
    subst₂ (λ (l m : ℕ). (task_at c.args.plan.now.set.tasks k).offset * c.args.plan.now.tree.scale ≤ l * m) (sym c.from.ensures) (sym c.scale.ensures.value)
    (mul-le-mul_right c.args.plan.now.tree.scale at))
