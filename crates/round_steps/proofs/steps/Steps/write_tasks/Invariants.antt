use Rattle.std.proofs.Common.{◌≡◌, ℕ, ◌<◌, ◌≤◌, slice_index, get_or}
use Rattle.sched_base.specs.declared.rows.Row.{Row}
use Rattle.round_steps.specs.Steps.{task_shown}
use Rattle.round_steps.proofs.steps.Steps.write_tasks.Given as goal

abbrev pub invariant-loop-q : goal.invariant-loop-q
invariant-loop-q l = record {
  told : (k : ℕ) (none : Row) → k < l.q → slice_index l.tasks k ≡ task_shown (get_or l.self.rows k none).leaf;
  rest : (k : ℕ) → l.q ≤ k → slice_index l.tasks k ≡ slice_index l.fn.tasks k;
}
