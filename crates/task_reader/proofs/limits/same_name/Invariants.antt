use Rattle.std.proofs.Common.{◌≡◌, take, drop, []}
use Rattle.task_reader.specs.Limits.{first_repeated}
use Rattle.task_reader.proofs.limits.same_name.Given as goal

abbrev pub invariant-loop-i : goal.invariant-loop-i
invariant-loop-i l = first_repeated (take l.i l.tasks) l.i (drop l.i l.tasks) ≡ first_repeated [] 0 l.tasks
