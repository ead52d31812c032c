use Rattle.std.proofs.Common.{◌≡◌, true, false, nat_le, length, refl, arith}
use Rattle.std.proofs.lemmas.Bool.Decides.{nat_tests}
use Rattle.task_reader.proofs.WrittenLemmas.{length-written_tasks}
use Rattle.task_reader.proofs.limits.too_many.Goals as goal

pub returns-then-tasks-le-MOST_TASKS-clause-value : goal.returns-then-tasks-le-MOST_TASKS-clause-value
returns-then-tasks-le-MOST_TASKS-clause-value c =
    let few : nat_le (length c.args.tasks.now) 256 ≡ true = grind (arith, nat_tests, c.if-tasks-le-MOST_TASKS.true) in
    rw (length-written_tasks c.args.tasks.now, few) refl

pub returns-else-tasks-le-MOST_TASKS-clause-value : goal.returns-else-tasks-le-MOST_TASKS-clause-value
returns-else-tasks-le-MOST_TASKS-clause-value c =
    let many : nat_le (length c.args.tasks.now) 256 ≡ false = grind (arith, nat_tests, c.if-tasks-le-MOST_TASKS.false) in
    rw (length-written_tasks c.args.tasks.now, many) refl
