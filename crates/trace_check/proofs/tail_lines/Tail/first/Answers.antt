use Rattle.std.proofs.Common.{arith}
use Rattle.trace_check.proofs.TailLemmas.{tail_few}
use Rattle.trace_check.proofs.tail_lines.Tail.first.Goals as goal

pub returns-clause-few : goal.returns-clause-few
returns-clause-few c =
    let t = c.args.self.now in
    let few = tail_few t.version t.set.now t.scale t.rows.now in
    let tasks = c.tasks-tasks.ensures.lawful.few_tasks in
    omega (arith, few, tasks)
