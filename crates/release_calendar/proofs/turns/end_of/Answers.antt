use Rattle.std.proofs.Common.{arith}
use Rattle.release_calendar.proofs.EndLemmas.{end_near}
use Rattle.release_calendar.proofs.turns.end_of.Goals as goal

pub overflow_add-result : goal.overflow_add-result
overflow_add-result c =
    let near = end_near c.args.plan.now c.requires.plan c.args.n.0 c.args.at c.requires.member c.requires.at in
    let later = c.requires.steps.all c.args.n.0 c.requires.member.0 c.if-step-gt0.true c.args.at c.requires.begins in
    omega (arith, near, later)
