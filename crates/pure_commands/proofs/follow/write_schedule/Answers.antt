use Rattle.std.proofs.lemmas.Result.{err_from_is_err_and}
use Rattle.pure_commands.proofs.FollowLemmas.{refused_tree}
use Rattle.pure_commands.proofs.follow.write_schedule.Goals as goal

pub returns-in_err-plan-clause-stops : goal.returns-in_err-plan-clause-stops
returns-in_err-plan-clause-stops g c =
    let why = err_from_is_err_and c.from_residual.result c.from_residual.ensures.1 in
    rw (why.1, why.2) (refused_tree c.args.tree.now _ _ _ c.in_err-plan.ensures.refused)

pub returns-clause-done : goal.returns-clause-done
returns-clause-done g c = c.write_plan.ensures.done

pub returns-clause-stops : goal.returns-clause-stops
returns-clause-stops g c = c.write_plan.ensures.stops
