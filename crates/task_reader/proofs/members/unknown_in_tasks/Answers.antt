use Rattle.std.proofs.Common.{refl, sym, ◌∙◌}
use Rattle.std.proofs.lemmas.Result.{IfOk-from_err}
use Rattle.task_reader.specs.Members.{unknown_at}
use Rattle.task_reader.proofs.MembersLemmas.{task_found, task_more, task_past}
use Rattle.task_reader.proofs.members.unknown_in_tasks.Goals as goal

pub loop-i-init : goal.loop-i-init
loop-i-init c = refl

pub returns-in_err-refusal : goal.returns-in_err-refusal
returns-in_err-refusal c = IfOk-from_err _ _ c.from_residual.ensures.0

pub returns-in-Some : goal.returns-in-Some
returns-in-Some c =
    sym (task_found unknown_at c.args.tasks.now c.loop-i.i c.index-tasks-i.result c.task_place.result _ c.in-Some.refusal c.loop-i-test.true
    c.index-tasks-i.is c.task_place.ensures
    c.in_ok-refusal.ensures c.in-Some.is)
    ∙ c.loop-i.invariant

pub loop-i-preserved : goal.loop-i-preserved
loop-i-preserved c =
    sym (task_more unknown_at c.args.tasks.now c.loop-i.i c.index-tasks-i.result c.task_place.result _ c.loop-i-test.true c.index-tasks-i.is
    c.task_place.ensures c.in_ok-refusal.ensures
    c.in_default.is)
    ∙ c.loop-i.invariant

pub returns : goal.returns
returns c = sym (task_past unknown_at c.args.tasks.now c.loop-i.i c.loop-i-test.false) ∙ c.loop-i.invariant
