use Rattle.std.proofs.Common.{refl, sym, ◌∙◌}
use Rattle.task_reader.specs.Members.{flawed_at}
use Rattle.task_reader.proofs.MembersLemmas.{task_found, task_more, task_past}
use Rattle.task_reader.proofs.members.flawed_in_tasks.Goals as goal

pub loop-i-init : goal.loop-i-init
loop-i-init c = refl

pub returns-in-Some : goal.returns-in-Some
returns-in-Some c =
    sym (task_found (flawed_at c.args.flaw) c.args.tasks.now c.loop-i.i c.index-tasks-i.result c.task_place.result c.refusal_at.result c.in-Some.refusal
    c.loop-i-test.true c.index-tasks-i.is c.task_place.ensures
    c.refusal_at.ensures c.in-Some.is)
    ∙ c.loop-i.invariant

pub loop-i-preserved : goal.loop-i-preserved
loop-i-preserved c =
    sym (task_more (flawed_at c.args.flaw) c.args.tasks.now c.loop-i.i c.index-tasks-i.result c.task_place.result c.refusal_at.result c.loop-i-test.true
    c.index-tasks-i.is c.task_place.ensures c.refusal_at.ensures
    c.in_default.is)
    ∙ c.loop-i.invariant

pub returns : goal.returns
returns c = sym (task_past (flawed_at c.args.flaw) c.args.tasks.now c.loop-i.i c.loop-i-test.false) ∙ c.loop-i.invariant
