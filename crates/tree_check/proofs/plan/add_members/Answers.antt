use Rattle.tree_check.proofs.MoreHomes.{added_none, added_more, added_orders, added_homes}
use Rattle.std.proofs.lemmas.Result.{IfOk-from_err}
use Rattle.tree_check.proofs.plan.add_members.Goals as goal

pub loop-member-init : goal.loop-member-init
loop-member-init c = added_none c.args.pack c.args.members.now _ _

pub loop-member-preserved : goal.loop-member-preserved
loop-member-preserved c =
    added_more c.args.pack c.args.members.now c.loop-member.member-index c.member-item.result c.number_of.result _ _ _ _ _ _ c.loop-member-test.true
    c.member-item.is c.number_of.ensures c.loop-member.invariant c.in_ok-push.ensures.items c.in_ok-push-2.ensures.items

pub returns-clause-order : goal.returns-clause-order
returns-clause-order c = added_orders _ _ c.loop-member.member-index _ _ _ _ c.loop-member-test.false c.loop-member.invariant

pub returns-clause-homes : goal.returns-clause-homes
returns-clause-homes c = added_homes _ _ c.loop-member.member-index _ _ _ _ c.loop-member-test.false c.loop-member.auto.member-index-end c.loop-member.invariant

pub returns-in_err-push-clause-order : goal.returns-in_err-push-clause-order
returns-in_err-push-clause-order c = IfOk-from_err _ _ c.from_residual.ensures.0

pub returns-in_err-push-clause-homes : goal.returns-in_err-push-clause-homes
returns-in_err-push-clause-homes c = IfOk-from_err _ _ c.from_residual.ensures.0

pub returns-in_err-push-2-clause-order : goal.returns-in_err-push-2-clause-order
returns-in_err-push-2-clause-order c = IfOk-from_err _ _ c.from_residual-in_err-push-2.ensures.0

pub returns-in_err-push-2-clause-homes : goal.returns-in_err-push-2-clause-homes
returns-in_err-push-2-clause-homes c = IfOk-from_err _ _ c.from_residual-in_err-push-2.ensures.0
