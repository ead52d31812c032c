use Rattle.std.proofs.Common.{arith, ap, ◌∙◌}
use Rattle.std.proofs.lemmas.List.{get_or_default}
use Rattle.tree_check.specs.Written.{Pack, no_pack}
use Rattle.tree_check.proofs.MoreHomes.{listed_more, listed_orders, listed_homes}
use Rattle.std.proofs.lemmas.Result.{IfOk-from_err}
use Rattle.tree_check.proofs.plan.add_packs.Goals as goal

pub loop-i-init : goal.loop-i-init
loop-i-init c = record { orders = c.requires.order; homes = c.requires.homes }

pub loop-i-preserved : goal.loop-i-preserved
loop-i-preserved c =
    let packs = c.args.packs.now in
    let i = c.loop-i.i in
    let members = c.members.ensures ∙ ap (λ (p : Pack). p.members) (c.index-packs-i.is ∙ get_or_default packs i c.index-packs-i.result no_pack
    c.loop-i-test.true) in
    listed_more packs i c.members.result.now _ _ _ _ c.loop-i-test.true members c.loop-i.invariant c.in_ok-add_members.ensures.order
    c.in_ok-add_members.ensures.homes

pub returns-clause-order : goal.returns-clause-order
returns-clause-order c = listed_orders c.args.packs.now c.loop-i.i _ _ c.loop-i-test.false c.loop-i.invariant

pub returns-clause-homes : goal.returns-clause-homes
returns-clause-homes c = listed_homes c.args.packs.now c.loop-i.i _ _ c.loop-i-test.false c.loop-i.invariant

pub returns-in_err-add_members-clause-order : goal.returns-in_err-add_members-clause-order
returns-in_err-add_members-clause-order c = IfOk-from_err _ _ c.from_residual.ensures.0

pub returns-in_err-add_members-clause-homes : goal.returns-in_err-add_members-clause-homes
returns-in_err-add_members-clause-homes c = IfOk-from_err _ _ c.from_residual.ensures.0

pub overflow_cast-i : goal.overflow_cast-i
overflow_cast-i c = let low = c.loop-i-test.true in let few = c.requires.few in omega (arith, low, few)

pub bounds-packs-i : goal.bounds-packs-i
bounds-packs-i c = c.loop-i-test.true
