use Rattle.tree_check.proofs.MoreHomes.{IsAdded}
use Rattle.tree_check.proofs.plan.add_members.Given as goal

abbrev pub invariant-loop-member : goal.invariant-loop-member
invariant-loop-member l = IsAdded l.pack l.members l.member-index l.initial.order.items l.initial.homes.items l.order.items l.homes.items
