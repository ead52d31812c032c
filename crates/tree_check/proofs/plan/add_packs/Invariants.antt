use Rattle.tree_check.proofs.MoreHomes.{IsListed}
use Rattle.tree_check.proofs.plan.add_packs.Given as goal

abbrev pub invariant-loop-i : goal.invariant-loop-i
invariant-loop-i l = IsListed l.packs l.i l.order.items l.homes.items
