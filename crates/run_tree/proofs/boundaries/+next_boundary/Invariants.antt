use Rattle.run_tree.proofs.NextBoundaries.{IsLeastOf, rank}
use Rattle.run_tree.proofs.boundaries.+next_boundary.Given as goal

abbrev pub decreases-next_boundary : goal.decreases-next_boundary
decreases-next_boundary l = rank l.plan.now.tree l.n.0

abbrev pub invariant-loop-member : goal.invariant-loop-member
invariant-loop-member l = IsLeastOf l.plan l.fn.n.0 l.after l.member-index l.least
