use Rattle.std.proofs.Common.{ℕ, ◌≡◌, ◌<◌, get_or}
use Rattle.run_tree.specs.Tree.{member}
use Rattle.part_plans.proofs.likeness.are_members_like.Given as goal

abbrev pub invariant-loop-k : goal.invariant-loop-k
invariant-loop-k l = (k : ℕ) → k < l.k → member l.whole l.q.0 k ≡ get_or l.onto (member l.own l.p.0 k) 0
