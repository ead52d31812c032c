use Rattle.std.proofs.Common.{ℕ, ◌<◌}
use Rattle.own_plans.proofs.LikeMembers.{AreAlikeAt}
use Rattle.own_plans.proofs.likeness.are_members_alike.Given as goal

abbrev pub invariant-loop-k : goal.invariant-loop-k
invariant-loop-k l = (k : ℕ) → k < l.k → AreAlikeAt l.whole l.own l.p.0 l.q.0 l.factor k
