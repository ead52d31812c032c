use Rattle.std.proofs.Common.{◌≡◌, length}
use Rattle.own_plans.proofs.OwnLemmas.{AreInTurn}
use Rattle.own_plans.proofs.owns.own_plans.Given as goal

abbrev pub invariant-loop-i : goal.invariant-loop-i
invariant-loop-i l = (length l.owns.items ≡ l.i) × AreInTurn l.plan l.owns.items
