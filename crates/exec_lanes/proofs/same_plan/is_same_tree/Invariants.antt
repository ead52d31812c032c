use Rattle.std.proofs.Common.{◌≡◌, ◌<◌, ℕ}
use Rattle.run_tree.specs.Tree.{node as node_in}
use Rattle.exec_lanes.proofs.same_plan.is_same_tree.Given as goal

abbrev pub invariant-loop-n : goal.invariant-loop-n
invariant-loop-n l = (x : ℕ) → x < l.n → node_in l.a x ≡ node_in l.b x
