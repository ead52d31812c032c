use Rattle.std.proofs.Common.{◌≡◌, length, take, vec_capacity}
use Rattle.run_tree.specs.Growth.{with_duals}
use Rattle.run_tree.proofs.growth.mark_duals.Given as goal

abbrev pub invariant-loop-i : goal.invariant-loop-i
invariant-loop-i l = record {
  nodes : l.nodes.items ≡ with_duals l.number (take l.i l.level) l.initial.nodes.items;
  long : length l.nodes.items ≡ length l.initial.nodes.items;
  capacity : vec_capacity l.nodes ≡ vec_capacity l.initial.nodes;
}
