-- The parts of a node, as functions.
use Rattle.std.specs.Prelude.{ℕ, Bool, List, Option}
use Rattle.sched_base.specs.declared.rows.Leaf.{Leaf}
use Rattle.sched_base.specs.declared.rows.NodeId.{NodeId}
use Rattle.run_tree.specs.Tree.{Node, is_leaf, is_pack, is_dual, leaf_of, level_of, primal_of}

abbrev pub node_rate : Node → ℕ
node_rate n = n.rate

abbrev pub node_home : Node → ℕ
node_home n = n.home

abbrev pub node_place : Node → ℕ
node_place n = n.place

abbrev pub node_members : Node → List ℕ
node_members n = n.members

abbrev pub node_dual : Node → Option ℕ
node_dual n = n.dual

abbrev pub node_leaf : Node → Leaf
node_leaf n = leaf_of n.kind

abbrev pub node_level : Node → ℕ
node_level n = level_of n.kind

abbrev pub node_primal : Node → ℕ
node_primal n = primal_of n.kind

abbrev pub is_leaf_node : Node → Bool
is_leaf_node n = is_leaf n.kind

abbrev pub is_pack_node : Node → Bool
is_pack_node n = is_pack n.kind

abbrev pub is_dual_node : Node → Bool
is_dual_node n = is_dual n.kind

abbrev pub node_id : ℕ → NodeId
node_id n = record { 0 = n }
