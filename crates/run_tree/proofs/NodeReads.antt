-- Reads of nodes.
use Rattle.std.proofs.Common.{◌≡◌, ◌∙◌, ℕ, ◌<◌, List, length, get_or, ap, sym}
use Rattle.std.proofs.lemmas.List.{get_or_read, get_or-map, length-map}
use Rattle.std.proofs.Math.ListN.{get_or-map as read-map}
use Rattle.sched_base.specs.declared.rows.NodeId.{NodeId}
use Rattle.run_tree.specs.Tree.{Node, Tree, no_node, numbers, members, member}
use Rattle.run_tree.specs.Growth.{node_in}

-- what is read there is the node
pub read_node : (nodes : List Node) (n : ℕ) (x : Node) → n < length nodes → x ≡ get_or nodes n x → x ≡ node_in nodes n
read_node nodes n x l e = get_or_read nodes n x l e no_node

-- what is read among the members of a pack is its member
pub member_of : (t : Tree) (p k : ℕ) (ids : List NodeId) (x : NodeId) → numbers ids ≡ members t p → k < length ids → x ≡ get_or ids k x → x.0 ≡ member t p k
member_of t p k ids x all l read = ap (λ (n : NodeId). n.0) read ∙ sym (get_or-map (λ (n : NodeId). n.0) ids k x 0 l) ∙ ap (λ xs. get_or xs k 0) all

pub length-members : (t : Tree) (p : ℕ) (ids : List NodeId) → numbers ids ≡ members t p → length ids ≡ length (members t p)
length-members t p ids all = sym (length-map ids (λ (n : NodeId). n.0)) ∙ ap length all

pub member_at : (t : Tree) (p k : ℕ) (ids : List NodeId) → numbers ids ≡ members t p → (get_or ids k (record { 0 = 0 })).0 ≡ member t p k
member_at t p k ids all = sym (read-map (λ (n : NodeId). n.0) ids k (record { 0 = 0 })) ∙ ap (λ xs. get_or xs k 0) all
