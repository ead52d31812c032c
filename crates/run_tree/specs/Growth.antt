-- Nodes in a row as they are made, apart from the nodes below them, and the packs among them in order.
use Rattle.std.specs.Prelude.{ℕ, suc, ◌+◌, ◌-◌, ◌<◌, nat_lt, Bool, true, false, List, [], ◌∷◌, ◌++◌, length, slice_index_or, slice_set}
use Rattle.run_tree.specs.declared.kinds.Kind.{Kind}
use Rattle.run_tree.specs.declared.kinds.Kind.TheVariants as kind
use Rattle.run_tree.specs.Tree.{Node, no_node}
use Rattle.run_tree.specs.Making.{member_node, pack_node, joined, with_dual}

-- the nodes, and the numbers of the packs to which members may come
pub record Growth : Type 0 where
  pub nodes : List Node
  pub packs : List ℕ

-- nothing yet
abbrev pub no_growth : Growth
no_growth = record { nodes = []; packs = [] }

-- node i of a list
abbrev pub node_in : List Node → ℕ → Node
node_in nodes i = slice_index_or nodes i no_node

-- a new member at the end of pack i of these nodes, whose numbers begin at `base`
abbrev pub with_member : ℕ → Kind → ℕ → ℕ → List Node → List Node
with_member base k rate i nodes = slice_set nodes i (joined (node_in nodes i) (base + length nodes) rate) ++ member_node k rate (base + i)
    (length (node_in nodes i).members) ∷ []

-- a new pack at the end
abbrev pub with_pack : ℕ → ℕ → Growth → Growth
with_pack base level g = record { nodes = g.nodes ++ pack_node level ∷ []; packs = g.packs ++ (base + length g.nodes) ∷ [] }

-- a new member at the end of the b-th pack
abbrev pub grown_at : ℕ → Kind → ℕ → ℕ → Growth → Growth
grown_at base k rate b g = record { nodes = with_member base k rate (slice_index_or g.packs b 0 - base) g.nodes; packs = g.packs }

-- a new member in pack b, or in a new pack
abbrev pub grown_in : ℕ → ℕ → Kind → ℕ → ℕ → Growth → Bool → Growth
grown_in base level k rate b g true = grown_at base k rate b g
grown_in base level k rate b g false = grown_at base k rate (length g.packs) (with_pack base level g)

-- a new member at the end of the b-th pack, which is new where b is their number
unfoldable pub grown : ℕ → ℕ → Kind → ℕ → ℕ → Growth → Growth
grown base level k rate b g = grown_in base level k rate b g (nat_lt b (length g.packs))

-- the duals of these packs of `below`, each in the home that is told
abbrev pub with_duals_of : List Node → ℕ → ℕ → List ℕ → List ℕ → Growth → Growth
with_duals_of below scale level [] homes g = g
with_duals_of below scale level (p ∷ packs) [] g = g
with_duals_of below scale level (p ∷ packs) (b ∷ homes) g = with_duals_of below scale level packs homes
    (grown (length below) level (kind.Dual (record { 0 = p })) (scale - (node_in below p).rate) b g)

-- a dual's primal is among the first n nodes
abbrev pub IsPrimalBelow : ℕ → Kind → Type 0
IsPrimalBelow n (kind.Leaf leaf) = Unit {0}
IsPrimalBelow n (kind.Pack level) = Unit {0}
IsPrimalBelow n (kind.Dual primal) = primal.0 < n

-- a dual's primal knows it by this number
abbrev pub mark_primal : Kind → ℕ → List Node → List Node
mark_primal (kind.Leaf leaf) number nodes = nodes
mark_primal (kind.Pack level) number nodes = nodes
mark_primal (kind.Dual primal) number nodes = slice_set nodes primal.0 (with_dual (node_in nodes primal.0) number)

-- these nodes once they know the duals of a level above, whose numbers begin at `number`
abbrev pub with_duals : ℕ → List Node → List Node → List Node
with_duals number [] nodes = nodes
with_duals number (x ∷ level) nodes = with_duals (suc number) level (mark_primal x.kind number nodes)
