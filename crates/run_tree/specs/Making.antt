-- Trees as they are made, member by member. Nodes are numbered in the order in which they are made, a new pack just before its first member.
use Rattle.std.specs.Prelude.{ℕ, suc, ◌+◌, ◌-◌, nat_lt, Bool, true, false, List, [], ◌∷◌, ◌++◌, length, Some, None}
use Rattle.std.specs.Prelude.{slice_index_or, slice_set, filter, map}
use Rattle.run_tree.specs.declared.kinds.Kind.{Kind}
use Rattle.run_tree.specs.declared.kinds.Kind.TheVariants as kind
use Rattle.run_tree.specs.Tree.{Node, Tree, node, rate, members}

-- a tree in the making, and the packs of its last level, in order
pub record Making : Type 0 where
  pub tree : Tree
  pub last : List ℕ

-- no node yet
abbrev pub started : ℕ → ℕ → Making
started processors scale = record { tree = record { processors = processors; scale = scale; levels = 1; nodes = [] }; last = [] }

-- the tree with these nodes
abbrev pub with_nodes : Tree → List Node → Tree
with_nodes t nodes = record t { nodes = nodes }

-- a leaf or a dual, in its home
abbrev pub member_node : Kind → ℕ → ℕ → ℕ → Node
member_node kind rate home place = record { kind = kind; rate = rate; home = home; place = place; members = []; dual = None }

-- a pack with no member yet
abbrev pub pack_node : ℕ → Node
pack_node level = record { kind = kind.Pack level; rate = 0; home = 0; place = 0; members = []; dual = None }

-- a pack with one more member
abbrev pub joined : Node → ℕ → ℕ → Node
joined p member rate = record p { rate = p.rate + rate; members = p.members ++ member ∷ [] }

-- the pack with this dual
abbrev pub with_dual : Node → ℕ → Node
with_dual p dual = record p { dual = Some dual }

-- a new member at the end of pack p
abbrev pub join : Kind → ℕ → ℕ → Tree → Tree
join k rate p t = with_nodes t (slice_set t.nodes p (joined (node t p) (length t.nodes) rate) ++ member_node k rate p (length (members t p)) ∷ [])

-- the pack knows its dual
abbrev pub mark_dual : ℕ → ℕ → Tree → Tree
mark_dual p dual t = with_nodes t (slice_set t.nodes p (with_dual (node t p) dual))

-- a new member, which its primal knows where it is a dual
abbrev pub join_member : Kind → ℕ → ℕ → Tree → Tree
join_member (kind.Leaf leaf) rate p t = join (kind.Leaf leaf) rate p t
join_member (kind.Pack level) rate p t = t
join_member (kind.Dual primal) rate p t = mark_dual primal.0 (length t.nodes) (join (kind.Dual primal) rate p t)

-- a new pack at the end of the last level
abbrev pub opened : Making → Making
opened m = record { tree = with_nodes m.tree (m.tree.nodes ++ pack_node (m.tree.levels - 1) ∷ []); last = m.last ++ length m.tree.nodes ∷ [] }

-- a new member at the end of the last level's pack b
abbrev pub joined_at : Kind → ℕ → ℕ → Making → Making
joined_at k rate b m = record { tree = join_member k rate (slice_index_or m.last b 0) m.tree; last = m.last }

-- a new member in pack b, or in a new pack
abbrev pub put_in : Kind → ℕ → ℕ → Making → Bool → Making
put_in k rate b m true = joined_at k rate b m
put_in k rate b m false = joined_at k rate (length m.last) (opened m)

-- a new member at the end of the last level's pack b, which is new where b is their number
unfoldable pub put : Kind → ℕ → ℕ → Making → Making
put k rate b m = put_in k rate b m (nat_lt b (length m.last))

-- the rates of the last level's packs
abbrev pub last_rates : Making → List ℕ
last_rates m = map (λ p. rate m.tree p) m.last

-- the packs of the last level that aren't roots
abbrev pub lower_packs : Making → List ℕ
lower_packs m = filter (λ p. nat_lt (rate m.tree p) m.tree.scale) m.last

-- a new level, with no pack yet
abbrev pub new_level : Making → Making
new_level m = record { tree = record m.tree { levels = suc m.tree.levels }; last = [] }

-- what goes into a pack: a leaf or a dual, with its rate
pub record Item : Type 0 where
  pub kind : Kind
  pub rate : ℕ

-- the duals of these packs
abbrev pub dual_items : Tree → List ℕ → List Item
dual_items t packs = map (λ p. record { kind = kind.Dual (record { 0 = p }); rate = t.scale - rate t p }) packs

-- each item goes to the pack that is told
abbrev pub put_items : List Item → List ℕ → Making → Making
put_items [] homes m = m
put_items (x ∷ items) [] m = m
put_items (x ∷ items) (b ∷ homes) m = put_items items homes (put x.kind x.rate b m)

-- a new level with the duals of these packs, each in the home that is told
unfoldable pub lifted : List ℕ → List ℕ → Making → Making
lifted packs homes m = put_items (dual_items m.tree packs) homes (new_level m)
