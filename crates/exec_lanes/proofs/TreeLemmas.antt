-- Trees and nodes with the same parts.
use Rattle.std.proofs.Common.{◌≡◌, ℕ, ◌<◌, List, [], ◌∷◌, length, map, refl, sym, ap, ◌∙◌}
use Rattle.std.proofs.lemmas.List.{ext_get_or}
use Rattle.sched_base.specs.declared.rows.NodeId.{NodeId}
use Rattle.run_tree.specs.Tree.{Node, Tree, node as node_in, no_node, numbers}

of_numbers : (ids : List NodeId) → map (λ n. record { 0 = n }) (numbers ids) ≡ ids
of_numbers [] = refl
of_numbers (id ∷ ids) = ap (λ rest. id ∷ rest) (of_numbers ids)

-- lists with the same numbers are the same
pub same_numbers : (xs ys : List NodeId) → numbers xs ≡ numbers ys → xs ≡ ys
same_numbers xs ys same = sym (of_numbers xs) ∙ ap (λ ns. map (λ n. record { 0 = n }) ns) same ∙ of_numbers ys

-- nodes with the same parts are the same
pub same_node : (x y : Node) → x.kind ≡ y.kind → x.rate ≡ y.rate → x.home ≡ y.home → x.place ≡ y.place → x.members ≡ y.members → x.dual ≡ y.dual → x ≡ y
same_node x y kind rate home place members dual =
    λ i. record { kind = kind i; rate = rate i; home = home i; place = place i; members = members i; dual = dual i }

-- trees of the same size with the same nodes are the same
pub same_tree : (a b : Tree) → a.processors ≡ b.processors → a.scale ≡ b.scale → a.levels ≡ b.levels → length a.nodes ≡ length b.nodes →
    ((n : ℕ) → n < length a.nodes → node_in a n ≡ node_in b n) → a ≡ b
same_tree a b processors scale levels many each =
    let nodes : a.nodes ≡ b.nodes = ext_get_or no_node a.nodes b.nodes many each in
    λ i. record { processors = processors i; scale = scale i; levels = levels i; nodes = nodes i }
