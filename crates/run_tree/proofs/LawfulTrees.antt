-- What the type of a tree keeps.
use Rattle.std.proofs.Common.{ℕ, ◌<◌, ◌≤◌, length, ap, arith, inl, inr}
use Rattle.std.specs.List.{range_with_len}
use Rattle.std.proofs.lemmas.Bool.{cases_Bool}
use Rattle.std.proofs.lemmas.List.FromFn.{length-range_with_len}
use Rattle.sched_base.proofs.SumLemmas.{term-le-sum_to}
use Rattle.run_tree.specs.Tree.{Tree, IsTree, at_level, is_pack, kind_at, home, place, members, member, rate}
use Rattle.run_tree.specs.Schedule.{packs_at}
use Rattle.run_tree.specs.Making.{Making}
use Rattle.run_tree.specs.Maker.{IsMaking}
use Rattle.run_tree.specs.Plans.{IsLawfulTree}
use Rattle.run_tree.proofs.PackLists.{length-filter-le}

-- no node's rate exceeds the scale
pub rate-le : (t : Tree) → IsTree t → (x : ℕ) → x < length t.nodes → rate t x ≤ t.scale
rate-le t h x l = elim (cases_Bool (is_pack (kind_at t x))) [
  | inl pack ↦ h.within x (l, pack)
  | inr other ↦
      (let at = h.homes_are x (l, other) in
      let p : ℕ = home t x in
      let one = term-le-sum_to (length (members t p)) (λ k. rate t (member t p k)) (place t x) at.1 in
      let is = ap (rate t) at.2 in
      let all = h.summed p at.0 in
      let within = h.within p at.0 in
      omega (arith, one, is, all, within))
]

pub tree_is_lawful : (m : Making) → IsTree m.tree → IsMaking m → IsLawfulTree m.tree
tree_is_lawful m h k = record {
  tree = h;
  sized = record {
    scale_fits = k.scale_fits;
    some_processors = k.some_processors;
    few_processors = k.few_processors;
    few_nodes = (let nodes = k.few_nodes in let levels = k.few_levels in omega (arith, nodes, levels));
    rates = rate-le m.tree h;
  };
}

-- no level has more packs than the tree has nodes
pub length-packs_at-le : (t : Tree) (l : ℕ) → length (packs_at t l) ≤ length t.nodes
length-packs_at-le t l =
    let all = length-range_with_len 0 (length t.nodes) in
    let few = length-filter-le (at_level t l) (range_with_len 0 (length t.nodes)) in
    omega (arith, all, few)
