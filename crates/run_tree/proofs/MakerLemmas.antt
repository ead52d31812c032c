-- What the maker of trees keeps.
use Rattle.std.proofs.Common.{◌≡◌, ℕ, suc, ◌+◌, ◌-◌, ◌<◌, ◌≤◌, Bool, nat_lt, List, [], ◌∷◌, ◌++◌, length, get_or, set, ap, subst, sym, ◌∙◌, refl}
use Rattle.std.proofs.Common.{arith, inl, inr, Result, Ok, Err, OnOk, OnErr, zero-add}
use Rattle.std.proofs.lemmas.Bool.{cases_lt}
use Rattle.std.proofs.lemmas.List.{get_or-map, length-map}
use Rattle.run_tree.proofs.PackLists.{filter_at, length-filter-le, length_apart}
use borrow.Author.Tests.{ltb-true}
use Rattle.sched_base.specs.declared.rows.Leaf.{Leaf}
use Rattle.sched_base.proofs.ListLemmas.{first_from}
use Rattle.run_tree.specs.declared.kinds.Kind.TheVariants as kind
use Rattle.run_tree.specs.Tree.{Tree, at_level, rate}
use Rattle.run_tree.specs.Schedule.{packs_at}
use Rattle.run_tree.specs.Making.{Making, lower_packs, with_nodes, member_node, pack_node, joined, joined_at, opened, put}
use Rattle.run_tree.specs.Growth.{Growth, node_in, with_pack, grown_at, grown}
use Rattle.run_tree.specs.Maker.{IsMaking, HasLevels, IsMaker, NamesLower, leaf_count, packs_named}
use Rattle.run_tree.proofs.Puts.{put_old, put_new}
use Rattle.run_tree.proofs.Grown.{grown_old, grown_new}
use Rattle.run_tree.proofs.NodeKinds.{packs_at_is, leaf_count_is}
use Rattle.run_tree.proofs.Growing.{IsStep, step_is}

-- the packs of the last level are nodes
pub last_in : (lower : List (List ℕ)) (m : Making) → HasLevels lower m → (i : ℕ) → i < length m.last → get_or m.last i 0 < length m.tree.nodes
last_in lower m h i l =
    let e : length m.last ≡ length (packs_at m.tree (length lower)) = ap length h.last in
    let r = first_from (at_level m.tree (length lower)) (length m.tree.nodes) 0 i (omega (arith, e)) in
    let g = ap (λ xs. get_or xs i 0) h.last in
    omega (arith, r.0, g)

-- ---- a leaf more

-- a making with the nodes and packs of a growth
abbrev pub making_with : Making → Growth → Making
making_with m g = record { tree = with_nodes m.tree g.nodes; last = g.packs }

abbrev pub growth_of : Making → Growth
growth_of m = record { nodes = m.tree.nodes; packs = m.last }

joined_is : (m : Making) (leaf : Leaf) (rate b : ℕ) → joined_at (kind.Leaf leaf) rate b m ≡ making_with m (grown_at 0 (kind.Leaf leaf) rate b (growth_of m))
joined_is m leaf rate b =
    let q : ℕ = get_or m.last b 0 in
    let e : q ≡ q - 0 = omega arith in
    let f : q ≡ 0 + (q - 0) = omega arith in
    let F : ℕ → ℕ → ℕ → Making = λ (i h n : ℕ). making_with m
    (record {
      nodes = set m.tree.nodes i (joined (node_in m.tree.nodes i) n rate) ++ member_node (kind.Leaf leaf) rate h
          (length (node_in m.tree.nodes i).members) ∷ [];
      packs = m.last;
    }) in
    ap (λ n. F q q n) (sym (zero-add (length m.tree.nodes))) ∙ ap (λ h. F q h (0 + length m.tree.nodes)) f
    ∙ ap (λ i. F i (0 + (q - 0)) (0 + length m.tree.nodes)) e

opened_is : (m : Making) → opened m ≡ making_with m (with_pack 0 (m.tree.levels - 1) (growth_of m))
opened_is m = ap (λ n. making_with m (record { nodes = m.tree.nodes ++ pack_node (m.tree.levels - 1) ∷ []; packs = m.last ++ n ∷ [] }))
    (sym (zero-add (length m.tree.nodes)))

pub put_leaf_is : (m : Making) (leaf : Leaf) (rate b : ℕ) → put (kind.Leaf leaf) rate b m ≡ making_with m (grown 0 (m.tree.levels - 1) (kind.Leaf leaf) rate
    b (growth_of m))
put_leaf_is m leaf rate b = elim (cases_lt b (length m.last)) [
  | inl l ↦ put_old (kind.Leaf leaf) rate b m l ∙ joined_is m leaf rate b ∙ ap (making_with m) (sym (grown_old 0 (m.tree.levels - 1) (kind.Leaf leaf) rate b
      (growth_of m) l))
  | inr l ↦
      put_new (kind.Leaf leaf) rate b m l
      ∙ ap (joined_at (kind.Leaf leaf) rate (length m.last)) (opened_is m)
      ∙ joined_is (making_with m (with_pack 0 (m.tree.levels - 1) (growth_of m))) leaf rate (length m.last)
      ∙ ap (making_with m) (sym (grown_new 0 (m.tree.levels - 1) (kind.Leaf leaf) rate b (growth_of m) l))
]

-- the limits stay with a leaf more
leaf_making : (lower : List (List ℕ)) (m : Making) (leaf : Leaf) (rate : ℕ) (h : Growth) → IsMaker lower m → m.tree.levels ≡ 1 → leaf_count m.tree < 1280 →
    IsStep 0 (m.tree.levels - 1) (kind.Leaf leaf) rate (growth_of m) h → IsMaking (making_with m h)
leaf_making lower m leaf rate h was only few s =
    let k = was.making in
    let before = leaf_count_is m.tree in
    let after = leaf_count_is (with_nodes m.tree h.nodes) in
    let leaves = s.leaves in
    let first_packs = k.first_packs only in
    let first_nodes = k.first_nodes only in
    let long = s.long in
    let one = s.one in
    let packs_few : length h.packs ≤ leaf_count (with_nodes m.tree h.nodes) = omega (arith, before, after, leaves, first_packs, one) in
    let nodes_few : length h.nodes ≡ leaf_count (with_nodes m.tree h.nodes) + length h.packs = omega (arith, before, after, leaves, first_nodes, long) in
    let grew : suc (length m.tree.nodes) ≤ length h.nodes = (let more = s.more in omega (arith, long, more)) in
    record {
      some_scale = k.some_scale;
      scale_fits = k.scale_fits;
      some_processors = k.some_processors;
      few_processors = k.few_processors;
      some_level = k.some_level;
      few_levels = k.few_levels;
      few_packs = omega (arith, packs_few, before, after, leaves, few);
      few_nodes = omega (arith, packs_few, nodes_few, before, after, leaves, few, only);
      few_members = λ p. let r = s.members (length m.tree.nodes) k.few_members p in omega (arith, r, grew);
      first_packs = λ _. packs_few;
      first_nodes = λ _. nodes_few;
    }

leaf_levels : (lower : List (List ℕ)) (m : Making) (leaf : Leaf) (rate : ℕ) (h : Growth) → HasLevels lower m → m.tree.levels ≡ 1 →
    IsStep 0 (m.tree.levels - 1) (kind.Leaf leaf) rate (growth_of m) h → HasLevels lower (making_with m h)
leaf_levels lower m leaf rate h was only s =
    let count = was.count in
    let level : m.tree.levels - 1 ≡ length lower = omega (arith, count) in
    let t : Tree = with_nodes m.tree h.nodes in
    record {
      count = was.count;
      below = λ l b. absurd (omega (arith, count, only, b));
      last =
          s.packs (was.last ∙ ap (packs_at m.tree) (sym level) ∙ packs_at_is m.tree (m.tree.levels - 1))
          ∙ sym (packs_at_is t (m.tree.levels - 1)) ∙ ap (packs_at t) level;
      above = λ l b. packs_at_is t l ∙ s.others l (λ e. omega (arith, e, b, only)) ∙ sym (packs_at_is m.tree l) ∙ was.above l b;
    }

pub leaf_kept : (lower : List (List ℕ)) (m : Making) (leaf : Leaf) (rate b : ℕ) → IsMaker lower m → m.tree.levels ≡ 1 → leaf_count m.tree < 1280 →
    IsMaker lower (making_with m (grown 0 (m.tree.levels - 1) (kind.Leaf leaf) rate b (growth_of m)))
leaf_kept lower m leaf rate b was only few =
    let s = step_is 0 (m.tree.levels - 1) (kind.Leaf leaf) rate b (growth_of m) refl in
    let h : Growth = grown 0 (m.tree.levels - 1) (kind.Leaf leaf) rate b (growth_of m) in
    record { making = leaf_making lower m leaf rate h was only few s; levels = leaf_levels lower m leaf rate h was.levels only s }

-- what holds both where a call went well and where it left all as it was
pub either_way : {T E : Type 0} (P : Growth → Type 0) (old new made : Growth) (r : Result T E) → P old → P made → OnOk r (new ≡ made) →
    OnErr r (new ≡ old) → P new
either_way P old new made (Ok x) was is ok err = subst P (sym ok) is
either_way P old new made (Err e) was is ok err = subst P (sym err) was

-- ---- what a level more is made of

-- packs that can have duals
pub record HaveDuals (m : Making) (packs : List ℕ) : Type 0 where
  pub few : length packs ≤ 1280
  pub nodes : (i : ℕ) → i < length packs → get_or packs i 0 < length m.tree.nodes
  pub rates : (i : ℕ) → i < length packs → rate m.tree (get_or packs i 0) ≤ m.tree.scale

pub lower_have : (lower : List (List ℕ)) (m : Making) (packs : List ℕ) → IsMaker lower m → packs ≡ lower_packs m → HaveDuals m packs
lower_have lower m packs was e =
    let passes : ℕ → Bool = λ p. nat_lt (rate m.tree p) m.tree.scale in
    let at = filter_at passes (λ p. p < length m.tree.nodes) m.last (last_in lower m was.levels) in
    let few = length-filter-le passes m.last in
    let few_last = was.making.few_packs in
    subst (HaveDuals m) (sym e) (record {
      few = omega (arith, few, few_last);
      nodes = λ i l. (at i l).0;
      rates = λ i l. let low = ltb-true (rate m.tree (get_or (lower_packs m) i 0)) m.tree.scale (at i l).1 in omega (arith, low);
    })

pub named_have : (lower : List (List ℕ)) (m : Making) (order packs : List ℕ) → IsMaker lower m → NamesLower m order → packs ≡ packs_named m order →
    HaveDuals m packs
named_have lower m order packs was names e =
    let place : ℕ → ℕ = λ i. get_or m.last i 0 in
    let long : length (packs_named m order) ≡ length order = length-map order place in
    let at : (k : ℕ) → k < length (packs_named m order) → get_or (packs_named m order) k 0 ≡ place (get_or order k 0) = λ k l. get_or-map place order k 0 0
    (omega (arith, l, long)) in
    let few = length_apart order (length m.last) (λ k l. (names.lower k l).0) names.once in
    let few_last = was.making.few_packs in
    subst (HaveDuals m) (sym e) (record {
      few = omega (arith, few, few_last, long);
      nodes = λ k l. let r = last_in lower m was.levels (get_or order k 0) (names.lower k (omega (arith, l, long))).0 in omega (arith, r, at k l);
      rates = λ k l. let r = (names.lower k (omega (arith, l, long))).1 in let f = ap (rate m.tree) (at k l) in omega (arith, r, f);
    })
