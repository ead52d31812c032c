-- What a new pack leaves.
use Rattle.std.proofs.Common.{◌≡◌, ℕ, suc, ◌<◌, ◌≢◌, false, List, [], ◌∷◌, ◌++◌, length, get_or, set, refl, ap, arith, inl, inr, sym, subst, subst₂, ◌∙◌}
use Rattle.std.proofs.lemmas.Bool.{cases_eq, both_ways}
use Rattle.std.proofs.lemmas.List.{get_or_append_left, get_or_push, length-append, get_or-set_same, get_or-set_other, length-set}
use Rattle.sched_base.specs.Counting.{sum_to}
use Rattle.run_tree.proofs.KindLemmas.{not_pack_leaf}
use Rattle.run_tree.specs.declared.kinds.Kind.{Kind}
use Rattle.run_tree.specs.Tree.{Node, Tree, node, kind_at, rate, home, place, members, member, level, is_pack, no_node, IsPack, IsMember}
use Rattle.run_tree.specs.Making.{member_node, pack_node, joined, join, with_nodes}
use Rattle.sched_base.proofs.SumLemmas.{sum_to-same}
use Rattle.tree_laws.proofs.NodeParts.{node_rate, node_home, node_place, node_members, node_level, is_pack_node, is_leaf_node}
use Rattle.tree_laws.proofs.NewMember.{Joins, IsMade}

-- one pack more, of level l, with no member yet
abbrev pub open_pack : ℕ → Tree → Tree
open_pack l t = with_nodes t (t.nodes ++ pack_node l ∷ [])

-- nodes that stood before an open stand after it
pub open_old : (l : ℕ) (s : Tree) (x : ℕ) → x < length s.nodes → node (open_pack l s) x ≡ node s x
open_old l s x b = get_or_append_left s.nodes (pack_node l ∷ []) _ x b

pub open_new : (l : ℕ) (s : Tree) → node (open_pack l s) (length s.nodes) ≡ pack_node l
open_new l s = get_or_push s.nodes (pack_node l) _ (length s.nodes) refl

pub open_long : (l : ℕ) (s : Tree) → length (open_pack l s).nodes ≡ suc (length s.nodes)
open_long l s = omega (arith, length-append s.nodes (pack_node l ∷ []))

module _ (l : ℕ) (s : Tree) (h : IsMade s) (low : l < s.levels) where
  abbrev pub t : Tree
  t = open_pack l s

  abbrev pub n : ℕ
  n = length s.nodes

  pub opened_below : (x : ℕ) → x < length t.nodes → x ≢ n → x < n
  opened_below x b ne = let e = open_long l s in omega (arith, e, b, ne)

  pub new_node : (x : ℕ) → x ≡ n → node t x ≡ pack_node l
  new_node x e = ap (node t) e ∙ open_new l s

  pub opened_pack : (q : ℕ) → IsPack s q → IsPack t q
  opened_pack q i = ((let e = open_long l s in let b = i.0 in omega (arith, e, b)), ap is_pack_node (open_old l s q i.0) ∙ i.1)

  pub old_member : (x : ℕ) → IsMember t x → IsMember s x
  old_member x i =
      elim (cases_eq x n) [
        | inl e ↦ absurd (both_ways (is_pack (kind_at t x)) i.1 (ap is_pack_node (new_node x e)))
        | inr ne ↦ (let b = opened_below x i.0 ne in (b, sym (ap is_pack_node (open_old l s x b)) ∙ i.1))
      ]

  pub opened_member : (x : ℕ) → IsMember s x → IsMember t x
  opened_member x i = ((let e = open_long l s in let b = i.0 in omega (arith, e, b)), ap is_pack_node (open_old l s x i.0) ∙ i.1)

  pub opened : IsMade t
  opened = record {
    leveled = λ q i. elim (cases_eq q n) [
      | inl e ↦ (let a = ap node_level (new_node q e) in omega (arith, a, low))
      | inr ne ↦ (let b = opened_below q i.0 ne in let a = ap node_level (open_old l s q b) in let d = h.leveled q (
        b,
        sym (ap is_pack_node (open_old l s q b)) ∙ i.1,
      ) in omega (arith, a, d))
    ];
    summed = λ q i. elim (cases_eq q n) [
      | inl e ↦ ap (λ x. sum_to (length (node_members x)) (λ k. rate t (get_or (node_members x) k 0))) (new_node q e) ∙ sym (ap node_rate (new_node q e))
      | inr ne ↦ (let b = opened_below q i.0 ne in let is : IsPack s q = (b, sym (ap is_pack_node (open_old l s q b)) ∙ i.1) in
          ap (λ x. sum_to (length (node_members x)) (λ k. rate t (get_or (node_members x) k 0))) (open_old l s q b)
          ∙ sum_to-same (length (members s q)) (λ k. rate t (member s q k)) (λ k. rate s (member s q k)) (λ k lk. ap node_rate (open_old l s (member s q k)
          (h.members_are q k is lk).0.0))
          ∙ h.summed q is ∙ sym (ap node_rate (open_old l s q b)))
    ];
    within = λ q i. elim (cases_eq q n) [
      | inl e ↦ (let a = ap node_rate (new_node q e) in omega (arith, a))
      | inr ne ↦ (let b = opened_below q i.0 ne in let a = ap node_rate (open_old l s q b) in let d = h.within q (
        b,
        sym (ap is_pack_node (open_old l s q b)) ∙ i.1,
      ) in omega (arith, a, d))
    ];
    members_are = λ q k i lk. elim (cases_eq q n) [
      | inl e ↦ absurd (let a = ap (λ x. length (node_members x)) (new_node q e) in omega (arith, a, lk))
      | inr ne ↦ (let b = opened_below q i.0 ne in
          let is : IsPack s q = (b, sym (ap is_pack_node (open_old l s q b)) ∙ i.1) in
          let P : List ℕ → Type 0 = λ ms. k < length ms → IsMember t (get_or ms k 0) × (home t (get_or ms k 0) ≡ q) × (place t (get_or ms k 0) ≡ k) in
          subst P (sym (ap node_members (open_old l s q b))) (λ lk'. (let m = h.members_are q k is lk' in let o = open_old l s (member s q k) m.0.0 in
          (opened_member (member s q k) m.0, ap node_home o ∙ m.1, ap node_place o ∙ m.2))) lk)
    ];
    homes_are = λ x i. (
        let is = old_member x i in
        let m = h.homes_are x is in
        let o = open_old l s x is.0 in
        let Q : ℕ → ℕ → Type 0 = λ a b. IsPack t a × (b < length (members t a)) × (member t a b ≡ x) in
        subst₂ Q (sym (ap node_home o)) (sym (ap node_place o)) (
          opened_pack (home s x) m.0,
          (let e = ap (λ y. length (node_members y)) (open_old l s (home s x) m.0.0) in let b = m.1 in omega (arith, e, b)),
          ap (λ y. get_or (node_members y) (place s x) 0) (open_old l s (home s x) m.0.0) ∙ m.2,
        ));
    leaves_are = λ x i. (
        let is = old_member x (i.0, not_pack_leaf (kind_at t x) i.1) in
        let o = open_old l s x is.0 in
        let m = h.leaves_are x (is.0, sym (ap is_leaf_node o) ∙ i.1) in
        let up = h.homes_are x is in
        (ap (level t) (ap node_home o) ∙ ap node_level (open_old l s (home s x) up.0.0) ∙ m.0, (let a = ap node_rate o in let b = m.1 in omega (arith, a, b))));
  }

-- the join of the definition
pub join_joins : (c : Kind) (r p : ℕ) (s : Tree) → IsPack s p → is_pack c ≡ false → Joins s (join c r p s) p r c
join_joins c r p s i no_pack = record {
  scale_same = refl;
  levels_same = refl;
  long = join_long;
  is_p = i;
  no_pack = no_pack;
  packs = λ x b. over is_pack_node x b refl;
  leaves = λ x b. over is_leaf_node x b refl;
  levels = λ x b. over node_level x b refl;
  homes = λ x b. over node_home x b refl;
  places = λ x b. over node_place x b refl;
  rates = λ x b ne. ap node_rate (elsewhere x b ne);
  rate_here = ap node_rate here;
  others = λ x b ne. ap node_members (elsewhere x b ne);
  here = ap node_members here;
  added = get_or_push (set s.nodes p (joined (node s p) (length s.nodes) r)) (member_node c r p (length (members s p))) _ (length s.nodes)
      (length-set s.nodes p (joined (node s p) (length s.nodes) r));
}
  where
    join_long : length (join c r p s).nodes ≡ suc (length s.nodes)
    join_long = omega (
      arith,
      length-append (set s.nodes p (joined (node s p) (length s.nodes) r)) (member_node c r p (length (members s p)) ∷ []),
      length-set s.nodes p (joined (node s p) (length s.nodes) r),
    )

    front : (x : ℕ) → x < length s.nodes → node (join c r p s) x ≡ get_or (set s.nodes p (joined (node s p) (length s.nodes) r)) x no_node
    front x b = get_or_append_left (set s.nodes p (joined (node s p) (length s.nodes) r)) _ _ x
        (omega (arith, b, length-set s.nodes p (joined (node s p) (length s.nodes) r)))

    elsewhere : (x : ℕ) → x < length s.nodes → x ≢ p → node (join c r p s) x ≡ node s x
    elsewhere x b ne = front x b ∙ get_or-set_other s.nodes p x (joined (node s p) (length s.nodes) r) _ ne

    here : node (join c r p s) p ≡ joined (node s p) (length s.nodes) r
    here = front p i.0 ∙ get_or-set_same s.nodes p (joined (node s p) (length s.nodes) r) _ i.0

    over : {A : Type 0} (f : Node → A) (x : ℕ) → x < length s.nodes → f (joined (node s p) (length s.nodes) r) ≡ f (node s p) →
        f (node (join c r p s) x) ≡ f (node s x)
    over f x b same = elim (cases_eq x p) [
      | inl e ↦ ap (λ y. f (node (join c r p s) y)) e ∙ ap f here ∙ same ∙ sym (ap (λ y. f (node s y)) e)
      | inr ne ↦ ap
          f (elsewhere x b ne)
    ]
