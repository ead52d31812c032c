-- A tree in the making, step by step.
use Rattle.std.proofs.Common.{◌≡◌, ℕ, suc, ◌+◌, ◌-◌, ◌<◌, ◌≢◌, List, [], ◌∷◌, length, get_or, set, Some, None, refl, ap, arith, ◌⊎◌, inl, inr, sym, subst, ◌∙◌}
use Rattle.std.proofs.lemmas.Bool.{cases_eq, cases_lt}
use Rattle.std.proofs.lemmas.List.{get_or_append_left, get_or_push, length-append, get_or-set_same, get_or-set_other, length-set}
use Rattle.sched_base.specs.declared.rows.Leaf.{Leaf}
use Rattle.run_tree.specs.declared.kinds.Kind.{Kind}
use Rattle.run_tree.specs.declared.kinds.Kind.TheVariants as kind
use Rattle.run_tree.specs.Tree.{Node, Tree, node, rate, dual, level, no_node, IsPack}
use Rattle.run_tree.specs.Making.{joined, with_dual, join, join_member, mark_dual, Making, opened}
use Rattle.tree_laws.proofs.NodeParts.{node_rate, node_home, node_place, node_members, node_dual, node_level, node_primal, is_pack_node, is_leaf_node}
use Rattle.tree_laws.proofs.NodeParts.{is_dual_node, node_id}
use Rattle.tree_laws.proofs.NewMember.{Joins, IsMade, old_pack, new_pack}
use Rattle.tree_laws.proofs.NewPack.{open_pack, open_old, open_new, open_long, opened_below, opened_pack, join_joins}
use Rattle.tree_laws.proofs.NewPack as opens
use Rattle.tree_laws.proofs.Duals.{HasDuals, Keeps, open_duals}

-- the pack that a new dual names
abbrev pub Names : Kind → ℕ → Type 0
Names (kind.Leaf leaf) x = ⊥
Names (kind.Pack level) x = ⊥
Names (kind.Dual primal) x = x ≡ primal.0

-- what a member that is joined leaves
pub record Grows (s t : Tree) (p r : ℕ) (c : Kind) : Type 0 where
  pub joins : Joins s t p r c
  pub keeps : Keeps s t
  pub dual_same : (x : ℕ) → x < length s.nodes → (Names c x → ⊥) → dual t x ≡ dual s x
  pub dual_named : (x : ℕ) → x < length s.nodes → Names c x → dual t x ≡ Some (length s.nodes)

pub join_over : {A : Type 0} (f : Node → A) (c : Kind) (r p : ℕ) (s : Tree) → IsPack s p → f (joined (node s p) (length s.nodes) r) ≡ f (node s p) →
    (x : ℕ) → x < length s.nodes → f (node (join c r p s) x) ≡ f (node s x)
join_over f c r p s i same x b =
    let front : node (join c r p s) x ≡ get_or (set s.nodes p (joined (node s p) (length s.nodes) r)) x no_node =
    get_or_append_left (set s.nodes p (joined (node s p) (length s.nodes) r)) _ _ x
    (omega (arith, b, length-set s.nodes p (joined (node s p) (length s.nodes) r))) in
    elim (cases_eq x p) [
      | inl e ↦ ap f (front ∙ ap (λ y. get_or (set s.nodes p (joined (node s p) (length s.nodes) r)) y no_node) e ∙ get_or-set_same s.nodes p
          (joined (node s p) (length s.nodes) r) _ i.0) ∙ same ∙ sym (ap (λ y. f (node s y)) e)
      | inr ne ↦ ap f (front ∙ get_or-set_other s.nodes p x (joined (node s p) (length s.nodes) r) _ ne)
    ]

-- marking changes duals alone
module _ (q d : ℕ) (u : Tree) (i : IsPack u q) where
  pub mark_other : (x : ℕ) → x ≢ q → node (mark_dual q d u) x ≡ node u x
  mark_other x ne = get_or-set_other u.nodes q x (with_dual (node u q) d) _ ne

  pub mark_here : node (mark_dual q d u) q ≡ with_dual (node u q) d
  mark_here = get_or-set_same u.nodes q (with_dual (node u q) d) _ i.0

  pub mark_over : {A : Type 0} (f : Node → A) → f (with_dual (node u q) d) ≡ f (node u q) → (x : ℕ) → f (node (mark_dual q d u) x) ≡ f (node u x)
  mark_over f same x = elim (cases_eq x q) [
    | inl e ↦ ap (λ y. f (node (mark_dual q d u) y)) e ∙ ap f mark_here ∙ same ∙ sym (ap (λ y. f (node u y)) e)
    | inr
        ne ↦ ap f (mark_other x ne)
  ]

pub mark_joins : (s u : Tree) (p q r d : ℕ) (c : Kind) → Joins s u p r c → q < length s.nodes → IsPack u q → Joins s (mark_dual q d u) p r c
mark_joins s u p q r d c j below i = record {
  scale_same = j.scale_same;
  levels_same = j.levels_same;
  long = length-set u.nodes q (with_dual (node u q) d) ∙ j.long;
  is_p = j.is_p;
  no_pack = j.no_pack;
  packs = λ x b. mark_over q d u i is_pack_node refl x ∙ j.packs x b;
  leaves = λ x b. mark_over q d u i is_leaf_node refl x ∙ j.leaves x b;
  levels = λ x b. mark_over q d u i node_level refl x ∙ j.levels x b;
  homes = λ x b. mark_over q d u i node_home refl x ∙ j.homes x b;
  places = λ x b. mark_over q d u i node_place refl x ∙ j.places x b;
  rates = λ x b ne. mark_over q d u i node_rate refl x ∙ j.rates x b ne;
  rate_here = mark_over q d u i node_rate refl p ∙ j.rate_here;
  others = λ x b ne. mark_over q d u i node_members refl x ∙ j.others x b ne;
  here = mark_over q d u i node_members refl p ∙ j.here;
  added = mark_other q d u i (length s.nodes) (λ e. omega (arith, e, below)) ∙ j.added;
}

pub leaf_grows : (leaf : Leaf) (r p : ℕ) (s : Tree) → IsPack s p → Grows s (join_member (kind.Leaf leaf) r p s) p r (kind.Leaf leaf)
leaf_grows leaf r p s i = record {
  joins = join_joins (kind.Leaf leaf) r p s i refl;
  keeps = record { duals = join_over is_dual_node (kind.Leaf leaf) r p s i refl; primals = join_over node_primal (kind.Leaf leaf) r p s i refl };
  dual_same = λ x b no. join_over node_dual (kind.Leaf leaf) r p s i refl x b;
  dual_named = λ x b name. absurd name;
}

pub dual_grows : (q r p : ℕ) (s : Tree) → IsPack s p → IsPack s q → Grows s (join_member (kind.Dual (node_id q)) r p s) p r (kind.Dual (node_id q))
dual_grows q r p s i is_q =
    let u : Tree = join (kind.Dual (node_id q)) r p s in
    let j = join_joins (kind.Dual (node_id q)) r p s i refl in
    let d = length s.nodes in
    let iu : IsPack u q = ((let a = is_q.0 in let b = j.long in omega (arith, a, b)), j.packs q is_q.0 ∙ is_q.1) in
    record {
      joins = mark_joins s u p q r d (kind.Dual (node_id q)) j is_q.0 iu;
      keeps = record {
        duals = λ x b. mark_over q d u iu is_dual_node refl x ∙ join_over is_dual_node (kind.Dual (node_id q)) r p s i refl x b;
        primals = λ x b. mark_over q d u iu node_primal refl x ∙ join_over node_primal (kind.Dual (node_id q)) r p s i refl x b;
      };
      dual_same = λ x b no. ap node_dual (mark_other q d u iu x no) ∙ join_over node_dual (kind.Dual (node_id q)) r p s i refl x b;
      dual_named = λ x b name. ap (dual (mark_dual q d u)) name ∙ ap node_dual (mark_here q d u iu);
    }

-- ---- the whole

abbrev pub last_at : Making → ℕ → ℕ
last_at m i = get_or m.last i 0

abbrev pub Among : ℕ → List ℕ → Type 0
Among p qs = (i : ℕ) × (i < length qs) × (get_or qs i 0 ≡ p)

-- a tree in the making, where the packs `qs` of the level below the last still wait for their duals
pub record IsMaking (m : Making) (qs : List ℕ) : Type 0 where
  pub made : IsMade m.tree
  pub duals : HasDuals m.tree
  pub some_level : 0 < m.tree.levels
  pub last_packs : (i : ℕ) → i < length m.last → IsPack m.tree (last_at m i) × (suc (level m.tree (last_at m i)) ≡ m.tree.levels)
      × (dual m.tree (last_at m i) ≡ None)
  pub last_all : (p : ℕ) → IsPack m.tree p → suc (level m.tree p) ≡ m.tree.levels → Among p m.last
  pub last_apart : (i j : ℕ) → i < length m.last → j < length m.last → last_at m i ≡ last_at m j → i ≡ j
  pub pairs_below : (p q : ℕ) → IsPack m.tree p → IsPack m.tree q → p ≢ q → level m.tree p ≡ level m.tree q → suc (level m.tree p) < m.tree.levels →
      m.tree.scale < rate m.tree p + rate m.tree q
  pub roots_below : (p : ℕ) → IsPack m.tree p → suc (level m.tree p) < m.tree.levels → dual m.tree p ≡ None → (rate m.tree p ≡ m.tree.scale) ⊎ Among p qs
  pub each_below : (l : ℕ) → suc l < m.tree.levels → (p : ℕ) × IsPack m.tree p × (level m.tree p ≡ l)
  pub waiting : (i : ℕ) → i < length qs → IsPack m.tree (get_or qs i 0) × (suc (suc (level m.tree (get_or qs i 0))) ≡ m.tree.levels)
      × (dual m.tree (get_or qs i 0) ≡ None) × (rate m.tree (get_or qs i 0) < m.tree.scale)
  pub apart : (i j : ℕ) → i < length qs → j < length qs → get_or qs i 0 ≡ get_or qs j 0 → i ≡ j

-- how a member changes what waits
pub record Serves (c : Kind) (before after : List ℕ) : Type 0 where
  pub rest : (p : ℕ) → Among p before → Names c p ⊎ Among p after
  pub was : (i : ℕ) → i < length after → (j : ℕ) × (j < length before) × (get_or after i 0 ≡ get_or before j 0) × (Names c (get_or after i 0) → ⊥)
  pub apart : (i j : ℕ) → i < length after → j < length after → get_or after i 0 ≡ get_or after j 0 → i ≡ j

pub step_join : (m : Making) (t : Tree) (qs rs : List ℕ) (c : Kind) (r b : ℕ) → IsMaking m qs → Grows m.tree t (last_at m b) r c → b < length m.last →
    IsMade t → HasDuals t → Serves c qs rs →
    ((j : ℕ) → j < length m.last → Names c (last_at m j) → ⊥) → IsMaking (record { tree = t; last = m.last }) rs
step_join m t qs rs c r b h g lb made' duals' serves no_last = record {
  made = made';
  duals = duals';
  some_level = (let a = h.some_level in let z = g.joins.levels_same in omega (arith, a, z));
  last_packs = λ i l. (let a = h.last_packs i l in
      (new a.0, ap suc (g.joins.levels (last_at m i) a.0.0) ∙ a.1 ∙ sym g.joins.levels_same, g.dual_same (last_at m i) a.0.0 (no_last i l) ∙ a.2));
  last_all = λ p i top. (let is = old p i in h.last_all p is (ap suc (sym (g.joins.levels p is.0)) ∙ top ∙ g.joins.levels_same));
  last_apart = h.last_apart;
  pairs_below = λ p q i j ne same low. (
      let ip = old p i in let iq = old q j in
      let lp = g.joins.levels p ip.0 in let lq = g.joins.levels q iq.0 in
      let z = g.joins.levels_same in let s = g.joins.scale_same in
      let low' : suc (level m.tree p) < m.tree.levels = omega (arith, low, lp, z) in
      let a = h.pairs_below p q ip iq ne (sym lp ∙ same ∙ lq) low' in
      let rp = g.joins.rates p ip.0 (no_top p ip low') in
      let rq = g.joins.rates q iq.0 (no_top q iq (omega (arith, low', lp, lq, same))) in
      omega (arith, a, rp, rq, s));
  roots_below = λ p i low none. (
      let is = old p i in
      let lp = g.joins.levels p is.0 in let z = g.joins.levels_same in let s = g.joins.scale_same in
      let low' : suc (level m.tree p) < m.tree.levels = omega (arith, low, lp, z) in
      let no : Names c p → ⊥ = (λ name. let e : None ≡ Some (length m.tree.nodes) = sym none ∙ g.dual_named p is.0 name in cc) in
      root p is low' no (h.roots_below p is low' (sym (g.dual_same p is.0 no) ∙ none)));
  each_below = λ l low. (let z = g.joins.levels_same in let (p, i, at) = h.each_below l (omega (arith, low, z)) in (p, new i, g.joins.levels p i.0 ∙ at));
  waiting = λ i l. (let (j, lj, e, free) = serves.was i l in
      let P : ℕ → Type 0 = λ x. (Names c x → ⊥) → IsPack t x × (suc (suc (level t x)) ≡ t.levels) × (dual t x ≡ None) × (rate t x < t.scale) in
      subst P (sym e) (λ no'. (let a = h.waiting j lj in let x = get_or qs j 0 in (
        new a.0,
        ap (λ y. suc (suc y)) (g.joins.levels x a.0.0) ∙ a.1 ∙ sym g.joins.levels_same,
        g.dual_same x a.0.0 no' ∙ a.2,
        (let rx = g.joins.rates x a.0.0 (no_top x a.0 (let w = a.1 in omega (arith, w))) in let s = g.joins.scale_same in let w = a.3 in
            omega (arith, rx, s, w)),
      ))) free);
  apart = serves.apart;
}
  where
    new : {p : ℕ} → IsPack m.tree p → IsPack t p
    new {p} i = new_pack m.tree t (last_at m b) r c g.joins h.made p i

    old : (p : ℕ) → IsPack t p → IsPack m.tree p
    old p i = old_pack m.tree t (last_at m b) r c g.joins h.made p i

    no_top : (p : ℕ) → IsPack m.tree p → suc (level m.tree p) < m.tree.levels → p ≢ last_at m b
    no_top p i low e = let a = (h.last_packs b lb).1 in let f = ap (level m.tree) e in omega (arith, a, f, low)

    root : (p : ℕ) → IsPack m.tree p → suc (level m.tree p) < m.tree.levels → (Names c p → ⊥) → (rate m.tree p ≡ m.tree.scale) ⊎ Among p qs →
        (rate t p ≡ t.scale) ⊎ Among p rs
    root p i low free (inl e) = inl (g.joins.rates p i.0 (no_top p i low) ∙ e ∙ sym g.joins.scale_same)
    root p i low free (inr a) = elim (serves.rest p a) [ inl name ↦ absurd (free name) | inr more ↦ inr more ]

-- a new pack
module _ (m : Making) (qs : List ℕ) (h : IsMaking m qs) where
  abbrev pub l : ℕ
  l = m.tree.levels - 1

  abbrev pub s : Tree
  s = m.tree

  abbrev pub t : Tree
  t = open_pack l s

  abbrev pub n : ℕ
  n = length s.nodes

  pub low : l < s.levels
  low = let a = h.some_level in omega (arith, a)

  pub below : (p : ℕ) → IsPack t p → p ≢ n → p < n
  below p i ne = opened_below l s h.made low p i.0 ne

  pub new : (p : ℕ) → IsPack s p → IsPack t p
  new p i = opened_pack l s h.made low p i

  pub top : (p : ℕ) → p ≡ n → suc (level t p) < s.levels → ⊥
  top p e lo = let a = ap (level t) e in let b = ap node_level (open_new l s) in let z = h.some_level in omega (arith, a, b, lo, z)

  pub root : (p : ℕ) → rate t p ≡ rate s p → (rate s p ≡ s.scale) ⊎ Among p qs → (rate t p ≡ s.scale) ⊎ Among p qs
  root p e (inl f) = inl (e ∙ f)
  root p e (inr a) = inr a

  pub step_open : IsMaking (opened m) qs
  step_open = record {
    made = opens.opened l s h.made low;
    duals = open_duals l s h.made low h.duals;
    some_level = h.some_level;
    last_packs = λ i b. elim (cases_lt i (length m.last)) [
      | inl lb ↦ (let P : ℕ → Type 0 = λ x. IsPack t x × (suc (level t x) ≡ s.levels) × (dual t x ≡ None) in
          subst P (sym (get_or_append_left m.last (n ∷ []) 0 i lb))
          (let a = h.last_packs i lb in let o = open_old l s (last_at m i) a.0.0 in (
            new (last_at m i) a.0,
            ap (λ y. suc (node_level y)) o ∙ a.1,
            ap node_dual o ∙ a.2,
          )))
      | inr ge ↦ (let e : length m.last ≡ i = (let long = length-append m.last (n ∷ []) in omega (arith, b, ge, long)) in
          let P : ℕ → Type 0 = λ x. IsPack t x × (suc (level t x) ≡ s.levels) × (dual t x ≡ None) in
          subst P (sym (get_or_push m.last n 0 i e)) (
            (let g = open_long l s in let z : n < length t.nodes = omega (arith, g) in z, ap is_pack_node (open_new l s)),
            (let a = ap node_level (open_new l s) in let z = h.some_level in omega (arith, a, z)),
            ap node_dual (open_new l s),
          ))
    ];
    last_all = λ p i top. elim (cases_eq p n) [
      | inl e ↦ (length m.last, (let long = length-append m.last (n ∷ []) in omega (arith, long)), get_or_push m.last n 0 (length m.last) refl ∙ sym e)
      | inr ne ↦ (let b = below p i ne in
          let o = open_old l s p b in
          let (k, lk, e) = h.last_all p (b, sym (ap is_pack_node o) ∙ i.1) (ap (λ y. suc (node_level y)) (sym o) ∙ top) in
          (k, (let long = length-append m.last (n ∷ []) in omega (arith, long, lk)), get_or_append_left m.last (n ∷ []) 0 k lk ∙ e))
    ];
    last_apart = λ i j bi bj e. (
        let long = length-append m.last (n ∷ []) in
        elim (cases_lt i (length m.last)) [
          | inl li ↦ elim (cases_lt j (length m.last)) [
            | inl lj ↦ h.last_apart i j li lj (sym (get_or_append_left m.last (n ∷ []) 0 i li) ∙ e ∙ get_or_append_left m.last (n ∷ []) 0 j lj)
            | inr gj ↦ absurd (let f = sym (get_or_append_left m.last (n ∷ []) 0 i li) ∙ e ∙ get_or_push m.last n 0 j (omega (arith, bj, gj, long)) in
                let a = (h.last_packs i li).0.0 in omega (arith, f, a))
          ]
          | inr gi ↦ elim (cases_lt j (length m.last)) [
            | inl lj ↦ absurd (let f = sym (get_or_append_left m.last (n ∷ []) 0 j lj) ∙ sym e ∙ get_or_push m.last n 0 i (omega (arith, bi, gi, long)) in
                let a = (h.last_packs j lj).0.0 in omega (arith, f, a))
            | inr gj ↦ omega (arith, bi, bj, gi, gj, long)
          ]
        ]);
    pairs_below = λ p q i j ne same lo. elim (cases_eq p n) [
      | inl e ↦ absurd (top p e lo)
      | inr np ↦ elim (cases_eq q n) [
        | inl e ↦ absurd (top q e (omega (arith, lo, same)))
        | inr nq ↦ (let bp = below p i np in let bq = below q j nq in let op = open_old l s p bp in let oq = open_old l s q bq in
            let a = h.pairs_below p q (bp, sym (ap is_pack_node op) ∙ i.1) (bq, sym (ap is_pack_node oq) ∙ j.1) ne (sym (ap node_level op) ∙ same
            ∙ ap node_level oq) (let z = ap node_level op in omega (arith, lo, z)) in
            let rp = ap node_rate op in let rq = ap node_rate oq in omega (arith, a, rp, rq))
      ]
    ];
    roots_below = λ p i lo none. elim (cases_eq p n) [
      | inl e ↦ absurd (top p e lo)
      | inr np ↦ (let b = below p i np in let o = open_old l s p b in
          root p (ap node_rate o) (h.roots_below p (b, sym (ap is_pack_node o) ∙ i.1) (let z = ap node_level o in omega (arith, lo, z))
          (sym (ap node_dual o) ∙ none)))
    ];
    each_below = λ k lo. (let (p, i, at) = h.each_below k lo in (p, new p i, ap node_level (open_old l s p i.0) ∙ at));
    waiting = λ i b. (let a = h.waiting i b in let o = open_old l s (get_or qs i 0) a.0.0 in (
      new (get_or qs i 0) a.0,
      ap (λ y. suc (suc (node_level y))) o ∙ a.1,
      ap node_dual o ∙ a.2,
      (let r = ap node_rate o in let w = a.3 in
          omega (arith, r, w)),
    ));
    apart = h.apart;
  }
