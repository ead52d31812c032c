-- What a new member leaves.
use Rattle.std.proofs.Common.{◌≡◌, ℕ, suc, ◌+◌, ◌<◌, ◌≤◌, ◌≢◌, true, false, List, [], ◌∷◌, ◌++◌, length, get_or, refl, ap, arith, inl, inr, sym}
use Rattle.std.proofs.Common.{subst, subst₂, ◌∙◌}
use Rattle.std.proofs.lemmas.Bool.{cases_eq, cases_lt, both_ways}
use Rattle.std.proofs.lemmas.List.{get_or_append_left, get_or_push, length-append}
use Rattle.sched_base.specs.Counting.{sum_to}
use Rattle.run_tree.proofs.KindLemmas.{not_pack_leaf}
use Rattle.run_tree.specs.declared.kinds.Kind.{Kind}
use Rattle.run_tree.specs.declared.kinds.Kind.TheVariants as kind
use Rattle.run_tree.specs.Tree.{Tree, node, kind_at, rate, home, place, members, member, level, is_pack, is_leaf, IsPack, IsLeaf, IsMember}
use Rattle.run_tree.specs.Making.{member_node}
use Rattle.sched_base.proofs.SumLemmas.{sum_to-same}
use Rattle.tree_laws.proofs.NodeParts.{node_rate, node_home, node_place, is_pack_node, is_leaf_node}

-- t is s with one more member, of kind c and rate r, at the end of pack p
pub record Joins (s t : Tree) (p r : ℕ) (c : Kind) : Type 0 where
  pub scale_same : t.scale ≡ s.scale
  pub levels_same : t.levels ≡ s.levels
  pub long : length t.nodes ≡ suc (length s.nodes)
  pub is_p : IsPack s p
  pub no_pack : is_pack c ≡ false
  pub packs : (x : ℕ) → x < length s.nodes → is_pack (kind_at t x) ≡ is_pack (kind_at s x)
  pub leaves : (x : ℕ) → x < length s.nodes → is_leaf (kind_at t x) ≡ is_leaf (kind_at s x)
  pub levels : (x : ℕ) → x < length s.nodes → level t x ≡ level s x
  pub homes : (x : ℕ) → x < length s.nodes → home t x ≡ home s x
  pub places : (x : ℕ) → x < length s.nodes → place t x ≡ place s x
  pub rates : (x : ℕ) → x < length s.nodes → x ≢ p → rate t x ≡ rate s x
  pub rate_here : rate t p ≡ rate s p + r
  pub others : (x : ℕ) → x < length s.nodes → x ≢ p → members t x ≡ members s x
  pub here : members t p ≡ members s p ++ length s.nodes ∷ []
  pub added : node t (length s.nodes) ≡ member_node c r p (length (members s p))

-- what holds of a tree at each step; that its packs have members comes apart
pub record IsMade (t : Tree) : Type 0 where
  pub leveled : (p : ℕ) → IsPack t p → level t p < t.levels
  pub summed : (p : ℕ) → IsPack t p → sum_to (length (members t p)) (λ k. rate t (member t p k)) ≡ rate t p
  pub within : (p : ℕ) → IsPack t p → rate t p ≤ t.scale
  pub members_are : (p k : ℕ) → IsPack t p → k < length (members t p) → IsMember t (member t p k) × (home t (member t p k) ≡ p) × (place t (member t p k) ≡ k)
  pub homes_are : (x : ℕ) → IsMember t x → IsPack t (home t x) × (place t x < length (members t (home t x))) × (member t (home t x) (place t x) ≡ x)
  pub leaves_are : (x : ℕ) → IsLeaf t x → (level t (home t x) ≡ 0) × (0 < rate t x)

-- only a leaf must stand in level 0
abbrev pub MayStand : Kind → ℕ → Type 0
MayStand (kind.Leaf leaf) level = level ≡ 0
MayStand (kind.Pack lvl) level = ⊥
MayStand (kind.Dual primal) level = Unit {0}

module _ (s t : Tree) (p r : ℕ) (c : Kind) (j : Joins s t p r c) (h : IsMade s) where
  abbrev pub n : ℕ
  n = length s.nodes

  pub old_pack : (q : ℕ) → IsPack t q → IsPack s q
  old_pack q i =
      elim (cases_eq q n) [
        | inl e ↦ absurd (both_ways (is_pack (kind_at t q)) (ap (λ x. is_pack (kind_at t x)) e ∙ ap is_pack_node j.added ∙ j.no_pack) i.1)
        | inr ne ↦ (let l : q < n = (let a = i.0 in let b = j.long in omega (arith, a, b, ne)) in (l, sym (j.packs q l) ∙ i.1))
      ]

  pub new_pack : (q : ℕ) → IsPack s q → IsPack t q
  new_pack q i = ((let a = i.0 in let b = j.long in omega (arith, a, b)), j.packs q i.0 ∙ i.1)

  pub old_member : (x : ℕ) → IsMember s x → IsMember t x × (home t x ≡ home s x) × (place t x ≡ place s x) × (rate t x ≡ rate s x)
  old_member x i = (
    ((let a = i.0 in let b = j.long in omega (arith, a, b)), j.packs x i.0 ∙ i.1),
    j.homes x i.0,
    j.places x i.0,
    j.rates x i.0 (λ e. both_ways (is_pack (kind_at s x)) i.1 (ap (λ y. is_pack (kind_at s y)) e ∙ j.is_p.1)),
  )

  pub the_new : IsMember t n × (home t n ≡ p) × (place t n ≡ length (members s p)) × (rate t n ≡ r)
  the_new = (
    ((let b = j.long in omega (arith, b)), ap is_pack_node j.added ∙ j.no_pack),
    ap node_home j.added,
    ap node_place j.added,
    ap node_rate j.added,
  )

  abbrev pub Stands : ℕ → ℕ → ℕ → Type 0
  Stands q k x = IsMember t x × (home t x ≡ q) × (place t x ≡ k)

  pub old_stands : (q k : ℕ) → IsPack s q → k < length (members s q) → Stands q k (member s q k)
  old_stands q k i l = let m = h.members_are q k i l in let o = old_member (member s q k) m.0 in (o.0, o.1 ∙ m.1, o.2 ∙ m.2)

  pub made_members : (q k : ℕ) → IsPack t q → k < length (members t q) → Stands q k (member t q k)
  made_members q k i l =
      elim (cases_eq q p) [
        | inr ne ↦ (let e = j.others q (old_pack q i).0 ne in
            let P : List ℕ → Type 0 = λ ms. k < length ms → Stands q k (get_or ms k 0) in
            subst P (sym e) (λ m. old_stands q k (old_pack q i) m) l)
        | inl e ↦ (let P : List ℕ → Type 0 = λ ms. k < length ms → Stands q k (get_or ms k 0) in
            let ms_is : members t q ≡ members s q ++ n ∷ [] = ap (members t) e ∙ j.here ∙ sym (ap (λ x. members s x ++ n ∷ []) e) in
            subst P (sym ms_is) (λ m. elim (cases_lt k (length (members s q))) [
              | inl low ↦ (let Q : ℕ → Type 0 = λ x. Stands q k x in subst Q (sym (get_or_append_left (members s q) (n ∷ []) 0 k low))
                  (old_stands q k (old_pack q i) low))
              | inr high ↦
                  (let long = length-append (members s q) (n ∷ []) in
                  let same : length (members s q) ≡ k = omega (arith, long, m, high) in
                  let Q : ℕ → Type 0 = λ x. Stands q k x in
                  subst Q (sym (get_or_push (members s q) n 0 k same)) (
                    the_new.0,
                    the_new.1 ∙ sym e,
                    the_new.2 ∙ sym (ap (λ x. length (members s x)) e)
                        ∙ same,
                  ))
            ]) l)
      ]

  pub made_homes : (x : ℕ) → IsMember t x → IsPack t (home t x) × (place t x < length (members t (home t x))) × (member t (home t x) (place t x) ≡ x)
  made_homes x i =
      elim (cases_eq x n) [
        | inl e ↦
            (let P : ℕ → Type 0 = λ y. IsPack t (home t y) × (place t y < length (members t (home t y))) × (member t (home t y) (place t y) ≡ y) in
            subst P (sym e) (let Q : ℕ → ℕ → Type 0 = λ a b. IsPack t a × (b < length (members t a)) × (member t a b ≡ n) in
            subst₂ Q (sym the_new.1) (sym the_new.2) (
              new_pack p j.is_p,
              (let long = length-append (members s p) (n ∷ []) in let e = ap length j.here in omega (arith, long, e)),
              ap (λ ms. get_or ms (length (members s p)) 0) j.here ∙ get_or_push (members s p) n 0 (length (members s p)) refl,
            )))
        | inr ne ↦
            (let old : IsMember s x = (
              (let a = i.0 in let b = j.long in omega (arith, a, b, ne)),
              sym (j.packs x (let a = i.0 in let b = j.long in
                  omega (arith, a, b, ne))) ∙ i.1,
            ) in
            let o = old_member x old in
            let m = h.homes_are x old in
            let Q : ℕ → ℕ → Type 0 = λ a b. IsPack t a × (b < length (members t a)) × (member t a b ≡ x) in
            subst₂ Q (sym o.1) (sym o.2) (
              new_pack (home s x) m.0,
              elim (cases_eq (home s x) p) [
                | inr other ↦ (let R : List ℕ → Type 0 = λ ms. place s x < length ms in subst R (sym (j.others (home s x) m.0.0 other)) m.1)
                | inl same ↦ (let e = ap length (ap (members t) same ∙ j.here) in let long = length-append (members s p) (n ∷ []) in let l = m.1 in
                    let f = ap (λ y. length (members s y)) same in omega (arith, e, long, l, f))
              ],
              elim (cases_eq (home s x) p) [
                | inr other ↦ ap (λ ms. get_or ms (place s x) 0) (j.others (home s x) m.0.0 other) ∙ m.2
                | inl same ↦ (let l = m.1 in let f = ap (λ y. length (members s y)) same in
                    ap (λ ms. get_or ms (place s x) 0) (ap (members t) same ∙ j.here) ∙ get_or_append_left (members s p) (n ∷ []) 0 (place s x)
                    (omega (arith, l, f)) ∙ sym (ap (λ y. member s y (place s x)) same) ∙ m.2)
              ],
            ))
      ]

  pub made_summed : (q : ℕ) → IsPack t q → sum_to (length (members t q)) (λ k. rate t (member t q k)) ≡ rate t q
  made_summed q i =
      let is = old_pack q i in
      let old : sum_to (length (members s q)) (λ k. rate t (member s q k)) ≡ rate s q =
      (sum_to-same (length (members s q)) (λ k. rate t (member s q k)) (λ k. rate s (member s q k))
      (λ k l. (old_member (member s q k) (h.members_are q k is l).0).3) ∙ h.summed q is) in
      elim (cases_eq q p) [
        | inr ne ↦ ap (λ ms. sum_to (length ms) (λ k. rate t (get_or ms k 0))) (j.others q is.0 ne) ∙ old ∙ sym (j.rates q is.0 ne)
        | inl e ↦
            (let ms_is : members t q ≡ members s q ++ n ∷ [] = ap (members t) e ∙ j.here ∙ sym (ap (λ x. members s x ++ n ∷ []) e) in
            let long : length (members s q ++ n ∷ []) ≡ suc (length (members s q)) = omega (arith, length-append (members s q) (n ∷ [])) in
            let all = ap (λ ms. sum_to (length ms) (λ k. rate t (get_or ms k 0))) ms_is in
            let count = ap (λ m. sum_to m (λ k. rate t (get_or (members s q ++ n ∷ []) k 0))) long in
            let front = sum_to-same (length (members s q)) (λ k. rate t (get_or (members s q ++ n ∷ []) k 0)) (λ k. rate t (member s q k))
            (λ k l. ap (rate t) (get_or_append_left (members s q) (n ∷ []) 0 k l)) in
            let end = ap (rate t) (get_or_push (members s q) n 0 (length (members s q)) refl) in
            let r_new = the_new.3 in
            let r_here = j.rate_here in
            let at = ap (rate t) e in
            let at' = ap (rate s) e in
            omega (arith, all, count, front, end, old, r_new, r_here, at, at'))
      ]

  pub made : rate s p + r ≤ s.scale → 0 < r → MayStand c (level s p) → IsMade t
  made fits some stands = record {
    leveled = λ q i. (let is = old_pack q i in let a = j.levels q is.0 in let b = h.leveled q is in let d = j.levels_same in omega (arith, a, b, d));
    summed = made_summed;
    within = λ q i. (let is = old_pack q i in let d = j.scale_same in elim (cases_eq q p) [
      | inr ne ↦ (let a = j.rates q is.0 ne in let w = h.within q is in omega (arith, a, w, d))
      | inl e ↦ (let a = ap (rate t) e in let b = j.rate_here in omega (arith, a, b, fits, d))
    ]);
    members_are = made_members;
    homes_are = made_homes;
    leaves_are = made_leaves;
  }
    where
      at_new : MayStand c (level s p) → is_leaf c ≡ true → level s p ≡ 0
      at_new = go c
        where
          go : (d : Kind) → MayStand d (level s p) → is_leaf d ≡ true → level s p ≡ 0
          go (kind.Leaf leaf) low e = low
          go (kind.Pack level) low e = absurd low
          go (kind.Dual primal) low e = absurd (both_ways false refl e)

      made_leaves : (x : ℕ) → IsLeaf t x → (level t (home t x) ≡ 0) × (0 < rate t x)
      made_leaves x i =
          elim (cases_eq x n) [
            | inl e ↦
                (let low = at_new stands (sym (ap is_leaf_node j.added) ∙ sym (ap (λ y. is_leaf (kind_at t y)) e) ∙ i.1) in
                let up = ap (λ y. level t (home t y)) e ∙ ap (level t) the_new.1 ∙ j.levels p j.is_p.0 in
                let rate_is = ap (rate t) e ∙ the_new.3 in
                (up ∙ low, omega (arith, rate_is, some)))
            | inr ne ↦
                (let l : x < n = (let a = i.0 in let b = j.long in omega (arith, a, b, ne)) in
                let old : IsLeaf s x = (l, sym (j.leaves x l) ∙ i.1) in
                let member : IsMember s x = (l, not_pack_leaf (kind_at s x) old.1) in
                let o = old_member x member in
                let was = h.leaves_are x old in
                let m = h.homes_are x member in
                (ap (level t) o.1 ∙ j.levels (home s x) m.0.0 ∙ was.0, (let a = o.3 in let b = was.1 in omega (arith, a, b))))
          ]
