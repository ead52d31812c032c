-- The places of packs in their levels, and the first marked pack of a level.
use Rattle.std.proofs.Common.{◌≡◌, ◌≢◌, ℕ, zero, suc, ◌+◌, ◌-◌, ◌<◌, ◌≤◌, Bool, false, List, length, get_or, Some, ap, arith, inl, inr, sym, subst, ◌∙◌}
use Rattle.std.proofs.Math.ListN.{set}
use Rattle.std.proofs.lemmas.Bool.{both_ways, cases_eq, cases_lt}
use Rattle.std.proofs.lemmas.List.{get_or-set_other, get_or-set_same}
use Rattle.sched_base.specs.declared.rows.NodeId.{NodeId}
use Rattle.sched_base.proofs.ListLemmas.{passing_increases}
use Rattle.run_tree.specs.Tree.{Tree, IsTree, IsPack, at_level, level}
use Rattle.run_tree.specs.Schedule.{packs_at}
use Rattle.tree_select.specs.declared.masks.Found.{Found}
use Rattle.tree_select.specs.declared.masks.Span.{Span}
use Rattle.tree_select.specs.Masks.{group_at, AreMasksOf, ArePlacesOf, AreUnmarked, IsFirstIn, IsNextOf, IsOf, IsSpanOf, Masks}
use Rattle.tree_select.proofs.LevelLemmas.{pack_of_level, place_in_level}
use Rattle.tree_select.proofs.MaskLemmas.{pack_of_group}

-- ---- packs of a level stand once in their list, in order

packs_increase : (t : Tree) (l i d : ℕ) → i + suc d < length (packs_at t l) → get_or (packs_at t l) i 0 < get_or (packs_at t l) (i + suc d) 0
packs_increase t l i zero m =
    let e : i + suc zero ≡ suc i = omega arith in
    let s = passing_increases (at_level t l) (length t.nodes) 0 i (omega (arith, m)) in
    let same = ap (λ k. get_or (packs_at t l) k 0) e in
    omega (arith, s, same)
packs_increase t l i (suc d) m =
    let e : i + suc (suc d) ≡ suc (i + suc d) = omega arith in
    let ih = packs_increase t l i d (omega (arith, m)) in
    let s = passing_increases (at_level t l) (length t.nodes) 0 (i + suc d) (omega (arith, m)) in
    let same = ap (λ k. get_or (packs_at t l) k 0) e in
    omega (arith, ih, s, same)

pub packs_rise : (t : Tree) (l i j : ℕ) → i < j → j < length (packs_at t l) → get_or (packs_at t l) i 0 < get_or (packs_at t l) j 0
packs_rise t l i j m b =
    let e : i + suc (j - i - 1) ≡ j = omega (arith, m) in
    let s = packs_increase t l i (j - i - 1) (omega (arith, e, b)) in
    let same = ap (λ k. get_or (packs_at t l) k 0) e in
    omega (arith, s, same)

-- ---- the table of places

-- the first packs of a level have their places
abbrev pub ArePlacedBelow : Tree → ℕ → ℕ → List ℕ → Type 0
ArePlacedBelow t l i places = (k : ℕ) → k < i → get_or places (get_or (packs_at t l) k 0) 0 ≡ k

-- one pack more
pub placed_more : (t : Tree) (l i p : ℕ) (places : List ℕ) → i < length (packs_at t l) → p ≡ get_or (packs_at t l) i 0 → p < length places →
    ArePlacedBelow t l i places → ArePlacedBelow t l (i + 1) (set places p i)
placed_more t l i p places b at within was k m = elim (cases_eq k i) [
  | inl same ↦ ap (λ x. get_or (set places p i) x 0) (ap (λ j. get_or (packs_at t l) j 0) same ∙ sym at) ∙ get_or-set_same places p i 0 within ∙ sym same
  | inr ne ↦
      (let low : k < i = omega (arith, m, ne) in
      get_or-set_other places p (get_or (packs_at t l) k 0) i 0 (λ e. (let r = packs_rise t l k i low b in omega (arith, r, e, at))) ∙ was k low)
]

-- another node keeps what it had
pub others_keep : (t : Tree) (h : IsTree t) (l i p : ℕ) (before places : List ℕ) → i < length (packs_at t l) → p ≡ get_or (packs_at t l) i 0 →
    ((n : ℕ) → level t n ≢ l → get_or places n 0 ≡ get_or before n 0) →
    (n : ℕ) → level t n ≢ l → get_or (set places p i) n 0 ≡ get_or before n 0
others_keep t h l i p before places b at was n ne =
    get_or-set_other places p n i 0 (λ e. ne (ap (level t) (e ∙ at) ∙ (pack_of_level t h l i b).1)) ∙ was n ne

-- the packs of one level more
pub places_more : (t : Tree) (h : IsTree t) (l : ℕ) (before places : List ℕ) → length places ≡ length before → ArePlacedBelow t l (length (packs_at t l))
    places →
    ((n : ℕ) → level t n ≢ l → get_or places n 0 ≡ get_or before n 0) → ArePlacesOf t before l → ArePlacesOf t places (l + 1)
places_more t h l before places long own others was = record {
  long = long ∙ was.long;
  each = λ k i m b. elim (cases_eq k l) [
    | inl same ↦
        (let P : ℕ → Type 0 = λ x. i < length (packs_at t x) → get_or places (get_or (packs_at t x) i 0) 0 ≡ i in
        subst P (sym same) (own i) b)
    | inr ne ↦ others (get_or (packs_at t k) i 0) (λ e. ne (sym (pack_of_level t h k i b).1 ∙ e)) ∙ was.each k i (omega (arith, m, ne)) b
  ];
}

-- ---- the first marked pack of a level

module _ (t : Tree) (h : IsTree t) (m : Masks) (masks : AreMasksOf t m) (l : ℕ) (low : l < t.levels) (span : Span) (s : IsSpanOf t m.groups l span)
    (stale : List Bool) where
  -- none of the groups has a marked pack
  pub none_marked : AreUnmarked m.groups stale span.from span.to → (k : ℕ) → k < length (packs_at t l) → get_or stale (get_or (packs_at t l) k 0) false ≡ false
  none_marked none k b =
      let of = pack_of_level t h l k b in
      let f = s.found (get_or (packs_at t l) k 0) of.0 of.1 in
      none f.0 (get_or (packs_at t l) k 0) f.1 f.2 f.3

  module _ (g : ℕ) (from_g : span.from ≤ g) (to_g : g < span.to) (before : AreUnmarked m.groups stale span.from g) (n : NodeId)
      (first : IsFirstIn (group_at m.groups g) stale (Some n)) where
    its : IsPack t n.0 × (level t n.0 ≡ l)
    its = pack_of_group t l (group_at m.groups g) (s.each g from_g to_g) n.0 first.0

    pub found_within : n.0 < length m.places
    found_within = let b = its.0.0 in let long = masks.places.long in omega (arith, b, long)

    -- its place in the level
    there : (i : ℕ) × (i < length (packs_at t l)) × (get_or (packs_at t l) i 0 ≡ n.0)
    there = (let P : ℕ → Type 0 = λ x. (i : ℕ) × (i < length (packs_at t x)) × (get_or (packs_at t x) i 0 ≡ n.0) in
        subst P its.1 (place_in_level t h n.0 its.0))

    place_is : get_or m.places n.0 0 ≡ there.0
    place_is = ap (λ p. get_or m.places p 0) (sym there.2) ∙ masks.places.each l there.0 low there.1

    -- packs before it have no mark
    skipped : (k : ℕ) → k < there.0 → get_or stale (get_or (packs_at t l) k 0) false ≡ false
    skipped k up =
        let b : k < length (packs_at t l) = (let c = there.1 in omega (arith, up, c)) in
        let p = get_or (packs_at t l) k 0 in
        let of = pack_of_level t h l k b in
        let f = s.found p of.0 of.1 in
        let less : p < n.0 = (let r = packs_rise t l k there.0 up there.1 in let e = there.2 in omega (arith, r, e)) in
        elim (cases_lt f.0 g) [
          | inl earlier ↦ before f.0 p f.1 earlier f.3
          | inr late ↦ elim (cases_eq f.0 g) [
            | inl same ↦ first.2 p (subst (λ (x : ℕ). IsOf (group_at m.groups x) p) same f.3) less
            | inr ne ↦ absurd (
                let rise = s.rising g f.0 from_g (omega (arith, late, ne)) f.2 in
                let word = f.3.0 in
                let here = first.0.0 in
                omega (arith, rise, word, here, less))
          ]
        ]

    pub next_found : (from : ℕ) (found : Found) → found.pack ≡ n → found.place ≡ get_or m.places n.0 0 → found.group ≡ g →
        ((k : ℕ) → k < from → get_or stale (get_or (packs_at t l) k 0) false ≡ false) → IsNextOf t m.groups l stale span from found
    next_found from found is_pack is_place is_group fresh = record {
      pack = subst (λ (x : NodeId). IsPack t x.0) (sym is_pack) its.0;
      place = (let b = there.1 in omega (arith, b, at));
      at = ap (λ (x : NodeId). x.0) is_pack ∙ sym there.2 ∙ ap (λ k. get_or (packs_at t l) k 0) (sym at);
      after = elim (cases_lt there.0 from) [
        | inl less ↦ absurd (both_ways (get_or stale n.0 false) (ap (λ p. get_or stale p false) (sym there.2) ∙ fresh there.0 less) first.1)
        | inr most ↦ omega (arith, most, at)
      ];
      marked = ap (λ (x : NodeId). get_or stale x.0 false) is_pack ∙ first.1;
      skipped = λ k up. skipped k (omega (arith, up, at));
      group = omega (arith, is_group, from_g);
      in_span = omega (arith, is_group, to_g);
      before = λ i p a b of. before i p a (omega (arith, b, is_group)) of;
    }
      where
        at : found.place ≡ there.0
        at = is_place ∙ place_is
