-- The groups of a level's packs, as they are made.
use Rattle.std.proofs.Common.{◌≡◌, ◌≢◌, ℕ, ◌+◌, ◌*◌, ◌/◌, ◌%◌, ◌^◌, ◌<◌, ◌≤◌, ◌&&◌, nat_lt, Bool, true, false, List, [], ◌∷◌, ◌++◌, length, get_or}
use Rattle.std.proofs.Common.{refl, ap, arith, inl, inr, sym, subst, le_refl, ◌∙◌}
use Rattle.std.specs.Int.RustNames.{bit_or}
use Rattle.std.proofs.lemmas.Bool.{and_from, and_parts, both_ways, cases_eq, cases_lt, le-ltb, lt-ltb, ltb-true}
use Rattle.std.proofs.lemmas.List.{get_or_append_left, get_or_push, length-append}
use Rattle.run_tree.specs.Tree.{Tree, IsPack, at_level, level}
use Rattle.run_tree.proofs.TreeLemmas.{pack_at, at_from}
use Rattle.tree_select.specs.declared.masks.Group.{Group}
use Rattle.tree_select.specs.declared.masks.Span.{Span}
use Rattle.tree_select.specs.Marks.{has_bit}
use Rattle.tree_select.specs.Masks.{group_at, no_group, no_span, stands_at, AreSpansOf, IsGroupOf, IsKept, IsOf, IsSpanOf}
use Rattle.tree_select.proofs.MarkWords.{bit_more_own, bit_more_rest, no_bits}

-- ---- the mask of a word

-- the bits below k are those of packs of the level, and no other one is set
abbrev pub AreBitsBelow : Tree → ℕ → ℕ → ℕ → ℕ → Type 0
AreBitsBelow t l word k mask = (j : ℕ) → j < 64 → has_bit mask j ≡ (nat_lt j k && stands_at t l (word * 64 + j))

pub bits_none : (t : Tree) (l word : ℕ) → AreBitsBelow t l word 0 0
bits_none t l word j m = no_bits j ∙ sym (ap (λ (b : Bool). b && stands_at t l (word * 64 + j)) (le-ltb j 0 (omega arith)))

below_same : (j k : ℕ) → j ≢ k → nat_lt j (k + 1) ≡ nat_lt j k
below_same j k ne = elim (cases_lt j k) [
  | inl low ↦ lt-ltb j (k + 1) (omega (arith, low)) ∙ sym (lt-ltb j k low)
  | inr high ↦ le-ltb j (k + 1) (omega (arith, high, ne)) ∙ sym (le-ltb j k high)
]

-- the bit at k is right, and the others are as before
bits_more : (t : Tree) (l word k mask mask' : ℕ) → has_bit mask' k ≡ stands_at t l (word * 64 + k) → ((j : ℕ) → j ≢ k → has_bit mask' j ≡ has_bit mask j) →
    AreBitsBelow t l word k mask → AreBitsBelow t l word (k + 1) mask'
bits_more t l word k mask mask' own rest was j m = elim (cases_eq j k) [
  | inl same ↦
      ap (has_bit mask') same ∙ own ∙ ap (λ x. stands_at t l (word * 64 + x)) (sym same)
      ∙ sym (ap (λ (b : Bool). b && stands_at t l (word * 64 + j)) (lt-ltb j (k + 1) (omega (arith, same))))
  | inr ne ↦ rest j ne ∙ was j m ∙ ap (λ (b : Bool). b && stands_at t l (word * 64 + j)) (sym (below_same j k ne))
]

-- a pack
pub bits_put : (t : Tree) (l word k mask : ℕ) → k < 64 → stands_at t l (word * 64 + k) ≡ true → AreBitsBelow t l word k mask → AreBitsBelow t l word (k + 1)
    (bit_or mask (1 * 2 ^ k % 2 ^ 64))
bits_put t l word k mask m on was = bits_more t l word k mask (bit_or mask (1 * 2 ^ k % 2 ^ 64)) (bit_more_own mask k m ∙ sym on) (λ j ne. bit_more_rest
    mask k j m ne) was

-- another node
pub bits_skip : (t : Tree) (l word k mask : ℕ) → k < 64 → stands_at t l (word * 64 + k) ≡ false → AreBitsBelow t l word k mask →
    AreBitsBelow t l word (k + 1) mask
bits_skip t l word k mask m off was =
    bits_more t l word k mask mask (was k m ∙ ap (λ (b : Bool). b && stands_at t l (word * 64 + k)) (le-ltb k k (le_refl k)) ∙ sym off) (λ j ne. refl) was

pub bits_all : (t : Tree) (l word mask : ℕ) → AreBitsBelow t l word 64 mask → (k : ℕ) → k < 64 → has_bit mask k ≡ stands_at t l (word * 64 + k)
bits_all t l word mask was k m = was k m ∙ ap (λ (b : Bool). b && stands_at t l (word * 64 + k)) (lt-ltb k 64 m)

-- ---- one group

module _ (t : Tree) (l : ℕ) where
  -- a pack of the level stands there
  pub stands_from : (p : ℕ) → IsPack t p → level t p ≡ l → stands_at t l p ≡ true
  stands_from p is at = and_from (nat_lt p (length t.nodes)) (at_level t l p) (lt-ltb p (length t.nodes) is.0) (at_from t l p is at)

  -- and what stands there is one
  pub pack_from : (p : ℕ) → stands_at t l p ≡ true → IsPack t p × (level t p ≡ l)
  pack_from p on = let both = and_parts (nat_lt p (length t.nodes)) (at_level t l p) on in pack_at t l p (ltb-true p (length t.nodes) both.0) both.1

  module _ (group : Group) (h : IsGroupOf t l group) where
    -- where its mark stands in the group's word, the mask shows it
    pub shown : (p : ℕ) → IsPack t p → level t p ≡ l → p / 64 ≡ group.word → IsOf group p
    shown p is at in_word =
        let e : group.word * 64 + p % 64 ≡ p = omega (arith, in_word) in
        (in_word, h.bits (p % 64) (omega arith) ∙ ap (stands_at t l) e ∙ stands_from p is at)

    -- it shows packs of the level alone
    pub pack_of_group : (p : ℕ) → IsOf group p → IsPack t p × (level t p ≡ l)
    pack_of_group p of =
        let in_word = of.0 in
        let e : group.word * 64 + p % 64 ≡ p = omega (arith, in_word) in
        pack_from p (ap (stands_at t l) (sym e) ∙ sym (h.bits (p % 64) (omega arith)) ∙ of.1)

-- ---- the groups of a level

-- the groups for the packs whose marks stand in the first words come behind those that were there
pub record AreGrown (t : Tree) (before groups : List Group) (l words : ℕ) : Type 0 where
  pub kept : IsKept before groups
  pub right : (g : ℕ) → length before ≤ g → g < length groups → IsGroupOf t l (group_at groups g)
  pub early : (g : ℕ) → length before ≤ g → g < length groups → (group_at groups g).word < words
  pub rising : (g h : ℕ) → length before ≤ g → g < h → h < length groups → (group_at groups g).word < (group_at groups h).word
  pub found : (p : ℕ) → IsPack t p → level t p ≡ l → p / 64 < words → (g : ℕ) × (length before ≤ g) × (g < length groups) × IsOf (group_at groups g) p

pub grown_none : (t : Tree) (groups : List Group) (l : ℕ) → AreGrown t groups groups l 0
grown_none t groups l = record {
  kept = record { long = le_refl (length groups); same = λ g m. refl };
  right = λ g low m. absurd (omega (arith, low, m));
  early = λ g low m. absurd (omega (arith, low, m));
  rising = λ g h low up m. absurd (omega (arith, low, up, m));
  found = λ p is at m. absurd (omega (arith, m));
}

-- no pack has its mark in a word without a mask
pub grown_skip : (t : Tree) (before groups : List Group) (l word mask : ℕ) → mask ≡ 0 → ((k : ℕ) → k < 64 → has_bit mask k ≡ stands_at t l (word * 64 + k))
    → AreGrown t before groups l word → AreGrown t before groups l (word + 1)
grown_skip t before groups l word mask none bits was = record {
  kept = was.kept;
  right = was.right;
  early = λ g low m. (let e = was.early g low m in omega (arith, e));
  rising = was.rising;
  found = λ p is at m. elim (cases_eq (p / 64) word) [
    | inl same ↦ absurd (
        let e : word * 64 + p % 64 ≡ p = omega (arith, same) in
        both_ways (stands_at t l p) (ap (stands_at t l) (sym e) ∙ sym (bits (p % 64) (omega arith)) ∙ ap (λ (n : ℕ). has_bit n (p % 64)) none
        ∙ no_bits (p % 64)) (stands_from t l p is at))
    | inr ne ↦ was.found p is at (omega (arith, m, ne))
  ];
}

-- a group more
module _ (t : Tree) (before groups : List Group) (l : ℕ) (group : Group) (h : IsGroupOf t l group) (was : AreGrown t before groups l group.word) where
  abbrev more : List Group
  more = groups ++ group ∷ []

  long : length more ≡ length groups + 1
  long = length-append groups (group ∷ [])

  old_at : (g : ℕ) → g < length groups → group_at more g ≡ group_at groups g
  old_at g m = get_or_append_left groups (group ∷ []) no_group g m

  new_at : (g : ℕ) → g ≡ length groups → group_at more g ≡ group
  new_at g e = ap (group_at more) e ∙ get_or_push groups group no_group (length groups) refl

  old : (g : ℕ) → g < length more → g ≢ length groups → g < length groups
  old g m ne = let e = long in omega (arith, m, e, ne)

  pub grown_more : AreGrown t before more l (group.word + 1)
  grown_more = record {
    kept = record {
      long = (let a = was.kept.long in let e = long in omega (arith, a, e));
      same = λ g m. old_at g (let a = was.kept.long in omega (arith, a, m)) ∙ was.kept.same g m;
    };
    right = λ g low m. elim (cases_eq g (length groups)) [
      | inl last ↦ subst (IsGroupOf t l) (sym (new_at g last)) h
      | inr ne ↦ subst (IsGroupOf t l) (sym (old_at g (old g m ne))) (was.right g low (old g m ne))
    ];
    early = λ g low m. elim (cases_eq g (length groups)) [
      | inl last ↦ (let e = ap (λ (x : Group). x.word) (new_at g last) in omega (arith, e))
      | inr ne ↦ (let e = ap (λ (x : Group). x.word) (old_at g (old g m ne)) in let w = was.early g low (old g m ne) in omega (arith, e, w))
    ];
    rising = λ g i low up m.
        let first : g < length groups = (let e = long in omega (arith, up, m, e)) in
        let at = ap (λ (x : Group). x.word) (old_at g first) in
        elim (cases_eq i (length groups)) [
          | inl last ↦ (let e = ap (λ (x : Group). x.word) (new_at i last) in let w = was.early g low first in omega (arith, e, at, w))
          | inr ne ↦ (let e = ap (λ (x : Group). x.word) (old_at i (old i m ne)) in let w = was.rising g i low up (old i m ne) in omega (arith, e, at, w))
        ];
    found = λ p is at m. elim (cases_eq (p / 64) group.word) [
      | inl same ↦ (
        length groups,
        (let a = was.kept.long in omega (arith, a)),
        (let e = long in omega (arith, e)),
        subst (λ (x : Group). IsOf x p)
            (sym (new_at (length groups) refl)) (shown t l group h p is at same),
      )
      | inr ne ↦ (let f = was.found p is at (omega (arith, m, ne)) in (
        f.0,
        f.1,
        (let e = long in let b = f.2 in omega (arith, e, b)),
        subst (λ (x : Group). IsOf x p) (sym (old_at f.0 f.2)) f.3,
      ))
    ];
  }

-- all words are gone through
pub grown_all : (t : Tree) (before groups : List Group) (l words : ℕ) (span : Span) → length t.nodes / 64 < words → span.from ≡ length before →
    span.to ≡ length groups → AreGrown t before groups l words → IsSpanOf t groups l span
grown_all t before groups l words span all from to was = record {
  within = omega (arith, to);
  each = λ g low m. was.right g (omega (arith, from, low)) (omega (arith, to, m));
  rising = λ g h low up m. was.rising g h (omega (arith, from, low)) up (omega (arith, to, m));
  found = λ p is at. (let b = is.0 in let f = was.found p is at (omega (arith, all, b)) in (
    f.0,
    (let low = f.1 in omega (arith, from, low)),
    (let m = f.2 in omega (arith, to, m)),
    f.3,
  ));
}

-- ---- the groups of all levels

-- they stay right where others come behind them
pub span_kept : (t : Tree) (groups groups' : List Group) (l : ℕ) (span : Span) → IsKept groups groups' → IsSpanOf t groups l span → IsSpanOf t groups' l span
span_kept t groups groups' l span kept was = record {
  within = (let a = was.within in let b = kept.long in omega (arith, a, b));
  each = λ g low m. subst (IsGroupOf t l) (sym (same g m)) (was.each g low m);
  rising = λ g h low up m. (let w = was.rising g h low up m in let a = ap (λ (x : Group). x.word) (same g (omega (arith, up, m))) in
      let b = ap (λ (x : Group). x.word) (same h m) in omega (arith, w, a, b));
  found = λ p is at. (let f = was.found p is at in (f.0, f.1, f.2, subst (λ (x : Group). IsOf x p) (sym (same f.0 f.2)) f.3));
}
  where
    same : (g : ℕ) → g < span.to → group_at groups' g ≡ group_at groups g
    same g m = kept.same g (let a = was.within in omega (arith, a, m))

pub spans_more : (t : Tree) (groups groups' : List Group) (spans : List Span) (l : ℕ) (span : Span) → IsKept groups groups' → IsSpanOf t groups' l span →
    AreSpansOf t groups spans l → AreSpansOf t groups' (spans ++ span ∷ []) (l + 1)
spans_more t groups groups' spans l span kept own was = record {
  long = (let a = length-append spans (span ∷ []) in let b = was.long in omega (arith, a, b));
  each = λ k m. elim (cases_eq k l) [
    | inl same ↦
        (let at : get_or (spans ++ span ∷ []) k no_span ≡ span = get_or_push spans span no_span k (let b = was.long in omega (arith, b, same)) in
        subst (IsSpanOf t groups' k) (sym at) (subst (λ (x : ℕ). IsSpanOf t groups' x span) (sym same) own))
    | inr ne ↦
        (let low : k < l = omega (arith, m, ne) in
        let at = get_or_append_left spans (span ∷ []) no_span k (let b = was.long in omega (arith, b, low)) in
        subst (IsSpanOf t groups' k) (sym at) (span_kept t groups groups' k (get_or spans k no_span) kept (was.each k low)))
  ];
}
