-- A pack that is put on a free processor, and noted there.
use Rattle.std.proofs.Common.{◌≡◌, ◌⊎◌, ℕ, zero, suc, ◌+◌, ◌<◌, ◌≤◌, ◌||◌, ◌&&◌, not, Bool, true, false, List, [], ◌∷◌, filter, find, length, get_or}
use Rattle.std.proofs.Common.{Option, Some, None, refl, ap, arith, inl, inr, sym, subst, ◌∙◌}
use Rattle.std.specs.List.{range_with_len}
use Rattle.std.specs.Option.{option_or}
use Rattle.std.proofs.lemmas.Bool.{cases_Bool, cases_eq, cases_lt, both_ways, ne_eqb}
use Rattle.std.proofs.lemmas.List.{get_or-set_other, get_or-set_same}
use Rattle.std.proofs.lemmas.List.Folds.{list_any_at}
use Rattle.std.proofs.Math.ListN.{set}
use Rattle.sched_base.specs.Candidates.{is_at}
use Rattle.sched_base.specs.Places.{is_running, is_held, comes_back, returned, waiting}
use Rattle.sched_base.proofs.ListLemmas.{passing_on, passing_off}
use Rattle.cpu_assign.specs.Noted.{AreHeld, IsNoted, put_first}
use Rattle.cpu_assign.proofs.BackLemmas.{returned_at}
use Rattle.cpu_assign.proofs.HolderLemmas.{some_is_at, holds_within}

-- a processor holds what it did, or it was free and holds the pack
put_where : (i : ℕ) (onto : List (Option ℕ)) (p : ℕ) → (get_or (put_first i onto) p None ≡ get_or onto p None) ⊎ ((get_or onto p None ≡ None)
    × (get_or (put_first i onto) p None ≡ Some i))
put_where i [] p = inl refl
put_where i (None ∷ onto) zero = inr (refl, refl)
put_where i (None ∷ onto) (suc p) = inl refl
put_where i (Some j ∷ onto) zero = inl refl
put_where i (Some j ∷ onto) (suc p) = put_where i onto p

-- each other pack is held as before
pub put_others : (i j : ℕ) (onto : List (Option ℕ)) → (j ≡ i → ⊥) → is_held (put_first i onto) j ≡ is_held onto j
put_others i j [] ne = refl
put_others i j (None ∷ onto) ne = ap (λ (b : Bool). b || is_held onto j) (ne_eqb i j (λ same. ne (sym same)))
put_others i j (Some k ∷ onto) ne = ap (λ (b : Bool). is_at (Some k) j || b) (put_others i j onto ne)

-- what a processor holds is held
pub is_held_at : (onto : List (Option ℕ)) (p i : ℕ) → get_or onto p None ≡ Some i → is_held onto i ≡ true
is_held_at onto p i at = list_any_at (λ o. is_at o i) onto p None (holds_within onto p i at) (some_is_at (get_or onto p None) i at)

-- nothing is noted anew, or the pack where it was put
abbrev pub IsPutNoted : List (Option ℕ) → List (Option ℕ) → List (Option ℕ) → Bool → ℕ → ℕ → Type 0
IsPutNoted onto' last last' put next i = (last' ≡ last) ⊎ ((put ≡ true) × ((p : ℕ) × (p + 1 ≡ next) × (get_or onto' p None ≡ Some i)
    × (last' ≡ set last i (Some p))))

module _ (onto last onto' last' : List (Option ℕ)) (i next : ℕ) (put : Bool) (noted : IsNoted onto last) (pack : i < length last) (free : put ≡ true →
    is_held onto i ≡ false)
    (puts : put ≡ true → onto' ≡ put_first i onto) (skips : put ≡ false → onto' ≡ onto) (long : length onto' ≡ length onto) (long' : length last' ≡ length last)
    (below : (p : ℕ) → p + 1 < next → get_or onto' p None ≡ get_or onto p None) (above : (p : ℕ) → next ≤ p → get_or onto' p None ≡ get_or onto p None)
    (within : next ≤ length onto')
    (there : (p : ℕ) → put ≡ true → p + 1 ≡ next → get_or onto' p None ≡ Some i → last' ≡ set last i (Some p)) (same : IsPutNoted onto' last last' put next
    i) where
  -- each other pack has noted what it did
  pub put_note_others : (j : ℕ) → (j ≡ i → ⊥) → get_or last' j None ≡ get_or last j None
  put_note_others j ne = elim same [
    | inl e ↦ ap (λ (ls : List (Option ℕ)). get_or ls j None) e
    | inr s ↦ ap (λ (ls : List (Option ℕ)). get_or ls j None) s.1.3 ∙ get_or-set_other last i j (Some s.1.0) None ne
  ]

  pub put_note_own : is_held onto' i ≡ false → last' ≡ last
  put_note_own off = elim same [
    | inl e ↦ e
    | inr s ↦ absurd (both_ways (is_held onto' i) off (is_held_at onto' s.1.0 i s.1.2))
  ]

  stays : (p j : ℕ) → get_or onto p None ≡ Some j → (j < length last') × (get_or last' j None ≡ Some p)
  stays p j e =
      let n = noted.noted p j e in
      let l = n.0 in (
        omega (arith, l, long'),
        (elim same [
          | inl e' ↦ ap (λ (ls : List (Option ℕ)). get_or ls j None) e' ∙ n.1
          | inr s ↦ put_note_others j (λ is. both_ways (is_held onto i) (free s.0) (is_held_at onto p i (e ∙ ap (λ (x : ℕ). Some x) is))) ∙ n.1
        ]),
      )

  comes : (p j : ℕ) → put ≡ true → get_or onto p None ≡ None → get_or (put_first i onto) p None ≡ Some i → get_or onto' p None ≡ Some j → (j < length last')
      × (get_or last' j None ≡ Some p)
  comes p j on none some e =
      let here : get_or onto' p None ≡ Some i = ap (λ (os : List (Option ℕ)). get_or os p None) (puts on) ∙ some in
      let is : j ≡ i = (let both : Some j ≡ Some i = sym e ∙ here in cc) in
      let apart : get_or onto' p None ≡ get_or onto p None → ⊥ = λ f. (let both : Some i ≡ None = sym here ∙ f ∙ none in cc) in
      let at : p + 1 ≡ next = elim (cases_eq (p + 1) next) [
        | inl at ↦ at
        | inr ne ↦ elim (cases_lt (p + 1) next) [
          | inl l ↦ absurd (apart (below p l))
          | inr m ↦ absurd (apart (above p (omega (arith, ne, m))))
        ]
      ] in (
        omega (arith, is, pack, long'),
        ap (λ (x : ℕ). get_or last' x None) is ∙ ap (λ (ls : List (Option ℕ)). get_or ls i None) (there p on at here) ∙ get_or-set_same last i (Some p) None
            pack,
      )

  pub put_note_noted : IsNoted onto' last'
  put_note_noted = record {
    noted = λ p j e. elim (cases_Bool put) [
      | inr off ↦ stays p j (sym (ap (λ (os : List (Option ℕ)). get_or os p None) (skips off)) ∙ e)
      | inl on ↦ elim (put_where i onto p) [
        | inl kept ↦ stays p j (sym (ap (λ (os : List (Option ℕ)). get_or os p None) (puts on) ∙ kept) ∙ e)
        | inr s ↦ comes p j on s.0 s.1 e
      ]
    ];
    within = λ j p e. elim same [
      | inl e' ↦ (let w = noted.within j p (sym (ap (λ (ls : List (Option ℕ)). get_or ls j None) e') ∙ e) in omega (arith, w, long))
      | inr s ↦ elim (cases_eq j i) [
        | inl is ↦ (let both : Some s.1.0 ≡ Some p = sym (ap (λ (x : ℕ). get_or last' x None) is ∙ ap (λ (ls : List (Option ℕ)). get_or ls i None) s.1.3
            ∙ get_or-set_same last i (Some s.1.0) None pack) ∙ e in
            let at : s.1.0 ≡ p = cc in
            let n = s.1.1 in omega (arith, at, n, within))
        | inr ne ↦ (let w = noted.within j p (sym (put_note_others j ne) ∙ e) in omega (arith, w, long))
      ]
    ];
    few_processors = (let few = noted.few_processors in omega (arith, few, long));
    few_packs = (let few = noted.few_packs in omega (arith, few, long'));
  }

-- ---- no processor before a number is free

-- once a pack has left the processor that it held last
pub held_left : (before last onto onto' : List (Option ℕ)) (first next i : ℕ) → IsNoted before last → ((p j : ℕ) → get_or onto p None ≡ Some j →
    get_or before p None ≡ Some j) → AreHeld onto first →
    ((p j : ℕ) → get_or onto p None ≡ Some j → (j ≡ i → ⊥) → get_or onto' p None ≡ Some j) → next ≤ first → ((p : ℕ) → get_or last i None ≡ Some p →
    next ≤ p) → AreHeld onto' next
held_left before last onto onto' first next i noted was held others below here p l none = go (get_or onto p None) refl
  where
    go : (o : Option ℕ) → get_or onto p None ≡ o → ⊥
    go None e = held p (omega (arith, l, below)) e
    go (Some j) e = elim (cases_eq j i) [
      | inl same ↦
          (let at : get_or last i None ≡ Some p = ap (λ (x : ℕ). get_or last x None) (sym same) ∙ (noted.noted p j (was p j e)).1 in
          let after = here p at in
          omega (arith, l, after))
      | inr ne ↦ (let both : None ≡ Some j = sym none ∙ others p j e ne in cc)
    ]

-- once packs have come back
pub held_back : (runs : List Bool) (last onto back : List (Option ℕ)) (n : ℕ) → back ≡ returned runs last onto 0 onto → AreHeld onto n → n ≤ length onto →
    AreHeld back n
held_back runs last onto back n is held within p l none = go (get_or onto p None) refl
  where
    go : (o : Option ℕ) → get_or onto p None ≡ o → ⊥
    go None e = held p l e
    go (Some j) e =
        (let there : get_or back p None ≡ option_or (get_or onto p None) (find (comes_back runs last onto (0 + p)) (range_with_len 0 (length runs))) =
        ap (λ (os : List (Option ℕ)). get_or os p None) is ∙ returned_at runs last onto 0 onto p (omega (arith, l, within)) in
        let some : option_or (get_or onto p None) (find (comes_back runs last onto (0 + p)) (range_with_len 0 (length runs))) ≡ Some j =
        ap (λ (o : Option ℕ). option_or o (find (comes_back runs last onto (0 + p)) (range_with_len 0 (length runs)))) e in
        let both : None ≡ Some j = sym none ∙ there ∙ some in
        cc)

-- ---- the packs that begin are in order

first_on : (xs : List ℕ) (a k : ℕ) → ((j : ℕ) → j < length xs → a + 1 ≤ get_or xs j 0) → k < length (a ∷ xs) → a ≤ get_or (a ∷ xs) k 0
first_on xs a zero h l = omega arith
first_on xs a (suc k) h l = let low = h k (omega (arith, l)) in omega (arith, low)

from_on : (p : ℕ → Bool) (n a k : ℕ) → k < length (filter p (range_with_len a n)) → a ≤ get_or (filter p (range_with_len a n)) k 0
from_on p zero a k l = absurd (omega (arith, l))
from_on p (suc n) a k l =
    let P : List ℕ → Type 0 = λ xs. k < length xs → a ≤ get_or xs k 0 in
    elim (cases_Bool (p a)) [
      | inl on ↦ subst P (sym (passing_on p a n on)) (first_on (filter p (range_with_len (a + 1) n)) a k (λ j b. from_on p n (a + 1) j b)) l
      | inr off ↦ subst P (sym (passing_off p a n off)) (λ b. let low = from_on p n (a + 1) k b in omega (arith, low)) l
    ]

ascend_on : (xs : List ℕ) (a j k : ℕ) → ((i : ℕ) → i < length xs → a + 1 ≤ get_or xs i 0) → ((i m : ℕ) → i < m → m < length xs → get_or xs i 0 < get_or xs m
    0) → j < k → k < length (a ∷ xs) → get_or (a ∷ xs) j 0 < get_or (a ∷ xs) k 0
ascend_on xs a j zero h g o b = absurd (omega (arith, o))
ascend_on xs a zero (suc k) h g o b = let low = h k (omega (arith, b)) in omega (arith, low)
ascend_on xs a (suc j) (suc k) h g o b = g j k (omega (arith, o)) (omega (arith, b))

passing_ascend : (p : ℕ → Bool) (n a j k : ℕ) → j < k → k < length (filter p (range_with_len a n)) → get_or (filter p (range_with_len a n)) j 0 < get_or
    (filter p (range_with_len a n)) k 0
passing_ascend p zero a j k o l = absurd (omega (arith, l))
passing_ascend p (suc n) a j k o l =
    let P : List ℕ → Type 0 = λ xs. k < length xs → get_or xs j 0 < get_or xs k 0 in
    elim (cases_Bool (p a)) [
      | inl on ↦ subst P (sym (passing_on p a n on)) (ascend_on (filter p (range_with_len (a + 1) n)) a j k (λ i b. from_on p n (a + 1) i b)
          (λ i m x b. passing_ascend p n (a + 1) i m x b) o) l
      | inr off ↦ subst P (sym (passing_off p a n off)) (λ b. passing_ascend p n (a + 1) j k o b) l
    ]

-- no pack begins twice
pub begins_once : (runs : List Bool) (onto : List (Option ℕ)) (begun : List ℕ) (j k : ℕ) → begun ≡ waiting runs onto → j < k → k < length begun →
    get_or begun j 0 ≡ get_or begun k 0 → ⊥
begins_once runs onto begun j k e o l same =
    let P : List ℕ → Type 0 = λ xs. k < length xs → get_or xs j 0 < get_or xs k 0 in
    let low = subst P (sym e) (λ b. passing_ascend (λ i. is_running runs i && not (is_held onto i)) (length runs) 0 j k o b) l in
    omega (arith, low, same)
