-- The bits of words as marks.
use Rattle.std.proofs.Common.{◌≡◌, ℕ, ◌+◌, ◌-◌, ◌*◌, ◌/◌, ◌%◌, ◌^◌, ◌<◌, ◌≤◌, true, false, List, length, get_or, ap, ap₂, arith, inl, inr, sym, ◌∙◌, w64}
use Rattle.std.specs.Prelude.{nat_eq}
use Rattle.std.specs.Int.{bit_at, trailing_zeros}
use Rattle.std.specs.Int.RustNames.{bit_or}
use Rattle.std.proofs.Math.ListN.{set}
use Rattle.std.proofs.Math.Nat.{div-div-eq-div-mul}
use Rattle.std.proofs.lemmas.Bool.{cases_eq, cases_lt}
use Rattle.std.proofs.lemmas.List.{get_or_past, get_or-set_other, get_or-set_same}
use Rattle.std.proofs.lemmas.List.FromFn.{length-map-range_with_len, get_or-map-range_with_len}
use Rattle.std.proofs.lemmas.Nat.{pow-add}
use Rattle.std.proofs.lemmas.Nat.Bits.{bit_at-zero, bit_at-trailing_zeros, bit_at_set_same, bit_at_set_other}
use Rattle.merged_rounds.specs.Marks.{is_marked, marks_by}

-- a bit of a number, once those before a place are gone
rest_bit : (n s i : ℕ) → bit_at (n / 2 ^ s) i ≡ bit_at n (s + i)
rest_bit n s i = ap (λ m. m % 2) (div-div-eq-div-mul n (2 ^ s) (2 ^ i) ∙ ap (λ m. n / m) (sym (pow-add 2 s i)))

-- a number of the word of number k, whose bit isn't among those from k on
unmarked_in : (words : List ℕ) (k j : ℕ) → k ≤ j → j / 64 ≡ k / 64 → bit_at (get_or words (k / 64) 0 / 2 ^ (k % 64)) (j - k) ≡ 0 → is_marked words j ≡ false
unmarked_in words k j up same none =
    let at : j % 64 ≡ k % 64 + (j - k) = omega (arith, up, same) in
    ap (λ b. nat_eq b 1) (ap₂ (λ q r. bit_at (get_or words q 0) r) same at ∙ sym (rest_bit (get_or words (k / 64) 0) (k % 64) (j - k)) ∙ none)

-- no number is marked before the end of a word without marks
pub unmarked_rest : (words : List ℕ) (k rest behind : ℕ) → rest ≡ get_or words (k / 64) 0 / 2 ^ (k % 64) → rest ≡ 0 → ((j : ℕ) → k ≤ j → j < behind →
    j / 64 ≡ k / 64) →
    (j : ℕ) → k ≤ j → j < behind → is_marked words j ≡ false
unmarked_rest words k rest behind is none same j up low = unmarked_in words k j up (same j up low) (ap (λ n. bit_at n (j - k)) (sym is ∙ none)
    ∙ bit_at-zero (j - k))

-- nor before the lowest mark
pub unmarked_before : (words : List ℕ) (k rest behind : ℕ) → rest ≡ get_or words (k / 64) 0 / 2 ^ (k % 64) → 0 < rest → rest < 2 ^ 64 →
    ((j : ℕ) → k ≤ j → j < behind → j / 64 ≡ k / 64) →
    (j : ℕ) → k ≤ j → j < behind → j < k + trailing_zeros w64 rest → is_marked words j ≡ false
unmarked_before words k rest behind is some fits same j up low first =
    unmarked_in words k j up (same j up low) (ap (λ n. bit_at n (j - k)) (sym is) ∙ (bit_at-trailing_zeros w64 rest some fits).2 (j - k)
    (omega (arith, up, first)))

-- ---- one mark more

abbrev pub with_mark : List ℕ → ℕ → List ℕ
with_mark words k = set words (k / 64) (bit_or (get_or words (k / 64) 0) (1 * 2 ^ (k % 64) % 2 ^ 64))

pub marked_own : (words : List ℕ) (k : ℕ) → k < length words * 64 → is_marked (with_mark words k) k ≡ true
marked_own words k l =
    ap (λ w. nat_eq (bit_at w (k % 64)) 1) (get_or-set_same words (k / 64) (bit_or (get_or words (k / 64) 0) (1 * 2 ^ (k % 64) % 2 ^ 64)) 0 (omega (arith, l)))
    ∙ ap (λ b. nat_eq b 1) (bit_at_set_same w64 (get_or words (k / 64) 0) (k % 64) (omega arith))

pub marked_rest : (words : List ℕ) (k j : ℕ) → k < length words * 64 → is_marked words j ≡ true → is_marked (with_mark words k) j ≡ true
marked_rest words k j l on = elim (cases_eq (j / 64) (k / 64)) [
  | inr ne ↦ ap (λ w. nat_eq (bit_at w (j % 64)) 1) (get_or-set_other words (k / 64) (j / 64) (bit_or (get_or words (k / 64) 0) (1 * 2 ^ (k % 64) % 2 ^ 64))
      0 ne) ∙ on
  | inl same ↦ elim (cases_eq (j % 64) (k % 64)) [
    | inl at ↦ (let e : j ≡ k = omega (arith, same, at) in ap (is_marked (with_mark words k)) e ∙ marked_own words k l)
    | inr ne ↦
        ap (λ q. nat_eq (bit_at (get_or (with_mark words k) q 0) (j % 64)) 1) same
        ∙ ap (λ w. nat_eq (bit_at w (j % 64)) 1) (get_or-set_same words (k / 64) (bit_or (get_or words (k / 64) 0) (1 * 2 ^ (k % 64) % 2 ^ 64)) 0
        (omega (arith, l)))
        ∙ ap (λ b. nat_eq b 1) (bit_at_set_other w64 (get_or words (k / 64) 0) (k % 64) (omega arith) (j % 64) ne)
        ∙ ap (λ q. nat_eq (bit_at (get_or words q 0) (j % 64)) 1) (sym same) ∙ on
  ]
]

-- ---- the list of marks

pub length-marks : (words : List ℕ) (count : ℕ) → length (marks_by words count) ≡ count
length-marks words count = length-map-range_with_len (is_marked words) 0 count

pub mark_at : (words : List ℕ) (count k : ℕ) → k < count → get_or (marks_by words count) k false ≡ is_marked words k
mark_at words count k l = get_or-map-range_with_len (is_marked words) 0 count k k false l (omega arith)

pub unmarked_list : (words : List ℕ) (count from to : ℕ) → to ≤ count → ((j : ℕ) → from ≤ j → j < to → is_marked words j ≡ false) → (j : ℕ) → from ≤ j →
    j < to → get_or (marks_by words count) j false ≡ false
unmarked_list words count from to within h j up low = mark_at words count j (omega (arith, low, within)) ∙ h j up low

pub marked_list : (words words' : List ℕ) (count : ℕ) → ((j : ℕ) → is_marked words j ≡ true → is_marked words' j ≡ true) → (j : ℕ) →
    get_or (marks_by words count) j false ≡ true → get_or (marks_by words' count) j false ≡ true
marked_list words words' count h j on = elim (cases_lt j count) [
  | inl l ↦ mark_at words' count j l ∙ h j (sym (mark_at words count j l) ∙ on)
  | inr m ↦ absurd (let none : false ≡ true = sym (get_or_past (marks_by words count) j false (let e = length-marks words count in omega (arith, e, m)))
      ∙ on in cc)
]
