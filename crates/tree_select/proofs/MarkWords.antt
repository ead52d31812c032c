-- The bits of words as marks.
use Rattle.std.proofs.Common.{◌≡◌, ◌≢◌, ℕ, ◌+◌, ◌-◌, ◌*◌, ◌/◌, ◌%◌, ◌^◌, ◌<◌, Bool, true, false, List, Vec, length, replicate, get_or, refl, ap}
use Rattle.std.proofs.Common.{arith, inl, inr, sym, ◌∙◌, eq-eqb, w64}
use Rattle.std.specs.Prelude.{nat_eq}
use Rattle.std.specs.Vec.{with_items}
use Rattle.std.specs.Int.{bit_at, trailing_zeros}
use Rattle.std.specs.Int.RustNames.{bit_and, bit_or}
use Rattle.std.proofs.Math.ListN.{set}
use Rattle.std.proofs.lemmas.Bool.{cases_eq, eqb-true, ne_eqb}
use Rattle.std.proofs.lemmas.List.{ext_get_or, get_or-set_other, get_or-set_same, get_or-replicate, length-set, length-replicate, with_items_is}
use Rattle.std.proofs.lemmas.List.FromFn.{length-map-range_with_len, get_or-map-range_with_len}
use Rattle.std.proofs.lemmas.Nat.Bits.{bit_at-zero, bit_at-lt, bit_at_and, bit_at_ones, bit_at-trailing_zeros, bit_at_set_same, bit_at_set_other}
use Rattle.tree_select.specs.Marks.{has_bit, is_marked, marks_by, IsShown}

-- what was written into a vector is what it holds
pub written : {X Z : Type 0} (v : Vec X Z) (old new : List X) → old ≡ v.items → length new ≡ length old → (with_items v new).items ≡ new
written v old new is same = with_items_is v new (let long = ap length is in let ok = v.ok.0 in omega (arith, long, same, ok))

-- ---- one bit

-- a set bit is 1, and another is 0
pub bit_on : (word k : ℕ) → has_bit word k ≡ true → bit_at word k ≡ 1
bit_on word k e = eqb-true (bit_at word k) 1 e

pub off_bit : (word k : ℕ) → bit_at word k ≡ 0 → has_bit word k ≡ false
off_bit word k e = ne_eqb (bit_at word k) 1 (λ one. omega (arith, e, one))

-- the bits of nothing
pub no_bits : (k : ℕ) → has_bit 0 k ≡ false
no_bits k = off_bit 0 k (bit_at-zero k)

-- a bit more
pub bit_more_own : (word k : ℕ) → k < 64 → has_bit (bit_or word (1 * 2 ^ k % 2 ^ 64)) k ≡ true
bit_more_own word k l = eq-eqb _ 1 (bit_at_set_same w64 word k l)

pub bit_more_rest : (word k i : ℕ) → k < 64 → i ≢ k → has_bit (bit_or word (1 * 2 ^ k % 2 ^ 64)) i ≡ has_bit word i
bit_more_rest word k i l ne = ap (λ b. nat_eq b 1) (bit_at_set_other w64 word k l i ne)

-- ---- a mark more, and one less

-- where one word changes in one bit, so does one mark
module _ (words words' : List ℕ) (n word : ℕ) (l : n < length words * 64) (is : words' ≡ set words (n / 64) word) where
  changed : (k : ℕ) → k / 64 ≡ n / 64 → get_or words' (k / 64) 0 ≡ word
  changed k same = ap (λ (ws : List ℕ). get_or ws (k / 64) 0) is ∙ ap (λ q. get_or (set words (n / 64) word) q 0) same ∙ get_or-set_same words (n / 64) word
      0 (omega (arith, l))

  pub changed_own : (on : Bool) → has_bit word (n % 64) ≡ on → is_marked words' n ≡ on
  changed_own on e = ap (λ w. has_bit w (n % 64)) (changed n refl) ∙ e

  pub changed_rest : ((i : ℕ) → i < 64 → i ≢ n % 64 → has_bit word i ≡ has_bit (get_or words (n / 64) 0) i) → (k : ℕ) → k ≢ n →
      is_marked words' k ≡ is_marked words k
  changed_rest rest k ne = elim (cases_eq (k / 64) (n / 64)) [
    | inl same ↦
        ap (λ w. has_bit w (k % 64)) (changed k same)
        ∙ rest (k % 64) (omega arith) (λ at. ne (omega (arith, same, at)))
        ∙ ap (λ q. has_bit (get_or words q 0) (k % 64)) (sym same)
    | inr other ↦ ap (λ w. has_bit w (k % 64)) (ap (λ (ws : List ℕ). get_or ws (k / 64) 0) is ∙ get_or-set_other words (n / 64) (k / 64) word 0 other)
  ]

-- ---- the list of marks

pub length-marks : (words : List ℕ) (count : ℕ) → length (marks_by words count) ≡ count
length-marks words count = length-map-range_with_len (is_marked words) 0 count

pub mark_at : (words : List ℕ) (count k : ℕ) → k < count → get_or (marks_by words count) k false ≡ is_marked words k
mark_at words count k l = get_or-map-range_with_len (is_marked words) 0 count k k false l (omega arith)

pub marks_set : (words words' : List ℕ) (count n : ℕ) (on : Bool) → n < count → is_marked words' n ≡ on → ((k : ℕ) → k ≢ n → is_marked words' k ≡ is_marked
    words k) → marks_by words' count ≡ set (marks_by words count) n on
marks_set words words' count n on l own rest =
    ext_get_or false (marks_by words' count) (set (marks_by words count) n on) (length-marks words' count ∙ sym (length-set (marks_by words count) n on
    ∙ length-marks words count)) each
  where
    each : (k : ℕ) → k < length (marks_by words' count) → get_or (marks_by words' count) k false ≡ get_or (set (marks_by words count) n on) k false
    each k m =
        let low : k < count = (let e = length-marks words' count in omega (arith, e, m)) in
        mark_at words' count k low
        ∙ elim (cases_eq k n) [
          | inl same ↦
              ap (is_marked words') same ∙ own
              ∙ sym (ap (λ i. get_or (set (marks_by words count) n on) i false) same ∙ get_or-set_same (marks_by words count) n on false
              (let e = length-marks words count in omega (arith, e, l)))
          | inr ne ↦ rest k ne ∙ sym (get_or-set_other (marks_by words count) n k on false ne ∙ mark_at words count k low)
        ]

-- words of ones are marks of all
pub all_marked : (count : ℕ) → marks_by (replicate (count / 64 + 1) (2 ^ 64 - 1)) count ≡ replicate count true
all_marked count =
    let words = replicate (count / 64 + 1) (2 ^ 64 - 1) in
    ext_get_or false (marks_by words count) (replicate count true) (length-marks words count ∙ sym (length-replicate count true))
    (λ k m.
    let low : k < count = (let e = length-marks words count in omega (arith, e, m)) in
    mark_at words count k low
    ∙ eq-eqb _ 1 (ap (λ w. bit_at w (k % 64)) (get_or-replicate (count / 64 + 1) (k / 64) (2 ^ 64 - 1) 0 (omega (arith, low))) ∙ bit_at_ones 64 (k % 64)
    (omega arith))
    ∙ sym (get_or-replicate count k true false low))

-- ---- the first mark of a word that a mask shows

module _ (words : List ℕ) (word mask : ℕ) where
  -- the mark of a node that the mask shows is a bit of both
  shown_bit : (k : ℕ) → IsShown word mask k → bit_at (bit_and (get_or words word 0) mask) (k % 64) ≡ bit_at (get_or words word 0) (k % 64)
  shown_bit k shown =
      let both = bit_at_and (get_or words word 0) mask (k % 64) in
      let on = bit_on mask (k % 64) shown.1 in
      let few = bit_at-lt (get_or words word 0) (k % 64) in
      omega (arith, both, on, few)

  unmarked_by : (k : ℕ) → IsShown word mask k → bit_at (bit_and (get_or words word 0) mask) (k % 64) ≡ 0 → is_marked words k ≡ false
  unmarked_by k shown none = ap (λ q. has_bit (get_or words q 0) (k % 64)) shown.0 ∙ off_bit (get_or words word 0) (k % 64) (sym (shown_bit k shown) ∙ none)

  pub unmarked_all : bit_and (get_or words word 0) mask ≡ 0 → (k : ℕ) → IsShown word mask k → is_marked words k ≡ false
  unmarked_all none k shown = unmarked_by k shown (ap (λ n. bit_at n (k % 64)) none ∙ bit_at-zero (k % 64))

  module _ (some : 0 < bit_and (get_or words word 0) mask) (fits : bit_and (get_or words word 0) mask < 2 ^ 64) where
    abbrev zeros : ℕ
    zeros = trailing_zeros w64 (bit_and (get_or words word 0) mask)

    lowest : (zeros < 64) × (bit_at (bit_and (get_or words word 0) mask) zeros ≡ 1) × ((i : ℕ) → i < zeros → bit_at (bit_and (get_or words word 0) mask) i ≡ 0)
    lowest = bit_at-trailing_zeros w64 (bit_and (get_or words word 0) mask) some fits

    -- both of its bits are set
    first_bits : (has_bit (get_or words word 0) zeros ≡ true) × (has_bit mask zeros ≡ true)
    first_bits =
        let both = bit_at_and (get_or words word 0) mask zeros in
        let one = lowest.1 in
        let few = bit_at-lt (get_or words word 0) zeros in
        let few' = bit_at-lt mask zeros in
        (eq-eqb _ 1 (omega (arith, both, one, few)), eq-eqb _ 1 (omega (arith, both, one, few')))

    pub first_shown : (n : ℕ) → n ≡ word * 64 + zeros → IsShown word mask n
    first_shown n is =
        let low = lowest.0 in
        let at : n % 64 ≡ zeros = omega (arith, is, low) in
        (omega (arith, is, low), ap (has_bit mask) at ∙ first_bits.1)

    pub first_marked : (n : ℕ) → n ≡ word * 64 + zeros → is_marked words n ≡ true
    first_marked n is =
        let low = lowest.0 in
        let at : n % 64 ≡ zeros = omega (arith, is, low) in
        let in_word : n / 64 ≡ word = omega (arith, is, low) in
        ap (λ q. has_bit (get_or words q 0) (n % 64)) in_word ∙ ap (has_bit (get_or words word 0)) at ∙ first_bits.0

    pub unmarked_before : (n k : ℕ) → n ≡ word * 64 + zeros → IsShown word mask k → k < n → is_marked words k ≡ false
    unmarked_before n k is shown before =
        let in_word = shown.0 in
        unmarked_by k shown (lowest.2 (k % 64) (omega (arith, is, in_word, before)))
