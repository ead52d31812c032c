-- The first line and the first word, by the place of the byte that ends them.
use Rattle.std.proofs.Common.{zero, suc, add-one, ℕ, ◌+◌, ◌-◌, ◌*◌, ◌^◌, ◌<◌, ◌≤◌, ◌≡◌, ◌≢◌, true, List, [], ◌∷◌, ◌++◌, length, take, drop, get_or}
use Rattle.std.proofs.Common.{Some, None, option_map, leb, min, sym, refl, ap, ◌∙◌, arith}
use Rattle.std.specs.List.{list_all}
use Rattle.std.proofs.lemmas.List.{take_all, take_more, take-append-drop, length-drop}
use Rattle.std.proofs.Math.Seq.{drop-length, drop-cons}
use native.Mathlib.Numerals.{unary_clauses}
use Rattle.std.proofs.Math.Nat.{pow-le-pow_right}
use Rattle.std.specs.Str.Parse.{digits_value}
use Rattle.std.specs.Char.{digit_value}
use Rattle.std.proofs.lemmas.Bool.{and_parts, and_from, leb-true, cond-true, cond-false, eq-eqb, ne_eqb, le-ltb, lt-ltb}
use Rattle.std.proofs.lemmas.Int.Digits.{digits_value_more}
use Rattle.text_words.specs.Words.{onto_first_line, lines_of, cut_space}
use Rattle.std.specs.Char.{is_ascii_digit}
use Rattle.text_words.proofs.Parts.{onto_first}

pub line_whole : (b : ℕ) (bs : List ℕ) → ((k : ℕ) → k < length (b ∷ bs) → get_or (b ∷ bs) k 0 ≢ 10) → lines_of (b ∷ bs) ≡ (b ∷ bs) ∷ []
line_whole b [] none = cond-false _ _ _ (ne_eqb b 10 (none 0 (omega arith)))
line_whole b (c ∷ bs) none =
    cond-false _ _ _ (ne_eqb b 10 (none 0 (omega arith))) ∙ ap (onto_first_line b) (line_whole c bs (λ k h. none (suc k) (omega (arith, h))))

pub line_before : (bs : List ℕ) (n : ℕ) → n < length bs → ((k : ℕ) → k < n → get_or bs k 0 ≢ 10) → get_or bs n 0 ≡ 10 → lines_of bs ≡ take n bs ∷ lines_of
    (drop (suc n) bs)
line_before [] n h none at = absurd (omega (arith, h))
line_before (b ∷ bs) zero h none at = cond-true _ _ _ (eq-eqb b 10 at)
line_before (b ∷ bs) (suc n) h none at =
    cond-false _ _ _ (ne_eqb b 10 (none 0 (omega arith))) ∙ ap (onto_first_line b) (line_before bs n (omega (arith, h))
    (λ k l. none (suc k) (omega (arith, l))) at)

pub first_line_is : (bs : List ℕ) (n : ℕ) → n < length bs → ((k : ℕ) → k < n → get_or bs k 0 ≢ 10) → get_or bs n 0 ≡ 10 → lines_of bs ≡ take n bs ∷ lines_of
    (drop (n + 1) bs)
first_line_is bs n h none at = rw add-one (line_before bs n h none at)

pub last_line_is : (bs : List ℕ) (n : ℕ) → 0 < length bs → n ≡ length bs → ((k : ℕ) → k < n → get_or bs k 0 ≢ 10) → lines_of bs ≡ bs ∷ []
last_line_is [] n h e none = absurd (omega arith)
last_line_is (b ∷ bs) n h e none = line_whole b bs (λ k l. none k (omega (arith, l, e)))

pub cut_none : (bs : List ℕ) → ((k : ℕ) → k < length bs → get_or bs k 0 ≢ 32) → cut_space bs ≡ None
cut_none [] none = refl
cut_none (b ∷ bs) none =
    cond-false _ _ _ (ne_eqb b 32 (none 0 (omega arith))) ∙ ap (option_map (onto_first b)) (cut_none bs (λ k h. none (suc k) (omega (arith, h))))

pub cut_suc : (bs : List ℕ) (n : ℕ) → n < length bs → ((k : ℕ) → k < n → get_or bs k 0 ≢ 32) → get_or bs n 0 ≡ 32 → cut_space bs ≡ Some (
  take n bs,
  drop (suc n) bs,
)
cut_suc [] n h none at = absurd (omega (arith, h))
cut_suc (b ∷ bs) zero h none at = cond-true _ _ _ (eq-eqb b 32 at)
cut_suc (b ∷ bs) (suc n) h none at =
    cond-false _ _ _ (ne_eqb b 32 (none 0 (omega arith))) ∙ ap (option_map (onto_first b)) (cut_suc bs n (omega (arith, h))
    (λ k l. none (suc k) (omega (arith, l))) at)

pub cut_at : (bs : List ℕ) (n : ℕ) → n < length bs → ((k : ℕ) → k < n → get_or bs k 0 ≢ 32) → get_or bs n 0 ≡ 32 → cut_space bs ≡ Some (
  take n bs,
  drop (n + 1) bs,
)
cut_at bs n h none at = rw add-one (cut_suc bs n h none at)

pub digit_is : (c : ℕ) → is_ascii_digit c ≡ true → (digit_value c ≡ c - 48) × (48 ≤ c) × (c ≤ 57)
digit_is c h =
    let p = and_parts (leb 48 c) (leb c 57) h in
    let low : 48 ≤ c = leb-true _ _ p.0 in
    let high : c ≤ 57 = leb-true _ _ p.1 in
    (cond-false _ _ _ (le-ltb c 48 low) ∙ cond-true _ _ _ (lt-ltb c 58 (omega (arith, high))), low, high)

pub all_digits_at : (bs : List ℕ) (i : ℕ) → list_all is_ascii_digit bs ≡ true → i < length bs → is_ascii_digit (get_or bs i 0) ≡ true
all_digits_at [] i h l = absurd (omega (arith, l))
all_digits_at (b ∷ bs) zero h l = (and_parts (is_ascii_digit b) (list_all is_ascii_digit bs) h).0
all_digits_at (b ∷ bs) (suc i) h l = all_digits_at bs i (and_parts (is_ascii_digit b) (list_all is_ascii_digit bs) h).1 (omega (arith, l))

pub value_more : (bs : List ℕ) (i v w : ℕ) → list_all is_ascii_digit bs ≡ true → i < length bs → v ≡ min (digits_value 10 (take i bs)) (2 ^ 128 - 1) →
    w ≡ min (min (v * 10) (2 ^ 128 - 1) + (get_or bs i 0 - 48)) (2 ^ 128 - 1)
    → w ≡ min (digits_value 10 (take (i + 1) bs)) (2 ^ 128 - 1)
value_more bs i v w all h e f =
    let d = digit_is (get_or bs i 0) (all_digits_at bs i all h) in
    let m = digits_value_more 10 bs i h in
    omega (arith, e, f, m, d.0, d.1, d.2)

pub take_rest : (m n : ℕ) (bs : List ℕ) → n ≡ length bs → take (n - m) (drop m bs) ≡ drop m bs
take_rest m n bs e = take_all (n - m) (drop m bs) (omega (arith, e, length-drop m bs))

pub line_from : (bs : List ℕ) (n : ℕ) → n ≤ length bs → (n ≡ length bs → ⊥) → ((k : ℕ) → k < n → get_or bs k 0 ≢ 10) → (n < length bs → get_or bs n 0 ≡ 10)
    → lines_of bs ≡ take n bs ∷ lines_of (take (length bs - (n + 1)) (drop (n + 1) bs))
line_from bs n h ne none at =
    let below : n < length bs = omega (arith, h, ne) in
    first_line_is bs n below none (at below) ∙ ap (λ r. take n bs ∷ lines_of r) (sym (take_rest (n + 1) (length bs) bs refl))

pub line_to_end : (bs : List ℕ) (n : ℕ) → 0 < length bs → n ≡ length bs → ((k : ℕ) → k < n → get_or bs k 0 ≢ 10) → lines_of bs ≡ bs ∷ lines_of
    (take (length bs - n) (drop n bs))
line_to_end bs n some e none =
    last_line_is bs n some e none ∙ ap (λ r. bs ∷ lines_of r) (sym (take_rest n (length bs) bs refl ∙ (ap (λ w. drop w bs) e ∙ drop-length bs)))

pub cut_from : (bs : List ℕ) (n : ℕ) → n ≤ length bs → (n ≡ length bs → ⊥) → ((k : ℕ) → k < n → get_or bs k 0 ≢ 32) → (n < length bs → get_or bs n 0 ≡ 32)
    → Some (take n bs, take (length bs - (n + 1)) (drop (n + 1) bs)) ≡ cut_space bs
cut_from bs n h ne none at =
    let below : n < length bs = omega (arith, h, ne) in
    ap (λ r. Some (take n bs, r)) (take_rest (n + 1) (length bs) bs refl) ∙ sym (cut_at bs n below none (at below))

-- so many digits write a number below a power, and one more digit one below the next
pub one_more : (i n v d : ℕ) → i ≤ n → v < 10 ^ i → d ≤ 9 → (v * 10 + d < 10 ^ (i + 1)) × (v < 10 ^ n)
one_more i n v d h l m =
    let e : 10 ^ (i + 1) ≡ 10 ^ i * 10 = simp unary_clauses refl in
    let p = pow-le-pow_right {n = 10} (omega arith) h in
    (omega (arith, e, l, m), omega (arith, l, p))

list_all-append_true : (xs : List ℕ) (x : ℕ) → list_all is_ascii_digit xs ≡ true → is_ascii_digit x ≡ true → list_all is_ascii_digit (xs ++ x ∷ []) ≡ true
list_all-append_true [] x h e = and_from _ _ e refl
list_all-append_true (y ∷ xs) x h e = (let q = and_parts (is_ascii_digit y) (list_all is_ascii_digit xs) h in
    and_from _ _ q.0 (list_all-append_true xs x q.1 e))

pub all_more : (bs : List ℕ) (i : ℕ) → i < length bs → list_all is_ascii_digit (take i bs) ≡ true → is_ascii_digit (get_or bs i 0) ≡ true →
    list_all is_ascii_digit (take (i + 1) bs) ≡ true
all_more bs i h all d = ap (list_all is_ascii_digit) (take_more bs i 0 h) ∙ list_all-append_true (take i bs) (get_or bs i 0) all d

pub digits_more : (bs : List ℕ) (i v d : ℕ) → i < length bs → is_ascii_digit (get_or bs i 0) ≡ true → v ≡ digits_value 10 (take i bs) →
    d ≡ get_or bs i 0 - 48 → v * 10 + d ≡ digits_value 10 (take (i + 1) bs)
digits_more bs i v d h digit e f =
    let p = digit_is (get_or bs i 0) digit in
    let m = digits_value_more 10 bs i h in
    omega (arith, e, f, m, p.0)

pub small_digit : (c d : ℕ) → is_ascii_digit c ≡ true → d ≡ c - 48 → d ≤ 9
small_digit c d h e = (let p = digit_is c h in omega (arith, e, p.2))

pub cut_here : (bs : List ℕ) (n : ℕ) → n < length bs → get_or bs n 0 ≡ 32 → bs ≡ take n bs ++ 32 ∷ drop (n + 1) bs
cut_here bs n h e = rw add-one (sym (take-append-drop n bs) ∙ (ap (λ r. take n bs ++ r) (drop-cons bs n 0 h ∙ ap (λ b. b ∷ drop (suc n) bs) e)))
