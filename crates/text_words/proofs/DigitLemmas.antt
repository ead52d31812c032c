-- Digits at the front of a text, and those that follow them.
use Rattle.std.proofs.Common.{zero, suc, ℕ, ◌+◌, ◌-◌, ◌*◌, ◌%◌, ◌^◌, ◌<◌, ◌≤◌, ◌≡◌, Bool, true, false, cond, List, [], ◌∷◌, ◌++◌, length, take, drop}
use Rattle.std.proofs.Common.{sym, refl, ap, ◌∙◌, arith}
use Rattle.std.specs.Char.{is_ascii_digit}
use Rattle.std.specs.Float.Numeral.{digits_len}
use Rattle.std.specs.List.{list_all}
use Rattle.std.specs.Str.Parse.{digits_value}
use Rattle.std.proofs.Math.Nat.{mul-le-mul, pow-le-pow_right}
use Rattle.std.proofs.Math.Seq.{take-add}
use Rattle.std.proofs.lemmas.Bool.{and_from}
use Rattle.std.proofs.lemmas.Int.Digits.{digits_value-lt}
use Rattle.std.proofs.lemmas.List.{take-take, length-take-le}
use Rattle.std.proofs.lemmas.List.Folds.{list_all-append}
use Rattle.core.proofs.dec2flt.DigitsLemmas.{digits_value-append}
use Rattle.core.proofs.dec2flt.Rows.{AllDigits-digits_len}

digits_front : (xs : List ℕ) (n : ℕ) → n ≤ digits_len xs → list_all is_ascii_digit (take n xs) ≡ true
digits_front xs zero h = refl
digits_front [] (suc n) h = refl
digits_front (x ∷ xs) (suc n) h = go (digits_front xs n) (is_ascii_digit x) refl h
  where
    go : (n ≤ digits_len xs → list_all is_ascii_digit (take n xs) ≡ true) → (b : Bool) → is_ascii_digit x ≡ b → suc n ≤ cond b (1 + digits_len xs) 0 →
        list_all is_ascii_digit (x ∷ take n xs) ≡ true
    go rest true e k = and_from _ _ e (rest (omega arith))
    go rest false e k = absurd (omega arith)

-- so many digits stand at the front of the text, and they write this number
pub record Front (text : List ℕ) (n v : ℕ) : Type 0 where
  pub within : n ≤ length text
  pub digits : list_all is_ascii_digit (take n text) ≡ true
  pub value : v ≡ digits_value 10 (take n text)
  pub bound : v < 10 ^ n

-- of the first bytes of a text, at most 19 of them, those at the front that are digits
pub front : (text : List ℕ) (k n v : ℕ) → k ≤ length text → k ≤ 19 → n ≡ 0 + digits_len (take k text) → n ≤ length (take k text)
    → v ≡ (0 * 10 ^ (n - 0) + digits_value 10 (take (n - 0) (take k text))) % 2 ^ 64 → Front text n v
front text k n v fits few is within value_at =
    let same_count : n - 0 ≡ n = omega arith in
    let value : v ≡ (0 * 10 ^ n + digits_value 10 (take n (take k text))) % 2 ^ 64
    = value_at ∙ ap (λ m. (0 * 10 ^ m + digits_value 10 (take m (take k text))) % 2 ^ 64) same_count in
    let long : length (take k text) ≡ k = length-take-le k text fits in
    let least : n ≤ k = omega (arith, within, long) in
    let same : take n (take k text) ≡ take n text = take-take n k text least in
    let count : length (take n (take k text)) ≡ n = length-take-le n (take k text) within in
    let below : digits_value 10 (take n (take k text)) < 10 ^ length (take n (take k text))
    = digits_value-lt 10 (take n (take k text)) (AllDigits-digits_len (take k text) n (omega (arith, is))) in
    let below' : digits_value 10 (take n (take k text)) < 10 ^ n = rw count at below in
    let top : n ≤ 19 = omega (arith, least, few) in
    let most : 10 ^ n ≤ 10 ^ 19 = pow-le-pow_right {n = 10} (omega arith) top in
    let whole : v ≡ digits_value 10 (take n (take k text)) = omega (arith, value, below', most) in
    record {
      within = omega (arith, least, fits);
      digits = ap (list_all is_ascii_digit) (sym same) ∙ digits_front (take k text) n (omega (arith, is));
      value = whole ∙ ap (digits_value 10) same;
      bound = omega (arith, whole, below');
    }

-- digits that follow others
pub digits_on : (text part : List ℕ) (n m v w : ℕ) → part ≡ drop n text → list_all is_ascii_digit (take n text) ≡ true → v ≡ digits_value 10 (take n text)
    → list_all is_ascii_digit (take m part) ≡ true → m ≤ length part → w ≡ digits_value 10 (take m part)
    → (list_all is_ascii_digit (take (n + m) text) ≡ true) × (v * 10 ^ m + w ≡ digits_value 10 (take (n + m) text))
digits_on text part n m v w is digits value more room low =
    let split : take (n + m) text ≡ take n text ++ take m part = take-add n m text ∙ ap (λ p. take n text ++ take m p) (sym is) in
    let count : length (take m part) ≡ m = length-take-le m part room in
    let joined : digits_value 10 (take n text ++ take m part) ≡ digits_value 10 (take n text) * 10 ^ length (take m part) + digits_value 10 (take m part)
    = digits_value-append (take n text) (take m part) in (
      ap (list_all is_ascii_digit) split ∙ (list_all-append is_ascii_digit (take n text) (take m part) ∙ and_from _ _ digits more),
      ap (λ a. a * 10 ^ m + w) value ∙ (ap (λ b. digits_value 10 (take n text) * 10 ^ m + b) low
          ∙ (ap (λ k. digits_value 10 (take n text) * 10 ^ k + digits_value 10 (take m part)) (sym count) ∙ (sym joined ∙ ap (digits_value 10) (sym split)))),
    )

-- two parts of at most 19 digits each
pub wide_fits : (v w m p : ℕ) → v < 10 ^ 19 → m ≤ 19 → p ≡ 10 ^ m → w < 10 ^ m → v * p + w < 2 ^ 128
wide_fits v w m p small few is low =
    let most : 10 ^ m ≤ 10 ^ 19 = pow-le-pow_right {n = 10} (omega arith) few in
    let left : v ≤ 10 ^ 19 = omega (arith, small) in
    let right : p ≤ 10 ^ 19 = omega (arith, is, most) in
    let product : v * p ≤ 10 ^ 19 * 10 ^ 19 = mul-le-mul left right in
    omega (arith, product, low, most)
