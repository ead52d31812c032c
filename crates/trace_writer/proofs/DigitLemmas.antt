-- Digits that are written in parts.
use Rattle.std.proofs.Common.{ℕ, Fits, w32, w64, zero, suc, ◌+◌, ◌-◌, ◌*◌, ◌/◌, ◌%◌, ◌^◌, ◌<◌, ◌≤◌, ◌≡◌, List, [], ◌∷◌, ◌++◌, length, take, refl, sym}
use Rattle.std.proofs.Common.{subst, ap, ◌∙◌, arith, append_assoc, append-nil, length-append}
use Rattle.std.specs.Fmt.{decimal}
use Rattle.std.proofs.Math.Nat.{mul_left_comm}
use Rattle.std.proofs.lemmas.Fmt.{decimal_digit, decimal_step_wide}
use Rattle.std.proofs.lemmas.List.{take_at}
use Rattle.trace_writer.specs.Digits.{IsRaised, low_digits}

-- 10 to the power of k
abbrev pub powers : ℕ → ℕ
powers zero = 1
powers (suc k) = 10 * powers k

-- the last k digits stand after those of what is in front of them
pub split : (k q m : ℕ) → 1 ≤ q * powers k → m < powers k → q * powers k + m < 10 ^ 64 → decimal (q * powers k + m) ≡ decimal q ++ low_digits k m
split zero q m some few fits =
    let e : q * 1 + m ≡ q = omega (arith, few) in
    rw (e, append-nil) refl
split (suc k) q m some few fits =
    let a = q * powers k in
    let e : q * (10 * powers k) ≡ 10 * a = mul_left_comm q 10 (powers k) in
    let some' : 1 ≤ a = omega (arith, e, some) in
    let front : (10 * a + m) / 10 ≡ a + m / 10 = omega arith in
    let last : (10 * a + m) % 10 ≡ m % 10 = omega arith in
    let few' : m / 10 < powers k = omega (arith, few) in
    let fits' : 10 * a + m < 10 ^ 64 = omega (arith, e, fits) in
    let rest : decimal (a + m / 10) ≡ decimal q ++ low_digits k (m / 10) = split k q (m / 10) some' few' (omega (arith, fits')) in
    let step = decimal_step_wide (10 * a + m) (omega (arith, some')) fits' in
    let step' : decimal (10 * a + m) ≡ decimal (a + m / 10) ++ (48 + m % 10) ∷ [] = rw (front, last) at step in
    ap (λ n. decimal (n + m)) e ∙ step' ∙ ap (λ ds. ds ++ (48 + m % 10) ∷ []) rest ∙ append_assoc (decimal q) (low_digits k (m / 10)) _

-- a number's last digits are j of what is in front of its last k digits, and those
low_parts : (j k q m : ℕ) → m < powers k → low_digits (k + j) (q * powers k + m) ≡ low_digits j q ++ low_digits k m
low_parts j zero q m few =
    let e : q * 1 + m ≡ q = omega (arith, few) in
    let none : zero + j ≡ j = omega arith in
    ap (λ i. low_digits i (q * 1 + m)) none ∙ ap (λ n. low_digits j n) e ∙ sym (append-nil (low_digits j q))
low_parts j (suc k) q m few =
    let a = q * powers k in
    let e : q * (10 * powers k) ≡ 10 * a = mul_left_comm q 10 (powers k) in
    let front : (10 * a + m) / 10 ≡ a + m / 10 = omega arith in
    let last : (10 * a + m) % 10 ≡ m % 10 = omega arith in
    let more : suc k + j ≡ suc (k + j) = omega arith in
    let rest : low_digits (k + j) (a + m / 10) ≡ low_digits j q ++ low_digits k (m / 10) = low_parts j k q (m / 10) (omega (arith, few)) in
    ap (λ n. low_digits n (q * (10 * powers k) + m)) more ∙ ap (λ n. low_digits (suc (k + j)) (n + m)) e
    ∙ ap (λ n. low_digits (k + j) n ++ (48 + (10 * a + m) % 10) ∷ []) front ∙ ap (λ n. low_digits (k + j) (a + m / 10) ++ (48 + n) ∷ []) last
    ∙ ap (λ ds. ds ++ (48 + m % 10) ∷ []) rest ∙ append_assoc (low_digits j q) (low_digits k (m / 10)) _

-- the last sixteen digits, as two times eight
pub two_eights : (n : ℕ) (old middle whole : List ℕ) → middle ≡ old ++ low_digits 8 (n / 10 ^ 8) → whole ≡ middle ++ low_digits 8 (n % 10 ^ 8) →
    whole ≡ old ++ low_digits 16 n
two_eights n old middle whole front last =
    let e : n / 10 ^ 8 * 10 ^ 8 + n % 10 ^ 8 ≡ n = omega arith in
    last ∙ ap (λ xs. xs ++ low_digits 8 (n % 10 ^ 8)) front ∙ append_assoc old (low_digits 8 (n / 10 ^ 8)) _
    ∙ ap (λ ys. old ++ ys) (sym (low_parts 8 8 (n / 10 ^ 8) (n % 10 ^ 8) (omega arith))) ∙ ap (λ m. old ++ low_digits 16 m) e

-- a number with more than eight digits by its last eight, and what is in front of them
pub eight_parts : (n : ℕ) → 10 ^ 8 ≤ n → n < 10 ^ 64 → decimal n ≡ decimal (n / 10 ^ 8) ++ low_digits 8 (n % 10 ^ 8)
eight_parts n long fits =
    let e : n / 10 ^ 8 * 10 ^ 8 + n % 10 ^ 8 ≡ n = omega arith in
    ap decimal (sym e) ∙ split 8 (n / 10 ^ 8) (n % 10 ^ 8) (omega (arith, long)) (omega arith) (omega (arith, fits))

pub eight_length : (n : ℕ) → 10 ^ 8 ≤ n → n < 10 ^ 64 → length (decimal n) ≡ length (decimal (n / 10 ^ 8)) + 8
eight_length n long fits = ap length (eight_parts n long fits) ∙ length-append (decimal (n / 10 ^ 8)) (low_digits 8 (n % 10 ^ 8))

-- one with more than sixteen
pub sixteen_parts : (n : ℕ) → 10 ^ 16 ≤ n → n < 10 ^ 64 → decimal n ≡ decimal (n / 10 ^ 16) ++ low_digits 16 (n % 10 ^ 16)
sixteen_parts n long fits =
    let e : n / 10 ^ 16 * 10 ^ 16 + n % 10 ^ 16 ≡ n = omega arith in
    ap decimal (sym e) ∙ split 16 (n / 10 ^ 16) (n % 10 ^ 16) (omega (arith, long)) (omega arith) (omega (arith, fits))

pub sixteen_length : (n : ℕ) → 10 ^ 16 ≤ n → n < 10 ^ 64 → length (decimal n) ≡ length (decimal (n / 10 ^ 16)) + 16
sixteen_length n long fits = ap length (sixteen_parts n long fits) ∙ length-append (decimal (n / 10 ^ 16)) (low_digits 16 (n % 10 ^ 16))

-- the digits in front were written, and then the others
pub then_written : (front back all old middle whole : List ℕ) → all ≡ front ++ back → middle ≡ old ++ front → whole ≡ middle ++ back → whole ≡ old ++ all
then_written front back all old middle whole parts first last = last ∙ ap (λ xs. xs ++ back) first ∙ append_assoc old front back ∙ ap (λ ys. old ++ ys)
    (sym parts)

-- ---- numbers of at most eight digits

some_power : (k : ℕ) → 1 ≤ powers k
some_power zero = omega arith
some_power (suc k) = let some = some_power k in omega (arith, some)

-- the last digits of a number that has no more are its digits
all_digits : (c n : ℕ) → n < 10 ^ 64 → n < powers (suc c) → (1 ≤ c → powers c ≤ n) → low_digits (suc c) n ≡ decimal n
all_digits zero n fits few some =
    let e : n % 10 ≡ n = omega (arith, few) in
    ap (λ d. (48 + d) ∷ []) e ∙ sym (decimal_digit n (omega (arith, few)))
all_digits (suc c) n fits few some =
    let least = some_power c in
    let many : 10 * powers c ≤ n = some (omega arith) in
    let step = decimal_step_wide n (omega (arith, least, many)) fits in
    let rest : low_digits (suc c) (n / 10) ≡ decimal (n / 10) = all_digits c (n / 10) (omega (arith, fits)) (omega (arith, few)) (λ _. omega (arith, many)) in
    ap (λ ds. ds ++ (48 + n % 10) ∷ []) rest ∙ sym step

low_length : (k n : ℕ) → length (low_digits k n) ≡ k
low_length zero n = refl
low_length (suc k) n = length-append (low_digits k (n / 10)) ((48 + n % 10) ∷ []) ∙ ap (λ l. l + 1) (low_length k (n / 10)) ∙ omega arith

-- one of c + 1 digits, with k times 0 behind them, is one of eight that begins with these
pub raised_is : (c k n raised : ℕ) → c + k ≡ 7 → raised ≡ n * powers k → raised < 10 ^ 8 → n < 10 ^ 8 → n < powers (suc c) → (1 ≤ c → powers c ≤ n) →
    IsRaised n (suc c) raised
raised_is c k n raised eight is few fits short long =
    let all = all_digits c n (omega (arith, fits)) short long in
    let count = low_length (suc c) n in
    let some = some_power k in
    let parts : low_digits (k + suc c) (n * powers k + 0) ≡ low_digits (suc c) n ++ low_digits k 0 = low_parts (suc c) k n 0 (omega (arith, some)) in
    let e : n * powers k + 0 ≡ raised = omega (arith, is) in
    let e' : k + suc c ≡ 8 = omega (arith, eight) in
    let parts' : low_digits 8 raised ≡ low_digits (suc c) n ++ low_digits k 0 = sym (ap (λ j. low_digits j (n * powers k + 0)) e' ∙ ap (λ m. low_digits 8 m)
    e) ∙ parts in
    record {
      few = few;
      within = omega (arith, eight);
      count_is = sym count ∙ ap length all;
      digits = ap (λ ds. take (suc c) ds) parts' ∙ take_at (low_digits (suc c) n) _ (suc c) count ∙ all;
    }

-- so where a number of 24 digits more has len of them
pub raised_of_len : (len c k n raised : ℕ) → len ≡ 25 + c → c + k ≡ 7 → raised ≡ n * powers k → raised < 10 ^ 8 → n < 10 ^ 8 → n < powers (suc c) →
    (1 ≤ c → powers c ≤ n)
    → IsRaised n (len - 24) raised
raised_of_len len c k n raised len_is eight is few fits short long =
    let e : suc c ≡ len - 24 = omega (arith, len_is) in
    subst (λ m. IsRaised n m raised) e (raised_is c k n raised eight is few fits short long)

-- neither factor of a number that isn't 0 is
pub factors_some : (a b : ℕ) → 1 ≤ a * b → (1 ≤ a) × (1 ≤ b)
factors_some zero b some = absurd (omega (arith, some))
factors_some (suc a) zero some = absurd (omega (arith, some))
factors_some (suc a) (suc b) some = (omega arith, omega arith)

-- what is in front of a number's last sixteen digits, or any other number where what it leaves is no such rest
pub cut_is : (n high : ℕ) → n < 2 ^ 128 → high < 2 ^ 64 → (n + (2 ^ 128 - high * 10 ^ 16)) % 2 ^ 128 < 10 ^ 16
    → high * 10 ^ 16 + (n + (2 ^ 128 - high * 10 ^ 16)) % 2 ^ 128 ≡ n
cut_is n high fits few short = omega (arith, fits, few, short)

-- the first digits of a number were put, eight more, and the last sixteen
pub parts_put : (high low raised len : ℕ) (first middle whole : List ℕ) → 10 ^ 8 ≤ high → high < 2 ^ 64 → low < 10 ^ 16 → 25 ≤ len →
    IsRaised (high / 10 ^ 8) (len - 24) raised
    → take (len - 24) first ≡ take (len - 24) (low_digits 8 raised) → take (len - 24 + 8) middle ≡ take (len - 24) first ++ low_digits 8 (high % 10 ^ 8)
    → take (len - 16 + 16) whole ≡ take (len - 16) middle ++ low_digits 16 low → take len whole ≡ decimal (high * 10 ^ 16 + low)
parts_put high low raised len first middle whole some few short long is put_first put_middle put_last =
    let e : len ≡ len - 16 + 16 = omega (arith, long) in
    let e' : len - 16 ≡ len - 24 + 8 = omega (arith, long) in
    let front : take (len - 16) middle ≡ decimal high =
    ap (λ k. take k middle) e' ∙ put_middle ∙ ap (λ xs. xs ++ low_digits 8 (high % 10 ^ 8)) (put_first ∙ is.digits)
    ∙ sym (eight_parts high some (omega (arith, few))) in
    ap (λ k. take k whole) e ∙ put_last ∙ ap (λ xs. xs ++ low_digits 16 low) front ∙ sym (split 16 high low (omega (arith, some)) short
    (omega (arith, few, short)))

-- a number is as long as its raised front asks for
pub long_enough : (top raise len : ℕ) → 10000000 ≤ top * raise → (1 ≤ raise → 25 ≤ len) → (16 ≤ len) × (24 ≤ len)
long_enough top raise len some long =
    let longer : 25 ≤ len = long (factors_some top raise (omega (arith, some))).1 in
    (omega (arith, longer), omega (arith, longer))

-- what is in front of the last eight digits, and these
pub record IsCutAtEight (n : ℕ) : Type 0 where
  pub fits : Fits w64 n
  pub within : n / 100000000 * 100000000 ≤ n
  pub front_fits : Fits w64 (n / 100000000 * 100000000)
  pub rest : n - n / 100000000 * 100000000 < 100000000
  pub rest_fits : Fits w32 (n - n / 100000000 * 100000000)

pub cut_at_eight : (n : ℕ) → n < 2 ^ 64 → IsCutAtEight n
cut_at_eight n few = record {
  fits = omega arith;
  within = omega arith;
  front_fits = omega arith;
  rest = omega arith;
  rest_fits = omega arith;
}
