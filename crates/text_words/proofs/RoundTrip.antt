-- What is written is read again.
use Rattle.std.proofs.Common.{ℕ, ◌+◌, ◌/◌, ◌%◌, ◌^◌, ◌<◌, ◌≤◌, ◌≡◌, ◌≢◌, Bool, true, List, [], ◌∷◌, ◌++◌, Some, option_map, refl, ap, ◌∙◌, arith, decimal}
use Rattle.std.specs.List.{list_all, AllByRecursion}
use Rattle.std.specs.Str.Parse.{digits_value}
use Rattle.std.proofs.lemmas.Bool.{cond-true, cond-false, ne_eqb, and_from, and_parts, le-leb}
use Rattle.std.proofs.lemmas.Fmt.{decimal_by_steps_wide}
use Rattle.std.proofs.lemmas.Int.Digits.{digits_value_push}
use Rattle.text_words.specs.Words.{onto_first_line, lines_of, cut_space, leads, number_of}
use Rattle.std.specs.Char.{is_ascii_digit}
use Rattle.text_words.proofs.TextLemmas.{digit_is}
use Rattle.text_words.proofs.Parts.{onto_first}

pub cut_spaced : (a b : List ℕ) → AllByRecursion (λ x. x ≢ 32) a → cut_space (a ++ 32 ∷ b) ≡ Some (a, b)
cut_spaced [] b none = refl
cut_spaced (x ∷ a) b none = cond-false _ _ _ (ne_eqb x 32 none.0) ∙ ap (option_map (onto_first x)) (cut_spaced a b none.1)

pub line_written : (l rest : List ℕ) → AllByRecursion (λ x. x ≢ 10) l → lines_of (l ++ (10 ∷ rest)) ≡ l ∷ lines_of rest
line_written [] rest none = refl
line_written (x ∷ l) rest none = cond-false _ _ _ (ne_eqb x 10 none.0) ∙ ap (onto_first_line x) (line_written l rest none.1)

-- digits, none of them a zero in front unless it is alone
pub record Writes (n : ℕ) (ds : List ℕ) : Type 0 where
  pub digits : list_all is_ascii_digit ds ≡ true
  pub value : digits_value 10 ds ≡ n
  pub leading : leads ds ≡ true
  pub positive : 0 < n → (ds ≡ 48 ∷ []) → ⊥

pub list_all-push : (p : ℕ → Bool) (xs : List ℕ) (x : ℕ) → list_all p xs ≡ true → p x ≡ true → list_all p (xs ++ x ∷ []) ≡ true
list_all-push p [] x h e = and_from _ _ e refl
list_all-push p (y ∷ xs) x h e = let q = and_parts (p y) (list_all p xs) h in and_from _ _ q.0 (list_all-push p xs x q.1 e)

pub digit_of : (d : ℕ) → d < 10 → is_ascii_digit (48 + d) ≡ true
digit_of d h = and_from _ _ (le-leb 48 (48 + d) (omega arith)) (le-leb (48 + d) 57 (omega (arith, h)))

-- a digit behind digits that are no lone zero
pub leads-push : (ds : List ℕ) (x : ℕ) → leads ds ≡ true → (ds ≡ 48 ∷ [] → ⊥) → leads (ds ++ x ∷ []) ≡ true
leads-push [] x h ne = refl
leads-push (b ∷ []) x h ne = cond-false _ _ _ (ne_eqb b 48 (λ e. ne (ap (λ w. w ∷ []) e)))
leads-push (b ∷ (c ∷ ds)) x h ne = h

pub long_push : (ds : List ℕ) (x : ℕ) → leads ds ≡ true → (ds ++ x ∷ [] ≡ 48 ∷ []) → ⊥
long_push [] x h e = cc
long_push (b ∷ []) x h e = cc
long_push (b ∷ (c ∷ ds)) x h e = cc

pub one_digit : (n : ℕ) → n < 10 → Writes n ((48 + n) ∷ [])
one_digit n small = record {
  digits = and_from _ _ (digit_of n small) refl;
  value = (let d = digit_is (48 + n) (digit_of n small) in omega (arith, d.0));
  leading = refl;
  positive = λ some e. (let z : 48 + n ≡ 48 = cc in omega (arith, z, some));
}

pub more_digits : (n : ℕ) (ds : List ℕ) → 10 ≤ n → Writes (n / 10) ds → Writes n (ds ++ ((48 + n % 10) ∷ []))
more_digits n ds big w =
    let small : n % 10 < 10 = omega arith in
    let some : 0 < n / 10 = omega (arith, big) in
    record {
      digits = list_all-push is_ascii_digit ds (48 + n % 10) w.digits (digit_of (n % 10) small);
      value = (let push = digits_value_push 10 ds (48 + n % 10) in let d = digit_is (48 + n % 10) (digit_of (n % 10) small) in let v = w.value in
          omega (arith, push, d.0, v));
      leading = leads-push ds (48 + n % 10) w.leading (w.positive some);
      positive = λ h e. long_push ds (48 + n % 10) w.leading e;
    }

pub writes_decimal : (n : ℕ) → n < 10 ^ 64 → Writes n (decimal n)
writes_decimal n h = decimal_by_steps_wide Writes one_digit more_digits n h

pub number_of_decimal : (n : ℕ) → n < 10 ^ 64 → number_of (decimal n) ≡ Some n
number_of_decimal n h =
    let w = writes_decimal n h in
    cond-true _ _ _ (and_from _ _ w.leading w.digits) ∙ ap Some w.value
