-- Values of options: a word that writes a number begins with no hyphen, so `clap` takes it for a value.
use Rattle.std.proofs.Common.{◌≡◌, ◌≢◌, ℕ, ◌≤◌, List, [], ◌∷◌, Option, Some, true, false, eqb, ne_eqb, arith, rules, tests}
use Rattle.std.specs.Prelude.{option_and_then}
use Rattle.std.specs.Char.{is_ascii_digit}
use Rattle.text_words.specs.Words.{number_of}
use Rattle.command_words.proofs.WordLemmas.{no_some, and_then_some}

-- the word begins, and with no hyphen
abbrev pub IsBare : List ℕ → Type 0
IsBare [] = ⊥
IsBare (d ∷ ds) = eqb d 45 ≡ false

begins_with_digit : (d : ℕ) (ds : List ℕ) (n : ℕ) → number_of (d ∷ ds) ≡ Some n → is_ascii_digit d ≡ true
begins_with_digit d ds n e = search (rules, tests)

digit_is_bare : (d : ℕ) → is_ascii_digit d ≡ true → eqb d 45 ≡ false
digit_is_bare d is =
    let low : 48 ≤ d = search (rules, tests) in
    let other : d ≢ 45 = λ e. absurd (omega (arith, e, low)) in
    ne_eqb d 45 other

number_is_bare : (v : List ℕ) (n : ℕ) → number_of v ≡ Some n → IsBare v
number_is_bare [] n e = no_some n e
number_is_bare (d ∷ ds) n e = digit_is_bare d (begins_with_digit d ds n e)

-- a number in some range is one
pub in_range_is_bare : (range : ℕ → Option ℕ) (v : List ℕ) (n : ℕ) → option_and_then range (number_of v) ≡ Some n → IsBare v
in_range_is_bare range v n e = let (m, is, within) = and_then_some range (number_of v) n e in number_is_bare v m is
