-- A number whose digits are kept in two parts, and put as blocks.
use Rattle.std.proofs.Common.{ℕ, zero, suc, ◌+◌, ◌-◌, ◌*◌, ◌/◌, ◌%◌, ◌^◌, ◌<◌, ◌≤◌, ◌≡◌, List, ◌++◌, length, take, drop, length-append, refl, sym, ap}
use Rattle.std.proofs.Common.{◌∙◌, arith, append_assoc, take-take}
use Rattle.std.specs.Fmt.{decimal}
use Rattle.std.proofs.Math.Seq.{take-append-add}
use Rattle.std.proofs.lemmas.List.{length-drop, length-take-le, take_all, take-append-drop, take-append-le, take_at}
use Rattle.trace_writer.specs.Digits.{front_digits, low_digits}
use Rattle.trace_writer.proofs.DigitLemmas.{eight_length, eight_parts, split}

-- a block was put at a place, of which the first bytes count
pub block_put : (old block rest : List ℕ) (at len : ℕ) → at ≤ length old → len ≤ length block → take (at + len) (take at old ++ (block ++ rest)) ≡ take at
    old ++ take len block
block_put old block rest at len within fits =
    let long : length (take at old) ≡ at = length-take-le at old within in
    ap (λ n. take (n + len) (take at old ++ (block ++ rest))) (sym long) ∙ take-append-add (take at old) (block ++ rest) len ∙ ap (λ ds. take at old ++ ds)
    (take-append-le len block rest fits)

-- a text was put by its first bytes and its last ones
pub ends_put : (old text rest later : List ℕ) (at some : ℕ) → at ≤ length old → some ≤ length text → length text ≤ 2 * some
    → take (at + length text) (take (at + length text - some) (take at old ++ (take some text ++ rest))
    ++ (take (length text - (length text - some)) (drop (length text - some) text) ++ later)) ≡ take at old ++ text
ends_put old text rest later at some within fits whole =
    let m = length text - some in
    let front = take at old in
    let first = front ++ take m text in
    let last = drop m text in
    let some_long : length (take some text) ≡ some = length-take-le some text fits in
    let inner : take (at + m) (front ++ (take some text ++ rest)) ≡ first =
    block_put old (take some text) rest at m within (omega (arith, some_long, whole)) ∙ ap (λ ds. front ++ ds) (take-take m some text (omega (arith, whole))) in
    let e : at + length text - some ≡ at + m = omega (arith, fits) in
    let front_long = length-take-le at old within in
    let m_long = length-take-le m text (omega arith) in
    let first_long = length-append front (take m text) in
    let last_long = length-drop m text in
    let all : take (length text - m) last ≡ last = take_all (length text - m) last (omega (arith, last_long)) in
    let total : at + length text ≡ length first + some = omega (arith, front_long, m_long, first_long, fits) in
    ap (λ xs. take (at + length text) (take (at + length text - some) (front ++ (take some text ++ rest)) ++ (xs ++ later))) all
    ∙ ap (λ n. take (at + length text) (take n (front ++ (take some text ++ rest)) ++ (last ++ later))) e
    ∙ ap (λ xs. take (at + length text) (xs ++ (last ++ later))) inner
    ∙ ap (λ n. take n (first ++ (last ++ later))) total
    ∙ take-append-add first (last ++ later) some
    ∙ ap (λ ds. first ++ ds) (take_at last later some (omega (arith, last_long, fits)))
    ∙ append_assoc front (take m text) last ∙ ap (λ ds. front ++ ds) (take-append-drop m text)

-- ---- a number by its last eight digits and its front

pub front_some : (q : ℕ) → 1 ≤ q → front_digits q ≡ decimal q
front_some zero some = absurd (omega (arith, some))
front_some (suc q) some = refl

-- where eight digits were put behind these, these stay
pub front_stays : (at : ℕ) (text after digits : List ℕ) → at ≤ length text → take (at + 8) after ≡ take at text ++ digits → take at after ≡ take at text
front_stays at text after digits within put =
    sym (take-take at (at + 8) after (omega arith)) ∙ ap (λ xs. take at xs) put ∙ take_at (take at text) digits at (length-take-le at text within)

-- the last eight digits were put behind the front
pub front_and_last : (q low len : ℕ) (text after : List ℕ) → 1 ≤ q → q < 10 ^ 20 → low < 10 ^ 8 → take len text ≡ front_digits q
    → take (len + 8) after ≡ take len text ++ low_digits 8 low → take (len + 8) after ≡ decimal (q * 10 ^ 8 + low)
front_and_last q low len text after some fits few is put =
    put ∙ ap (λ xs. xs ++ low_digits 8 low) (is ∙ front_some q some) ∙ sym (split 8 q low (omega (arith, some)) (omega (arith, few)) (omega (arith, fits, few)))

-- a front of more than eight digits has so many
pub front_length : (q len : ℕ) (text : List ℕ) → 10 ^ 8 ≤ q → q < 10 ^ 64 → len ≤ length text → take len text ≡ front_digits q →
    len ≡ length (decimal (q / 10 ^ 8)) + 8
front_length q len text long fits within is = sym (length-take-le len text within) ∙ ap length (is ∙ front_some q (omega (arith, long))) ∙ eight_length q
    long fits

-- its digits before the last eight
pub front_high : (q len : ℕ) (text : List ℕ) → 10 ^ 8 ≤ q → q < 10 ^ 64 → len ≤ length text → take len text ≡ front_digits q → take (len - 8) text ≡ decimal
    (q / 10 ^ 8)
front_high q len text long fits within is =
    let all = front_length q len text long fits within is in
    let parts : take len text ≡ decimal (q / 10 ^ 8) ++ low_digits 8 (q % 10 ^ 8) = is ∙ front_some q (omega (arith, long)) ∙ eight_parts q long fits in
    sym (take-take (len - 8) len text (omega arith)) ∙ ap (λ xs. take (len - 8) xs) parts ∙ take_at (decimal (q / 10 ^ 8)) _ (len - 8) (omega (arith, all))

-- eight more were put behind these
pub front_again : (q next len : ℕ) (text after : List ℕ) → 10 ^ 8 ≤ q → q < 10 ^ 64 → next < 10 ^ 64 → len ≤ length text → take len text ≡ front_digits q
    → next / 10 ^ 8 ≡ q / 10 ^ 8 → take (len - 8 + 8) after ≡ take (len - 8) text ++ low_digits 8 (next % 10 ^ 8) → take len after ≡ front_digits next
front_again q next len text after long fits fits' within is same put =
    let all = front_length q len text long fits within is in
    let e : len ≡ len - 8 + 8 = omega (arith, all) in
    let some : 10 ^ 8 ≤ next = omega (arith, long, same) in
    ap (λ k. take k after) e ∙ put ∙ ap (λ xs. xs ++ low_digits 8 (next % 10 ^ 8)) (front_high q len text long fits within is)
    ∙ ap (λ k. decimal k ++ low_digits 8 (next % 10 ^ 8)) (sym same) ∙ sym (front_some next (omega (arith, some)) ∙ eight_parts next some fits')
