-- Names of drawn tasks.
use Rattle.std.proofs.Common.{◌≡◌, ◌≢◌, ℕ, ◌+◌, ◌%◌, ◌^◌, ◌<◌, ◌≤◌, true, List, [], ◌∷◌, ◌++◌, length, take, refl, ◌∙◌, ap, arith}
use Rattle.std.specs.Prelude.{decimal, nat_le}
use Rattle.std.specs.List.{list_all}
use Rattle.std.proofs.lemmas.Bool.{le-leb}
use Rattle.std.proofs.lemmas.Bool.Decides.{nat_tests}
use Rattle.std.proofs.lemmas.Fmt.{decimal_by_steps, decimal_injective, length-decimal-le}
use Rattle.std.proofs.lemmas.List.{take_at}
use Rattle.std.proofs.lemmas.List.Folds.{list_all-append}
use Rattle.sched_base.specs.Names.{continues_name, is_lawful_name}
use Rattle.task_gen.specs.Drill.{name_of_number}

-- a digit continues a name
digit_continues : (d : ℕ) → d < 10 → continues_name (48 + d) ≡ true
digit_continues d small =
    let above : nat_le 48 (48 + d) ≡ true = le-leb 48 (48 + d) (omega arith) in
    let below : nat_le (48 + d) 57 ≡ true = le-leb (48 + d) 57 (omega arith) in
    grind (arith, nat_tests)

all_continue : (n : ℕ) → n < 2 ^ 64 → list_all continues_name (decimal n) ≡ true
all_continue n fits = decimal_by_steps (λ k ds. list_all continues_name ds ≡ true)
    (λ d small. rw (digit_continues d small) refl)
    (λ k ds large h. rw (list_all-append continues_name ds ((48 + k % 10) ∷ []), h, digit_continues (k % 10) (omega arith)) refl)
    n fits

-- the name of each number is lawful
pub name_lawful : (n : ℕ) → n < 2 ^ 64 → is_lawful_name (name_of_number n) ≡ true
name_lawful n fits =
    let short : length (decimal n) ≤ 20 = length-decimal-le 20 n (omega arith) (omega arith) fits in
    rw (le-leb (length (decimal n)) 31 (omega arith), all_continue n fits) refl

-- two numbers have two names
pub names_apart : (m n : ℕ) → m < 2 ^ 64 → n < 2 ^ 64 → m ≢ n → name_of_number m ≢ name_of_number n
names_apart m n m_fits n_fits apart same = apart (decimal_injective m n m_fits n_fits (let e : decimal m ≡ decimal n = cc in e))

-- the first bytes of a text that begins with a name
pub name_then : (digits rest : List ℕ) (k n : ℕ) → digits ≡ decimal k → length digits ≡ n → take (1 + n) (116 ∷ (digits ++ rest)) ≡ name_of_number k
name_then digits rest k n is long = take_at (116 ∷ digits) rest (1 + n) (omega arith) ∙ ap (λ ds. 116 ∷ ds) is
