-- Lists of packs: those that pass a test, and those that are named by their places.
use Rattle.std.proofs.Common.{◌≡◌, ℕ, suc, ◌<◌, ◌≤◌, eqb, Bool, true, List, [], ◌∷◌, filter, length, get_or, ap, subst, sym, ◌∙◌, refl, arith, inl}
use Rattle.std.proofs.Common.{inr, le_refl, eq-eqb}
use Rattle.std.proofs.lemmas.Bool.{cases_Bool, cond-true, cond-false, eqb-true, ne_eqb}
use Rattle.sched_base.specs.Counting.{sum_to, bit}
use Rattle.sched_base.proofs.ListLemmas.{at_front}
use Rattle.sched_base.proofs.CountingLemmas.{bit_at, bit_off}
use Rattle.sched_base.proofs.SumLemmas.{sum_to-same, sum_to-one, sum_to-swap, sum_to-le, sum_to-alone, sum_to-ones}

-- what passes a test stood in the list, and passes
pub filter_at : (f : ℕ → Bool) (Q : ℕ → Type 0) (xs : List ℕ) → ((i : ℕ) → i < length xs → Q (get_or xs i 0)) → (i : ℕ) → i < length (filter f xs) →
    Q (get_or (filter f xs) i 0) × (f (get_or (filter f xs) i 0) ≡ true)
filter_at f Q [] all i l = absurd (omega (arith, l))
filter_at f Q (x ∷ xs) all i l =
    let rest = filter_at f Q xs (λ j b. all (suc j) (omega (arith, b))) in
    elim (cases_Bool (f x)) [
      | inl on ↦
          (let e = cond-true (f x) (x ∷ filter f xs) (filter f xs) on in
          subst (λ ys. Q (get_or ys i 0) × (f (get_or ys i 0) ≡ true)) (sym e) (at_front (λ y. Q y × (f y ≡ true)) x (filter f xs) (all 0 (omega arith), on)
          rest i (subst (λ ys. i < length ys) e l)))
      | inr off ↦
          (let e = cond-false (f x) (x ∷ filter f xs) (filter f xs) off in
          subst (λ ys. Q (get_or ys i 0) × (f (get_or ys i 0) ≡ true)) (sym e) (rest i (subst (λ ys. i < length ys) e l)))
    ]

pub length-filter-le : (f : ℕ → Bool) (xs : List ℕ) → length (filter f xs) ≤ length xs
length-filter-le f [] = le_refl 0
length-filter-le f (x ∷ xs) =
    let ih = length-filter-le f xs in
    elim (cases_Bool (f x)) [
      | inl on ↦ (let e = ap length (cond-true (f x) (x ∷ filter f xs) (filter f xs) on) in omega (arith, e, ih))
      | inr off ↦ (let e = ap length (cond-false (f x) (x ∷ filter f xs) (filter f xs) off) in omega (arith, e, ih))
    ]

-- a list of different numbers below n has at most n items
pub length_apart : (xs : List ℕ) (n : ℕ) → ((i : ℕ) → i < length xs → get_or xs i 0 < n) → ((j k : ℕ) → j < length xs → k < length xs →
    get_or xs j 0 ≡ get_or xs k 0 → j ≡ k) → length xs ≤ n
length_apart xs n below apart =
    let is : ℕ → ℕ → ℕ = λ (i v : ℕ). bit (eqb (get_or xs i 0) v) in
    let each = sum_to-same (length xs) (λ i. sum_to n (is i)) (λ i. 1) (λ i l.
    sum_to-one n (is i) (get_or xs i 0) (below i l) (λ v b ne. bit_off (eqb (get_or xs i 0) v) (ne_eqb (get_or xs i 0) v (λ e. ne (sym e))))
    ∙ bit_at (eqb (get_or xs i 0) (get_or xs i 0)) (eq-eqb (get_or xs i 0) (get_or xs i 0) refl)) in
    let swapped = sum_to-swap (length xs) n is in
    let few = sum_to-le n (λ v. sum_to (length xs) (λ i. is i v)) (λ v. 1) (λ v b.
    sum_to-alone (length xs) (λ i. eqb (get_or xs i 0) v) (λ j k jl kl je ke. apart j k jl kl (eqb-true (get_or xs j 0) v je
    ∙ sym (eqb-true (get_or xs k 0) v ke)))) in
    omega (arith, each, swapped, few, sum_to-ones (length xs), sum_to-ones n)
