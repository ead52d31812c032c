-- Places of lists after a write and after a push.
use Rattle.std.proofs.Common.{◌≡◌, ◌≢◌, ℕ, zero, suc, ◌+◌, ◌<◌, ◌≤◌, List, [], ◌∷◌, ◌++◌, Option, Some, length, set, get_or, refl, sym, ap, ◌∙◌}
use Rattle.std.proofs.Common.{subst, arith, inl, inr}
use Rattle.std.specs.Prelude.{slice_get}
use Rattle.std.proofs.lemmas.Bool.{cases_eq}
use Rattle.std.proofs.Math.ListN.{get_or-append}
use Rattle.std.proofs.Math.Seq.{get_or-append_seam}

pub slice_get-set_same : {X : Type 0} (xs : List X) (i : ℕ) (x : X) → i < length xs → slice_get (set xs i x) i ≡ Some x
slice_get-set_same [] i x within = absurd (omega arith)
slice_get-set_same (y ∷ xs) zero x within = refl
slice_get-set_same (y ∷ xs) (suc i) x within = slice_get-set_same xs i x (omega arith)

slice_get-set_other : {X : Type 0} (xs : List X) (i j : ℕ) (x : X) → j ≢ i → slice_get (set xs i x) j ≡ slice_get xs j
slice_get-set_other [] i j x other = refl
slice_get-set_other (y ∷ xs) zero zero x other = absurd (other refl)
slice_get-set_other (y ∷ xs) zero (suc j) x other = refl
slice_get-set_other (y ∷ xs) (suc i) zero x other = refl
slice_get-set_other (y ∷ xs) (suc i) (suc j) x other = slice_get-set_other xs i j x (λ same. other (ap suc same))

-- what holds of the places before i holds of those up to i, where it holds of what is written there
pub below_set : {X : Type 0} (P : ℕ → Option X → Type 0) (xs : List X) (i : ℕ) (x : X) → i < length xs → P i (Some x) →
    ((q : ℕ) → q < i → P q (slice_get xs q)) → (q : ℕ) → q < i + 1 → P q (slice_get (set xs i x) q)
below_set P xs i x within here before q below = elim (cases_eq q i) [
  | inl same ↦ subst (λ n. P n (slice_get (set xs i x) n)) (sym same) (subst (P i) (sym (slice_get-set_same xs i x within)) here)
  | inr other ↦ subst (P q) (sym (slice_get-set_other xs i q x other)) (before q (omega (arith, below, other)))
]

-- what holds of the places from i on holds of those after i
pub above_set : {X : Type 0} (P : ℕ → Option X → Type 0) (xs : List X) (i : ℕ) (x : X) → ((q : ℕ) → i ≤ q → P q (slice_get xs q)) → (q : ℕ) → i + 1 ≤ q →
    P q (slice_get (set xs i x) q)
above_set P xs i x after q above = subst (P q) (sym (slice_get-set_other xs i q x (λ same. absurd (omega (arith, same, above)))))
    (after q (omega (arith, above)))

pub slice_get-push_last : {X : Type 0} (xs : List X) (x : X) (n : ℕ) → length xs ≡ n → slice_get (xs ++ x ∷ []) n ≡ Some x
slice_get-push_last [] x zero same = refl
slice_get-push_last [] x (suc n) same = absurd (omega (arith, same))
slice_get-push_last (y ∷ xs) x zero same = absurd (omega (arith, same))
slice_get-push_last (y ∷ xs) x (suc n) same = slice_get-push_last xs x n (omega (arith, same))

pub slice_get-push_before : {X : Type 0} (xs : List X) (x : X) (i : ℕ) → i < length xs → slice_get (xs ++ x ∷ []) i ≡ slice_get xs i
slice_get-push_before [] x i within = absurd (omega arith)
slice_get-push_before (y ∷ xs) x zero within = refl
slice_get-push_before (y ∷ xs) x (suc i) within = slice_get-push_before xs x i (omega arith)

-- what holds of each place holds after a push, where it holds of what is pushed
pub each_push : {X : Type 0} (P : ℕ → Option X → Type 0) (xs : List X) (n : ℕ) (x : X) → length xs ≡ n → P n (Some x) →
    ((q : ℕ) → q < n → P q (slice_get xs q)) → (q : ℕ) → q < n + 1 → P q (slice_get (xs ++ x ∷ []) q)
each_push P xs n x same here before q below = elim (cases_eq q n) [
  | inl last ↦ subst (λ k. P k (slice_get (xs ++ x ∷ []) k)) (sym last) (subst (P n) (sym (slice_get-push_last xs x n same)) here)
  | inr other ↦ subst (P q) (sym (slice_get-push_before xs x q (omega (arith, below, other, same)))) (before q (omega (arith, below, other)))
]

-- the same, of the elements
pub each_push_or : {X : Type 0} (d : X) (P : ℕ → X → Type 0) (xs : List X) (n : ℕ) (x : X) → length xs ≡ n → P n x → ((q : ℕ) → q < n → P q (get_or xs q d))
    → (q : ℕ) → q < n + 1 → P q (get_or (xs ++ x ∷ []) q d)
each_push_or d P xs n x same here before q below = elim (cases_eq q n) [
  | inl last ↦ subst (λ k. P k (get_or (xs ++ x ∷ []) k d)) (sym last ∙ refl) (subst (λ k. P k (get_or (xs ++ x ∷ []) k d)) same (subst (P (length xs))
      (sym (get_or-append_seam xs x [] d)) (subst (λ k. P k x) (sym same) here)))
  | inr other ↦ subst (P q) (sym (get_or-append xs (x ∷ []) d q (omega (arith, below, other, same)))) (before q (omega (arith, below, other)))
]
