-- Sums over the first numbers.
use Rattle.std.proofs.Common.{Bool, ap, arith, eq-eqb, eqb, inl, inr, le_refl, refl, subst, suc, sym, true, zero, ℕ, ◌&&◌, ◌*◌, ◌+◌, ◌<◌, ◌∙◌, ◌≡◌, ◌≢◌, ◌≤◌}
use Rattle.std.proofs.lemmas.Bool.{and_from, and_left, and_parts, and_right, both_ways, cases_Bool, cases_eq, eqb-true, ne_eqb}
use Rattle.sched_base.specs.Counting.{bit, sum_to}
use Rattle.sched_base.proofs.CountingLemmas.{bit_at, bit_le, bit_off, find_below}

-- a sum of no greater terms is no greater
pub sum_to-le : (n : ℕ) (f g : ℕ → ℕ) → ((k : ℕ) → k < n → f k ≤ g k) → sum_to n f ≤ sum_to n g
sum_to-le zero f g h = omega arith
sum_to-le (suc n) f g h =
    let ih = sum_to-le n f g (λ k l. h k (omega arith)) in
    let here = h n (omega arith) in
    omega (arith, ih, here)

-- a term that is smaller makes the sum smaller
pub sum_to-lt : (n : ℕ) (f g : ℕ → ℕ) (j : ℕ) → j < n → f j < g j → ((k : ℕ) → k < n → f k ≤ g k) → sum_to n f < sum_to n g
sum_to-lt zero f g j l less h = omega arith
sum_to-lt (suc n) f g j l less h =
    elim (cases_eq j n) [
      | inl e ↦
          (let rest = sum_to-le n f g (λ k m. h k (omega arith)) in
          let P : ℕ → Type 0 = λ x. f x < g x in
          let here = subst P e less in
          omega (arith, rest, here))
      | inr ne ↦
          (let rest = sum_to-lt n f g j (omega arith) less (λ k m. h k (omega arith)) in
          let here = h n (omega arith) in
          omega (arith, rest, here))
    ]

-- a common factor
pub sum_to-mul : (n : ℕ) (f : ℕ → ℕ) (d : ℕ) → sum_to n (λ k. f k * d) ≡ sum_to n f * d
sum_to-mul zero f d = omega arith
sum_to-mul (suc n) f d = let ih = sum_to-mul n f d in omega (arith, ih)

-- term by term
pub sum_to-add : (n : ℕ) (f g : ℕ → ℕ) → sum_to n (λ k. f k + g k) ≡ sum_to n f + sum_to n g
sum_to-add zero f g = omega arith
sum_to-add (suc n) f g = let ih = sum_to-add n f g in omega (arith, ih)

-- no term is greater than the sum
pub term-le-sum_to : (n : ℕ) (f : ℕ → ℕ) (k : ℕ) → k < n → f k ≤ sum_to n f
term-le-sum_to zero f k l = omega arith
term-le-sum_to (suc n) f k l =
    elim (cases_eq k n) [
      | inl e ↦ omega (arith, ap f e)
      | inr ne ↦ (let ih = term-le-sum_to n f k (omega arith) in omega (arith, ih))
    ]

-- a sum of nothing
pub sum_to-zero : (n : ℕ) (f : ℕ → ℕ) → ((k : ℕ) → k < n → f k ≡ 0) → sum_to n f ≡ 0
sum_to-zero zero f h = refl
sum_to-zero (suc n) f h =
    let ih = sum_to-zero n f (λ k l. h k (omega arith)) in
    let here = h n (omega arith) in
    omega (arith, ih, here)

-- where at most one of n passes, as many as a bound allows
pub sum_to-alone : (n : ℕ) (f : ℕ → Bool) → ((j k : ℕ) → j < n → k < n → f j ≡ true → f k ≡ true → j ≡ k) → sum_to n (λ k. bit (f k)) ≤ 1
sum_to-alone zero f h = omega arith
sum_to-alone (suc n) f h =
    elim (cases_Bool (f n)) [
      | inl e ↦
          (let others : (k : ℕ) → k < n → bit (f k) ≡ 0 = λ k l. elim (cases_Bool (f k)) [
            | inl p ↦ (let same = h k n (omega arith) (omega arith) p e in omega (arith, same))
            | inr p ↦ bit_off (f k) p
          ] in
          let rest = sum_to-zero n (λ k. bit (f k)) others in
          omega (arith, rest, bit_at (f n) e))
      | inr e ↦
          (let ih = sum_to-alone n f (λ j k p q. h j k (omega arith) (omega arith)) in
          omega (arith, ih, bit_off (f n) e))
    ]

-- equal terms make equal sums
pub sum_to-same : (n : ℕ) (f g : ℕ → ℕ) → ((k : ℕ) → k < n → f k ≡ g k) → sum_to n f ≡ sum_to n g
sum_to-same zero f g h = refl
sum_to-same (suc n) f g h =
    let ih = sum_to-same n f g (λ k l. h k (omega arith)) in
    let here = h n (omega arith) in
    omega (arith, ih, here)

-- a sum of which one term counts
pub sum_to-one : (n : ℕ) (f : ℕ → ℕ) (j : ℕ) → j < n → ((k : ℕ) → k < n → (k ≡ j → ⊥) → f k ≡ 0) → sum_to n f ≡ f j
sum_to-one zero f j l h = absurd (omega arith)
sum_to-one (suc n) f j l h =
    elim (cases_eq j n) [
      | inl e ↦
          (let rest = sum_to-zero n f (λ k m. h k (omega arith) (λ same. omega arith)) in
          let here = ap f e in
          omega (arith, rest, here))
      | inr ne ↦
          (let ih = sum_to-one n f j (omega arith) (λ k m. h k (omega arith)) in
          let last = h n (omega arith) (λ same. ne (sym same)) in
          omega (arith, ih, last))
    ]

-- the order of two sums
pub sum_to-swap : (m n : ℕ) (f : ℕ → ℕ → ℕ) → sum_to m (λ i. sum_to n (λ j. f i j)) ≡ sum_to n (λ j. sum_to m (λ i. f i j))
sum_to-swap zero n f = sym (sum_to-zero n (λ j. 0) (λ k l. refl))
sum_to-swap (suc m) n f =
    let ih = sum_to-swap m n f in
    let parts = sum_to-add n (λ j. sum_to m (λ i. f i j)) (λ j. f m j) in
    omega (arith, ih, parts)

-- a common factor on the left
pub sum_to-times : (n : ℕ) (c : ℕ) (f : ℕ → ℕ) → sum_to n (λ k. c * f k) ≡ c * sum_to n f
sum_to-times zero c f = omega arith
sum_to-times (suc n) c f = let ih = sum_to-times n c f in omega (arith, ih)

-- the first term apart
pub sum_to_front : (n : ℕ) (f : ℕ → ℕ) → sum_to (suc n) f ≡ f 0 + sum_to n (λ k. f (suc k))
sum_to_front zero f = omega arith
sum_to_front (suc n) f = let ih = sum_to_front n f in omega (arith, ih)

-- two terms of a sum
pub two_terms : (n : ℕ) (f : ℕ → ℕ) (p q : ℕ) → p < n → q < n → p ≢ q → f p + f q ≤ sum_to n f
two_terms zero f p q l m ne = absurd (omega arith)
two_terms (suc n) f p q l m ne =
    elim (cases_eq p n) [
      | inl e ↦ (let t = term-le-sum_to n f q (omega arith) in let g = ap f e in omega (arith, t, g))
      | inr no_p ↦ elim (cases_eq q n) [
        | inl e ↦ (let t = term-le-sum_to n f p (omega arith) in let g = ap f e in omega (arith, t, g))
        | inr no_q ↦ (let ih = two_terms n f p q (omega arith) (omega arith) ne in omega (arith, ih))
      ]
    ]

-- two that pass, where at least two do
pub two_pass : (n : ℕ) (f : ℕ → Bool) → 2 ≤ sum_to n (λ k. bit (f k)) → (p : ℕ) × (q : ℕ) × (p < n) × (q < n) × (p ≢ q) × (f p ≡ true) × (f q ≡ true)
two_pass zero f l = absurd (omega arith)
two_pass (suc n) f l =
    elim (cases_Bool (f n)) [
      | inl on ↦
          elim (find_below n f) [
            | inl found ↦ (let (p, lp, passes) = found in (p, n, omega arith, le_refl (suc n), (λ e. omega arith), passes, on))
            | inr none ↦ (let z = sum_to-zero n (λ k. bit (f k)) (λ k lk. bit_off (f k) (none k lk)) in absurd (omega (arith, z, bit_le (f n))))
          ]
      | inr off ↦
          (let (p, q, lp, lq, ne, fp, fq) = two_pass n f (omega (arith, bit_off (f n) off)) in
          (p, q, omega arith, omega arith, ne, fp, fq))
    ]

-- a sum of ones counts
pub sum_to-ones : (n : ℕ) → sum_to n (λ k. 1) ≡ n
sum_to-ones zero = refl
sum_to-ones (suc n) = let ih = sum_to-ones n in omega (arith, ih)

-- the numbers below m that pass p and those below n that pass q are the same ones, under two names
pub record IsReindexed (m n : ℕ) (p q : ℕ → Bool) (to from : ℕ → ℕ) : Type 0 where
  pub there : (i : ℕ) → i < m → p i ≡ true → (to i < n) × (q (to i) ≡ true) × (from (to i) ≡ i)
  pub back : (x : ℕ) → x < n → q x ≡ true → (from x < m) × (p (from x) ≡ true) × (to (from x) ≡ x)

-- a sum over the ones is the sum over the others
pub reindex : (m n : ℕ) (p q : ℕ → Bool) (to from : ℕ → ℕ) → IsReindexed m n p q to from → (g : ℕ → ℕ) →
    sum_to m (λ i. bit (p i) * g (to i)) ≡ sum_to n (λ x. bit (q x) * g x)
reindex m n p q to from r g =
    let rows : (i : ℕ) → i < m → bit (p i) * g (to i) ≡ sum_to n (λ x. bit (p i && eqb (to i) x) * g x) = (λ i l.
    elim (cases_Bool (p i)) [
      | inl on ↦
          (let t = r.there i l on in
          let one = sum_to-one n (λ x. bit (p i && eqb (to i) x) * g x) (to i) t.0 (λ x lx ne.
          let z = bit_off (p i && eqb (to i) x) (and_right (p i) (eqb (to i) x) (ne_eqb (to i) x (λ s. ne (sym s)))) in
          omega (arith, ap (λ b. b * g x) z)) in
          let a = ap (λ b. b * g (to i)) (bit_at (p i) on) in
          let b = ap (λ b. b * g (to i)) (bit_at (p i && eqb (to i) (to i)) (and_from (p i) (eqb (to i) (to i)) on (eq-eqb (to i) (to i) refl))) in
          omega (arith, one, a, b))
      | inr off ↦
          (let none = sum_to-zero n (λ x. bit (p i && eqb (to i) x) * g x) (λ x lx.
          let z = bit_off (p i && eqb (to i) x) (and_left (p i) (eqb (to i) x) off) in
          omega (arith, ap (λ b. b * g x) z)) in
          let a = ap (λ b. b * g (to i)) (bit_off (p i) off) in
          omega (arith, none, a))
    ]) in
    let columns : (x : ℕ) → x < n → sum_to m (λ i. bit (p i && eqb (to i) x) * g x) ≡ bit (q x) * g x = (λ x l.
    elim (cases_Bool (q x)) [
      | inl on ↦
          (let b = r.back x l on in
          let one = sum_to-one m (λ i. bit (p i && eqb (to i) x) * g x) (from x) b.0 (λ i li ne.
          elim (cases_Bool (p i && eqb (to i) x)) [
            | inl yes' ↦
                (let both = and_parts (p i) (eqb (to i) x) yes' in
                let same = ap from (eqb-true (to i) x both.1) in
                let back' = (r.there i li both.0).2 in
                absurd (ne (sym back' ∙ same)))
            | inr no' ↦ (let z = bit_off (p i && eqb (to i) x) no' in omega (arith, ap (λ b. b * g x) z))
          ]) in
          let a = ap (λ b. b * g x) (bit_at (q x) on) in
          let c = ap (λ b. b * g x) (bit_at (p (from x) && eqb (to (from x)) x) (and_from (p (from x)) (eqb (to (from x)) x) b.1 (eq-eqb (to (from x)) x
          b.2))) in
          omega (arith, one, a, c))
      | inr off ↦
          (let none = sum_to-zero m (λ i. bit (p i && eqb (to i) x) * g x) (λ i li.
          elim (cases_Bool (p i && eqb (to i) x)) [
            | inl yes' ↦
                (let both = and_parts (p i) (eqb (to i) x) yes' in
                let there' = (r.there i li both.0).1 in
                let P : ℕ → Type 0 = λ y. q y ≡ true in
                absurd (both_ways (q x) off (subst P (eqb-true (to i) x both.1) there')))
            | inr no' ↦ (let z = bit_off (p i && eqb (to i) x) no' in omega (arith, ap (λ b. b * g x) z))
          ]) in
          let a = ap (λ b. b * g x) (bit_off (q x) off) in
          omega (arith, none, a))
    ]) in
    sum_to-same m (λ i. bit (p i) * g (to i)) (λ i. sum_to n (λ x. bit (p i && eqb (to i) x) * g x)) rows
    ∙ sum_to-swap m n (λ i x. bit (p i && eqb (to i) x) * g x)
    ∙ sum_to-same n (λ x. sum_to m (λ i. bit (p i && eqb (to i) x) * g x)) (λ x. bit (q x) * g x) columns
