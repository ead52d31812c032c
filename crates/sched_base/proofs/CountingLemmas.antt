-- Counting the ticks at which something holds.
use Rattle.std.proofs.Common.{Bool, add-zero, ap, arith, cond, false, inl, inr, not, refl, subst, suc, sym, true, zero, ℕ, ◌&&◌, ◌*◌, ◌+◌, ◌<◌, ◌≡◌, ◌≤◌, ◌⊎◌}
use Rattle.std.proofs.lemmas.Bool.{cases_Bool, cases_eq, cases_lt}
use Rattle.sched_base.specs.Counting.{bit, ticks}

pub bit_at : (b : Bool) → b ≡ true → bit b ≡ 1
bit_at b e = ap bit e

pub bit_off : (b : Bool) → b ≡ false → bit b ≡ 0
bit_off b e = ap bit e

pub bit_le : (b : Bool) → bit b ≤ 1
bit_le true = omega arith
bit_le false = omega arith

pub bit_not : (b : Bool) → bit (not b) + bit b ≡ 1
bit_not true = omega arith
bit_not false = omega arith

pub cond_bit : (b : Bool) → cond {A = ℕ} b 1 0 ≡ bit b
cond_bit true = refl
cond_bit false = refl

-- both hold where the product of their bits is 1
pub bit_and : (a b : Bool) → bit (a && b) ≡ bit a * bit b
bit_and true true = omega arith
bit_and true false = omega arith
bit_and false true = omega arith
bit_and false false = omega arith

-- more ticks pass below a later tick
pub ticks-le : (f : ℕ → Bool) (a b : ℕ) → a ≤ b → ticks f a ≤ ticks f b
ticks-le f a zero h = let e : a ≡ 0 = omega arith in omega (arith, ap (ticks f) e)
ticks-le f a (suc b) h =
    elim (cases_lt a (suc b)) [
      | inl l ↦ let ih = ticks-le f a b (omega arith) in omega (arith, ih)
      | inr l ↦ let e : a ≡ suc b = omega arith in omega (arith, ap (ticks f) e)
    ]

-- ticks of which each leaves less than d are at most d
pub ticks_capped : (f : ℕ → Bool) (d a b : ℕ) → a ≤ b → ((t : ℕ) → a ≤ t → t < b → f t ≡ true → ticks f t < ticks f a + d) → ticks f b ≤ ticks f a + d
ticks_capped f d a zero h less = let e : a ≡ 0 = omega arith in omega (arith, ap (ticks f) e)
ticks_capped f d a (suc b) h less =
    elim (cases_lt a (suc b)) [
      | inl l ↦
          (let ih : ticks f b ≤ ticks f a + d = ticks_capped f d a b (omega arith) (λ t p q. less t p (omega arith)) in
          elim (cases_Bool (f b)) [
            | inl e ↦ (let s = less b (omega arith) (omega arith) e in omega (arith, bit_at (f b) e))
            | inr e ↦ omega (arith, bit_off (f b) e)
          ])
      | inr l ↦ (let e : a ≡ suc b = omega arith in omega (arith, ap (ticks f) e))
    ]

-- where each tick passes, all do
pub ticks_all : (f : ℕ → Bool) → ((s : ℕ) → f s ≡ true) → (n : ℕ) → ticks f n ≡ n
ticks_all f h zero = refl
ticks_all f h (suc n) = let ih = ticks_all f h n in let one = bit_at (f n) (h n) in omega (arith, ih, one)

-- of two of which just one passes at each tick
pub ticks_not : (f g : ℕ → Bool) → ((s : ℕ) → f s ≡ not (g s)) → (n : ℕ) → ticks f n + ticks g n ≡ n
ticks_not f g h zero = omega arith
ticks_not f g h (suc n) =
    let ih = ticks_not f g h n in
    let one = bit_not (g n) in
    let same = ap bit (h n) in
    omega (arith, ih, one, same)

-- where k ticks from n on pass as n does
pub ticks_while : (f : ℕ → Bool) (n k : ℕ) → ((s : ℕ) → n ≤ s → s < n + k → f s ≡ f n) → ticks f (n + k) ≡ ticks f n + bit (f n) * k
ticks_while f n zero h = omega (arith, ap (ticks f) (add-zero n))
ticks_while f n (suc k) h =
    let ih = ticks_while f n k (λ s p q. h s p (omega arith)) in
    let here = ap bit (h (n + k) (omega arith) (omega arith)) in
    let e : n + suc k ≡ suc (n + k) = omega arith in
    omega (arith, ih, here, ap (ticks f) e)

-- none below tick 0
pub ticks_at_none : (f : ℕ → Bool) (b l : ℕ) → b ≡ 0 → ticks f (b * l) ≡ 0
ticks_at_none f b l e = let z : b * l ≡ 0 = omega (arith, ap (λ x. x * l) e) in ap (ticks f) z

-- one of the first n passes, or none does
pub find_below : (n : ℕ) (p : ℕ → Bool) → ((k : ℕ) × (k < n) × (p k ≡ true)) ⊎ ((k : ℕ) → k < n → p k ≡ false)
find_below zero p = inr (λ k l. absurd (omega arith))
find_below (suc n) p =
    elim (cases_Bool (p n)) [
      | inl e ↦ inl (n, omega arith, e)
      | inr e ↦
          elim (find_below n p) [
            | inl found ↦ (let (k, l, passes) = found in inl (k, omega arith, passes))
            | inr none ↦ inr (λ k l.
                elim (cases_eq k n) [
                  | inl same ↦ (let P : ℕ → Type 0 = λ x. p x ≡ false in subst P (sym same) e)
                  | inr ne ↦ none k (omega arith)
                ])
          ]
    ]
