-- The ticks of a span at which something holds.
use Rattle.std.proofs.Common.{Bool, ap, arith, inl, inr, le_refl, refl, suc, zero, ℕ, ◌*◌, ◌+◌, ◌<◌, ◌≡◌, ◌≤◌}
use Rattle.std.proofs.lemmas.Bool.{cases_lt}
use Rattle.sched_base.specs.Counting.{bit, ticks}
use Rattle.sched_base.specs.Rows.{overlap}
use Rattle.sched_base.proofs.CountingLemmas.{ticks-le}

-- the ticks below n, from a up to b, that pass
abbrev pub in_ticks : (ℕ → Bool) → ℕ → ℕ → ℕ → ℕ
in_ticks g a b zero = 0
in_ticks g a b (suc n) = in_ticks g a b n + bit (g n) * overlap n (suc n) a b

-- one tick more
pub overlap_more : (s n a b : ℕ) → s ≤ n → overlap s (suc n) a b ≡ overlap s n a b + overlap n (suc n) a b
overlap_more s n a b l = omega arith

-- a round in which g stays as it is
pub in_round : (g : ℕ → Bool) (a b s n : ℕ) → s ≤ n → ((k : ℕ) → s ≤ k → k < n → g k ≡ g s) → bit (g s) * overlap s n a b + in_ticks g a b s ≡ in_ticks g a b n
in_round g a b s zero l same = let e : s ≡ 0 = omega arith in let z : overlap s 0 a b ≡ 0 = omega arith in omega (
  arith,
  ap (in_ticks g a b) e,
  ap (λ o. bit (g s) * o) z,
)
in_round g a b s (suc n) l same =
    elim (cases_lt s (suc n)) [
      | inl m ↦
          (let ih = in_round g a b s n (omega arith) (λ k p q. same k p (omega arith)) in
          let more = ap (λ o. bit (g s) * o) (overlap_more s n a b (omega arith)) in
          let here = ap (λ x. bit x * overlap n (suc n) a b) (same n (omega arith) (le_refl (suc n))) in
          omega (arith, ih, more, here))
      | inr m ↦
          (let e : s ≡ suc n = omega arith in
          let z : overlap s (suc n) a b ≡ 0 = omega arith in
          omega (arith, ap (in_ticks g a b) e, ap (λ o. bit (g s) * o) z))
    ]

-- no tick below n lies in the span, which begins later
pub in_ticks_before : (g : ℕ → Bool) (a b n : ℕ) → n ≤ a → in_ticks g a b n ≡ 0
in_ticks_before g a b zero l = refl
in_ticks_before g a b (suc n) l =
    let ih = in_ticks_before g a b n (omega arith) in
    let z : overlap n (suc n) a b ≡ 0 = omega arith in
    omega (arith, ih, ap (λ o. bit (g n) * o) z)

-- the ticks below n that lie in the span, which ends later
pub in_ticks_during : (g : ℕ → Bool) (a b n : ℕ) → a ≤ n → n ≤ b → in_ticks g a b n + ticks g a ≡ ticks g n
in_ticks_during g a b zero l m = let e : a ≡ 0 = omega arith in omega (arith, ap (ticks g) e)
in_ticks_during g a b (suc n) l m =
    elim (cases_lt a (suc n)) [
      | inl p ↦
          (let ih = in_ticks_during g a b n (omega arith) (omega arith) in
          let one : overlap n (suc n) a b ≡ 1 = omega arith in
          omega (arith, ih, ap (λ o. bit (g n) * o) one))
      | inr p ↦
          (let e : a ≡ suc n = omega arith in
          let z = in_ticks_before g a b (suc n) (omega arith) in
          omega (arith, z, ap (ticks g) e))
    ]

-- those past the end of the span do not count
pub in_ticks_after : (g : ℕ → Bool) (a b n : ℕ) → b ≤ n → in_ticks g a b n ≡ in_ticks g a b b
in_ticks_after g a b zero l = let e : 0 ≡ b = omega arith in ap (in_ticks g a b) e
in_ticks_after g a b (suc n) l =
    elim (cases_lt b (suc n)) [
      | inl m ↦
          (let ih = in_ticks_after g a b n (omega arith) in
          let z : overlap n (suc n) a b ≡ 0 = omega arith in
          omega (arith, ih, ap (λ o. bit (g n) * o) z))
      | inr m ↦ (let e : suc n ≡ b = omega arith in ap (in_ticks g a b) e)
    ]

-- in all
pub in_ticks_all : (g : ℕ → Bool) (a b n : ℕ) → a ≤ b → b ≤ n → in_ticks g a b n + ticks g a ≡ ticks g b
in_ticks_all g a b n l m = let e = in_ticks_after g a b n m in let d = in_ticks_during g a b b l (le_refl b) in omega (arith, e, d)

-- at most so many
pub in_ticks_some : (g : ℕ → Bool) (a b n : ℕ) → a ≤ b → in_ticks g a b n + ticks g a ≤ ticks g b
in_ticks_some g a b n l =
    elim (cases_lt n b) [
      | inr m ↦ (let e = in_ticks_all g a b n l m in omega (arith, e))
      | inl m ↦ elim (cases_lt n a) [
        | inl p ↦ (let z = in_ticks_before g a b n (omega arith) in let o = ticks-le g a b l in omega (arith, z, o))
        | inr p ↦ (let d = in_ticks_during g a b n p (omega arith) in let o = ticks-le g n b (omega arith) in omega (arith, d, o))
      ]
    ]
