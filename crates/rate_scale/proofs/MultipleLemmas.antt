-- The least common multiple of two numbers, by their greatest common divisor.
use Rattle.std.proofs.Common.{◌≡◌, ℕ, zero, suc, ◌*◌, ◌/◌, ◌%◌, ◌≤◌, ◌<◌, refl, sym, ◌∙◌, ap, subst, arith}
use Rattle.std.specs.Int.{◌∣◌, IsGcd}
use Rattle.std.proofs.lemmas.Nat.Gcd.{IsGcd-from_zero, IsGcd-from_mod}
use Rattle.std.proofs.Math.Nat.{mul_comm, mul_assoc, mul_left_comm, mul-one, mul-pos, dvd-mul_left, dvd-mul_right, mul-div_cancel', div-mul_cancel}
use Rattle.std.proofs.Math.Nat.{dvd_of_mul-dvd-mul_left, eq-one_of_dvd-one, pos_of_dvd_of_pos}
use Rattle.rate_scale.specs.Multiples.{IsLcm}

-- a product of four, in another order
regroup_four : (g a x e : ℕ) → g * ((a * x) * e) ≡ (a * (g * e)) * x
regroup_four g a x e = simp (mul_assoc, mul_comm, mul_left_comm)

-- a product of three, in another order
regroup_three : (a g b : ℕ) → a * (g * b) ≡ (g * a) * b
regroup_three a g b = simp (mul_assoc, mul_comm)

-- two numbers, of which the second is below n, have a greatest common divisor
gcd_below : (n a b : ℕ) → b < n → (g : ℕ) × IsGcd a b g
gcd_below zero a b h = absurd (omega arith)
gcd_below (suc n) a zero h = (a, IsGcd-from_zero a zero refl)
gcd_below (suc n) a (suc b) h =
    let rest = gcd_below n (suc b) (a % suc b) (omega arith) in
    (rest.0, IsGcd-from_mod a (suc b) rest.0 rest.1)

-- any two numbers have a greatest common divisor
pub some_gcd : (a b : ℕ) → (g : ℕ) × IsGcd a b g
some_gcd a b = gcd_below (suc b) a b (omega arith)

-- with the gcd g and g * m = a * b, a common multiple c that divides m is m
common_is_whole : (a b g c m : ℕ) → 1 ≤ a → 1 ≤ b → 1 ≤ g → IsGcd a b g → g * m ≡ a * b → a ∣ c → b ∣ c → c ∣ m → m ≡ c
common_is_whole a b g c m some_a some_b some_g gcd product a_divides b_divides c_divides =
    let e = m / c in
    let x = c / a in
    let y = c / b in
    let m_is : c * e ≡ m = mul-div_cancel' c c_divides in
    let by_a : a * x ≡ c = mul-div_cancel' a a_divides in
    let by_b : b * y ≡ c = mul-div_cancel' b b_divides in
    let left : a * b ≡ (a * (g * e)) * x = sym product ∙ ap (λ n. g * n) (sym m_is) ∙ ap (λ n. g * (n * e)) (sym by_a) ∙ regroup_four g a x e in
    let right : b * a ≡ (b * (g * e)) * y = mul_comm b a ∙ sym product ∙ ap (λ n. g * n) (sym m_is) ∙ ap (λ n. g * (n * e)) (sym by_b) ∙ regroup_four g b y e in
    let in_b : g * e ∣ b = dvd_of_mul-dvd-mul_left {k = a} (g * e) {n = b} some_a (subst (λ n. a * (g * e) ∣ n) (sym left) (dvd-mul_right (a * (g * e)) x)) in
    let in_a : g * e ∣ a = dvd_of_mul-dvd-mul_left {k = b} (g * e) {n = a} some_b (subst (λ n. b * (g * e) ∣ n) (sym right) (dvd-mul_right (b * (g * e)) y)) in
    let in_g : g * e ∣ g * 1 = subst (λ n. g * e ∣ n) (sym (mul-one g)) (gcd.2 (g * e) in_a in_b) in
    let one : e ≡ 1 = eq-one_of_dvd-one (dvd_of_mul-dvd-mul_left {k = g} e {n = 1} some_g in_g) in
    sym m_is ∙ ap (λ n. c * n) one ∙ mul-one c

pub IsLcm-from_gcd : (a b g : ℕ) → 1 ≤ a → 1 ≤ b → IsGcd a b g → IsLcm a b (a / g * b)
IsLcm-from_gcd a b g some_a some_b gcd =
    let m = a / g * b in
    let some_g : 1 ≤ g = pos_of_dvd_of_pos gcd.0 some_a in
    let a_is : g * (a / g) ≡ a = mul-div_cancel' g gcd.0 in
    let b_is : g * (b / g) ≡ b = mul-div_cancel' g gcd.1 in
    let product : g * m ≡ a * b = sym (mul_assoc g (a / g) b) ∙ ap (λ n. n * b) a_is in
    let by_a : m ≡ a * (b / g) = ap (λ n. a / g * n) (sym b_is) ∙ regroup_three (a / g) g (b / g) ∙ ap (λ n. n * (b / g)) a_is in
    let left : a ∣ m = subst (λ n. a ∣ n) (sym by_a) (dvd-mul_right a (b / g)) in
    let right : b ∣ m = dvd-mul_left b (a / g) in
    record {
      left = left;
      right = right;
      least = λ n a_divides b_divides.
          let c = some_gcd n m in
          let same : m ≡ c.0 = common_is_whole a b g c.0 m some_a some_b some_g gcd product (c.1.2 a a_divides left) (c.1.2 b b_divides right) c.1.1 in
          subst (λ k. k ∣ n) (sym same) c.1.0;
    }

pub some_gcd_is : (a b g : ℕ) → 1 ≤ a → IsGcd a b g → 1 ≤ g
some_gcd_is a b g some_a gcd = pos_of_dvd_of_pos gcd.0 some_a

pub some_lcm_is : (a b g : ℕ) → 1 ≤ a → 1 ≤ b → IsGcd a b g → 1 ≤ a / g * b
some_lcm_is a b g some_a some_b gcd =
    let a_is : a / g * g ≡ a = div-mul_cancel g gcd.0 in
    let quotient : 1 ≤ a / g = pos_of_dvd_of_pos {m = a / g} {n = a} (subst (λ n. a / g ∣ n) a_is (dvd-mul_right (a / g) g)) some_a in
    mul-pos quotient some_b

-- any two positive numbers have a least common multiple
pub some_lcm : (a b : ℕ) → 1 ≤ a → 1 ≤ b → (m : ℕ) × IsLcm a b m × (1 ≤ m)
some_lcm a b some_a some_b =
    let g = some_gcd a b in
    (a / g.0 * b, IsLcm-from_gcd a b g.0 some_a some_b g.1, some_lcm_is a b g.0 some_a some_b g.1)
