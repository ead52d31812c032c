-- The steps of the axis, ten by ten.
use Rattle.std.proofs.Common.{ℕ, suc, false, ◌+◌, ◌*◌, ◌<◌, ◌≤◌, ◌≡◌, List, ◌∷◌, leb, drop, length, get_or, drop-cons, sym, ap, ◌∙◌, arith}
use Rattle.std.proofs.lemmas.Bool.{cond-true, cond-false, le-leb, leb-true, false_from_ne_true}
use Rattle.trace_draw.specs.Head.{step_among}

tens_from : (tens : List ℕ) (i units : ℕ) → i < length tens → step_among (drop i tens) units ≡ step_among (get_or tens i 0 ∷ drop (suc i) tens) units
tens_from tens i units h = ap (λ l. step_among l units) (drop-cons tens i 0 h)

-- the first ten that is enough is the step
pub step_first : (tens : List ℕ) (i ten units : ℕ) → i < length tens → ten ≡ get_or tens i 0 → units ≤ 12 * ten → step_among (drop i tens) units ≡ ten
step_first tens i ten units h is enough =
    tens_from tens i units h ∙ (cond-true _ _ _ (le-leb units (12 * get_or tens i 0) (omega (arith, is, enough))) ∙ sym is)

past : (n m : ℕ) → m < n → leb n m ≡ false
past n m more = false_from_ne_true _ (λ t. (let le = leb-true n m t in omega (arith, le, more)))

-- and else twice it or five times it, where that is enough
pub step_second : (tens : List ℕ) (i ten units : ℕ) → i < length tens → ten ≡ get_or tens i 0 → 12 * ten < units → units ≤ 24 * ten →
    step_among (drop i tens) units ≡ 2 * ten
step_second tens i ten units h is one enough =
    tens_from tens i units h
    ∙ (cond-false _ _ _ (past units (12 * get_or tens i 0) (omega (arith, is, one)))
    ∙ (cond-true _ _ _ (le-leb units (24 * get_or tens i 0) (omega (arith, is, enough))) ∙ sym (ap (λ n. 2 * n) is)))

pub step_third : (tens : List ℕ) (i ten units : ℕ) → i < length tens → ten ≡ get_or tens i 0 → 12 * ten < units → 24 * ten < units → units ≤ 60 * ten →
    step_among (drop i tens) units ≡ 5 * ten
step_third tens i ten units h is one two enough =
    tens_from tens i units h
    ∙ (cond-false _ _ _ (past units (12 * get_or tens i 0) (omega (arith, is, one)))
    ∙ (cond-false _ _ _ (past units (24 * get_or tens i 0) (omega (arith, is, two)))
    ∙ (cond-true _ _ _ (le-leb units (60 * get_or tens i 0) (omega (arith, is, enough))) ∙ sym (ap (λ n. 5 * n) is))))

-- a ten of which five times isn't enough is passed by
pub step_next : (tens : List ℕ) (i ten units : ℕ) → i < length tens → ten ≡ get_or tens i 0 → 12 * ten < units → 24 * ten < units → 60 * ten < units
    → step_among (drop i tens) units ≡ step_among (drop (i + 1) tens) units
step_next tens i ten units h is one two five =
    let next : suc i ≡ i + 1 = omega arith in
    tens_from tens i units h
    ∙ (cond-false _ _ _ (past units (12 * get_or tens i 0) (omega (arith, is, one)))
    ∙ (cond-false _ _ _ (past units (24 * get_or tens i 0) (omega (arith, is, two))) ∙ cond-false _ _ _ (past units (60 * get_or tens i 0)
    (omega (arith, is, five)))))
    ∙ ap (λ n. step_among (drop n tens) units) next
