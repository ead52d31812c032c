-- The scale of a set makes each task's rate exact.
use Rattle.std.proofs.Common.{List, [], ap, arith, length, suc, zero, ℕ, ◌*◌, ◌<◌, ◌∷◌, ◌≡◌}
use Rattle.std.proofs.Math.Nat.{div-mul_cancel, mul-div_assoc}
use Rattle.std.specs.Int.{◌∣◌}
use Rattle.sched_base.specs.Sets.{task_at}
use Rattle.sched_base.specs.Scale.{IsScale, PeriodsDivide, rate_of}
use Rattle.sched_base.specs.declared.sets.Task as declared

-- each period divides the scale
pub period_divides : (tasks : List declared.Task) (n j : ℕ) → PeriodsDivide tasks n → j < length tasks → (task_at tasks j).period ∣ n
period_divides [] n j h l = absurd (omega arith)
period_divides (task ∷ tasks) n zero h l = h.0
period_divides (task ∷ tasks) n (suc j) h l = period_divides tasks n j h.1 (omega arith)

-- at its rate a task is given its work in each period
pub rate_exact : (tasks : List declared.Task) (scale : ℕ) → IsScale tasks scale → (j : ℕ) → j < length tasks →
    rate_of scale (task_at tasks j) * (task_at tasks j).period ≡ (task_at tasks j).work * scale
rate_exact tasks scale h j l =
    let divides = period_divides tasks scale j h.divided l in
    let whole = mul-div_assoc (task_at tasks j).period (task_at tasks j).work divides in
    let back = div-mul_cancel (task_at tasks j).period divides in
    omega (arith, ap (λ r. r * (task_at tasks j).period) whole, ap (λ p. (task_at tasks j).work * p) back)
