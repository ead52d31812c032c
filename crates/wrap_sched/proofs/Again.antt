-- From the greatest offset on the wrapped schedule begins anew.
use Rattle.std.proofs.Common.{ap, arith, sym, subst, true, ℕ, ◌+◌, ◌-◌, ◌*◌, ◌/◌, ◌∙◌, ◌≡◌, ◌≤◌}
use Rattle.std.proofs.Math.Nat.{div-mul-le_self, div-mul_cancel}
use Rattle.sched_base.specs.Rows.{overlap}
use Rattle.sched_base.specs.Scale.{Fits, IsScale, PeriodsDivide, rate_of}
use Rattle.sched_base.specs.Sets.{IsLawful, SetContents, task_at}
use Rattle.sched_base.specs.Valid.{IsValid}
use Rattle.sched_base.proofs.RateLemmas.{period_divides}
use Rattle.repeat_laws.specs.Repeats.{StandsAgain, open_since, repeated_from}
use Rattle.repeat_laws.proofs.Repeating.{of_task}
use Rattle.repeat_laws.proofs.RepeatingFrom.{repeated_from_valid}
use Rattle.wrap_sched.specs.Offsets.{IsGreatestOffset}
use Rattle.wrap_sched.specs.Wrapped.{is_point, wrapped}
use Rattle.wrap_sched.proofs.ValidRows.{point_at, valid, wrapped_ticks}

module _ (s : SetContents) (scale : ℕ) (lawful : IsLawful s) (is : IsScale s.tasks scale) (fits : Fits scale s)
    (from units : ℕ) (greatest : IsGreatestOffset s.tasks from) (some : 1 ≤ units) (whole : PeriodsDivide s.tasks units) (ends : s.horizon ≡ from + units) where
  -- both ends of the part are points
  at_from : is_point s.tasks from ≡ true
  at_from =
      let (i, within, offset) = greatest.some in
      let e : (task_at s.tasks i).offset + 0 * (task_at s.tasks i).period ≡ from = omega (arith, offset) in
      sym (ap (is_point s.tasks) e) ∙ point_at s.tasks i 0 within

  at_end : is_point s.tasks (from + units) ≡ true
  at_end =
      let (i, within, offset) = greatest.some in
      let m = units / (task_at s.tasks i).period in
      let all : m * (task_at s.tasks i).period ≡ units = div-mul_cancel (task_at s.tasks i).period (period_divides s.tasks units i whole within) in
      let e : (task_at s.tasks i).offset + m * (task_at s.tasks i).period ≡ from + units = omega (arith, offset, all) in
      sym (ap (is_point s.tasks) e) ∙ point_at s.tasks i m within

  pub wrapped_again : StandsAgain s scale from units (wrapped scale s)
  wrapped_again = record {
    some = some;
    released = greatest.released;
    whole_periods = whole;
    same = λ j l.
        let t = task_at s.tasks j in
        let k = (from - t.offset) / t.period in
        let m = units / t.period in
        let released : t.offset ≤ from = of_task (λ t. t.offset ≤ from) s.tasks j greatest.released l in
        let begun : k * t.period ≤ from - t.offset = div-mul-le_self (from - t.offset) t.period in
        let early : open_since from t ≤ from = omega (arith, released, begun) in
        let all : m * t.period ≡ units = div-mul_cancel t.period (period_divides s.tasks units j whole l) in
        let later : t.offset + (k + m) * t.period ≡ open_since from t + units = omega (arith, all) in
        let at_later : is_point s.tasks (open_since from t + units) ≡ true = sym (ap (is_point s.tasks) later) ∙ point_at s.tasks j (k + m) l in
        let first = wrapped_ticks s scale lawful is fits j (open_since from t) from l (omega arith) early (point_at s.tasks j k l) at_from in
        let second = wrapped_ticks s scale lawful is fits j (open_since from t + units) (from + units) l (omega arith) (omega (arith, early)) at_later at_end in
        let same : overlap 0 s.horizon (open_since from t + units) (from + units) ≡ overlap 0 s.horizon (open_since from t) from = omega (arith, ends, early) in
        second ∙ ap (λ o. rate_of scale t * o) same ∙ sym first;
  }

  pub wrapped_repeats : (n : ℕ) → IsValid s scale ((from + units) * scale + n * (units * scale)) ((from + units) * scale + n * (units * scale))
      (repeated_from (from * scale) (units * scale) (wrapped scale s) n)
  wrapped_repeats n = repeated_from_valid s scale from units (wrapped scale s) wrapped_again
      (subst (λ (x : ℕ). IsValid s scale (x * scale) (x * scale) (wrapped scale s)) ends (valid s scale lawful is fits)) n
