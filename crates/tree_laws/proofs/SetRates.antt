-- The rates of a lawful set that fits.
use Rattle.std.proofs.Common.{◌≡◌, ℕ, ◌*◌, ◌/◌, ◌≤◌, List, [], ◌∷◌, map, refl, ap, arith, sym, ◌∙◌, inl, inr, mul-le-mul_right}
use Rattle.std.proofs.Math.Nat.{mul-div_cancel, mul-div_cancel'}
use Rattle.std.proofs.lemmas.Bool.{cases_eq}
use Rattle.std.proofs.lemmas.List.Elements.{All-from_recursion}
use Rattle.std.proofs.lemmas.List.Recursion.{is_sum_by}
use Rattle.std.specs.List.{AllByRecursion}
use Rattle.std.specs.Int.{◌∣◌}
use Rattle.sched_base.specs.declared.sets.Task.{Task}
use Rattle.sched_base.specs.Sets.{SetContents, IsLawful, IsLawfulTask}
use Rattle.sched_base.specs.Scale.{PeriodsDivide, IsScale, rate_of, Fits}
use Rattle.tree_laws.specs.Raised.{RatesFit}
use Rattle.tree_laws.proofs.LastLevel.{total}
use Rattle.tree_laws.proofs.FirstLevel.{same_total}

-- a task is given a tick at least, and all ticks at most
pub rate_within : (scale : ℕ) (t : Task) → 1 ≤ scale → IsLawfulTask t → t.period ∣ scale → (1 ≤ rate_of scale t) × (rate_of scale t ≤ scale)
rate_within scale t some lawful divides =
    let times = scale / t.period in
    let whole : t.period * times ≡ scale = mul-div_cancel' t.period divides in
    let work = lawful.some_work in
    let fits = lawful.work_fits in
    let is : rate_of scale t ≡ t.work * times =
    ap (λ x. t.work * x / t.period) (sym whole) ∙ ap (λ x. x / t.period) (omega arith) ∙ mul-div_cancel (t.work * times) {n = t.period}
    (omega (arith, work, fits)) in
    let most : t.work * times ≤ t.period * times = mul-le-mul_right times fits in
    let least : 1 * times ≤ t.work * times = mul-le-mul_right times work in
    let positive : 1 ≤ times = elim (cases_eq times 0)
    [ inl none ↦ (let zero_scale = ap (λ x. t.period * x) none in omega (arith, zero_scale, whole, some)) | inr some' ↦ omega (arith, some') ] in
    (omega (arith, is, least, positive), omega (arith, is, most, whole))

pub rates_within : (scale : ℕ) (tasks : List Task) → 1 ≤ scale → AllByRecursion IsLawfulTask tasks → PeriodsDivide tasks scale →
    AllByRecursion (λ rate. (1 ≤ rate) × (rate ≤ scale)) (map (rate_of scale) tasks)
rates_within scale [] some each divides = tt
rates_within scale (t ∷ tasks) some each divides = (rate_within scale t some each.0 divides.0, rates_within scale tasks some each.1 divides.1)

pub rates_fit : (s : SetContents) (scale : ℕ) → IsLawful s → IsScale s.tasks scale → Fits scale s → RatesFit s.processors scale (map (rate_of scale) s.tasks)
rates_fit s scale lawful is fits = record {
  some_processors = lawful.some_processors;
  some_scale = is.positive;
  each = All-from_recursion (λ rate. (1 ≤ rate) × (rate ≤ scale)) (map (rate_of scale) s.tasks) (rates_within scale s.tasks is.positive lawful.each is.divided);
  fit = (let same = same_total (map (rate_of scale) s.tasks) ∙ is_sum_by (λ (tasks : List Task). total (map (rate_of scale) tasks)) (rate_of scale) refl
      (λ t tasks. refl) s.tasks in omega (arith, same, fits));
}
