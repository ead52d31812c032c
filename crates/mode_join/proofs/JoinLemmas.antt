-- Whether a set can be a mode.
use Rattle.std.proofs.Common.{◌≡◌, ◌≢◌, ℕ, suc, zero, ◌^◌, ◌<◌, ◌≤◌, true, List, [], ◌∷◌, length, refl, sym, subst, arith}
use Rattle.std.specs.Int.{◌∣◌}
use Rattle.std.specs.List.{AllByRecursion}
use Rattle.sched_base.specs.declared.sets.Task.{Task}
use Rattle.sched_base.specs.Sets.{SetContents, IsLawful, IsLawfulTask, task_at}
use Rattle.sched_base.specs.Scale.{IsScale, PeriodsDivide, PassesAt, Fits, total_of, room_of}
use Rattle.rate_scale.proofs.ScaleLemmas.{some_scale, same_scale, PassesAt-whole}
use Rattle.run_tree.specs.Rounds.{is_event}
use Rattle.run_tree.specs.Plans.{PlanContents, IsPlan, stop_of, rounds_of}
use Rattle.run_tree.specs.Boundaries.{set_boundary}
use Rattle.run_compile.specs.Answers.{IsOverload}
use Rattle.event_core.proofs.RoundsInOrder.{more_rounds}
use Rattle.mode_join.specs.declared.faults.ModeKind.{ModeKind}
use Rattle.mode_join.specs.declared.faults.ModeKind.TheVariants as kind
use Rattle.mode_join.specs.Joining.{CanJoin, Has, IsFirstOf, rank}
use Rattle.repeat_laws.specs.Repeats.{IsFirstTask}

-- what holds of all tasks holds of each by its number
pub by_number : (P : Task → Type 0) (tasks : List Task) → AllByRecursion P tasks → (k : ℕ) → k < length tasks → P (task_at tasks k)
by_number P [] all k below = absurd (omega (arith, below))
by_number P (t ∷ tasks) all zero below = all.0
by_number P (t ∷ tasks) all (suc k) below = by_number P tasks all.1 k (omega (arith, below))

-- each period of a lawful set is positive
pub some_periods : (tasks : List Task) → AllByRecursion IsLawfulTask tasks → AllByRecursion (λ t. 1 ≤ t.period) tasks
some_periods [] all = tt
some_periods (t ∷ tasks) all = let a = all.0.some_work in let b = all.0.work_fits in (omega (arith, a, b), some_periods tasks all.1)

-- a scale is at most the horizon that each period divides, so it is within its limit
pub no_large_scale : (s : SetContents) → IsLawful s → PeriodsDivide s.tasks s.horizon → (at : ℕ) → PassesAt (2 ^ 94) s.tasks at → ⊥
no_large_scale s lawful divide at passes =
    let scale = some_scale s lawful in
    let over = PassesAt-whole (2 ^ 94) s.tasks at passes scale.0 scale.1 in
    let within = scale.1.least s.horizon lawful.some_horizon divide in
    let fits = lawful.horizon_fits in
    omega (arith, over, within, fits)

first_event : (p : PlanContents) → is_event (set_boundary p.set.tasks) p.tree 0 ≡ true
unfolding is_event
first_event p = refl

-- a plan has a round
pub some_round : (p : PlanContents) → IsPlan p → 1 ≤ rounds_of p
some_round p h =
    let horizon = h.lawful.some_horizon in
    let scale = h.tree.scale.positive in
    let some : 0 < stop_of p = grind (arith, horizon, scale) in
    let more = more_rounds p 0 (first_event p) some in
    omega (arith, more)

module _ (m : ℕ) (before : List SetContents) (s : SetContents) where
  pub processors_first : s.processors ≢ m → IsFirstOf m before s kind.Processors
  processors_first other = record { has = other; first = λ k has. omega arith }

  after_processors : s.processors ≡ m → (k : ModeKind) → Has m before s k → 1 ≤ rank k
  after_processors same kind.Processors has = absurd (has same)
  after_processors same (kind.Offset task) has = omega arith
  after_processors same (kind.Period task) has = omega arith
  after_processors same (kind.Overload total room) has = omega arith
  after_processors same (kind.TooLong rows) has = omega arith

  after_offset : s.processors ≡ m → AllByRecursion (λ t. t.offset ≡ 0) s.tasks → (k : ModeKind) → Has m before s k → 2 ≤ rank k
  after_offset same zeros kind.Processors has = absurd (has same)
  after_offset same zeros (kind.Offset task) has = absurd (has.holds (by_number (λ t. t.offset ≡ 0) s.tasks zeros task has.within))
  after_offset same zeros (kind.Period task) has = omega arith
  after_offset same zeros (kind.Overload total room) has = omega arith
  after_offset same zeros (kind.TooLong rows) has = omega arith

  after_period : CanJoin m s → (k : ModeKind) → Has m before s k → 3 ≤ rank k
  after_period can kind.Processors has = absurd (has can.same_processors)
  after_period can (kind.Offset task) has = absurd (has.holds (by_number (λ t. t.offset ≡ 0) s.tasks can.can_repeat.no_offset task has.within))
  after_period can (kind.Period task) has = absurd (has.holds (by_number (λ t. t.period ∣ s.horizon) s.tasks can.can_repeat.whole_periods task has.within))
  after_period can (kind.Overload total room) has = omega arith
  after_period can (kind.TooLong rows) has = omega arith

  no_overload : (scale : ℕ) → IsScale s.tasks scale → Fits scale s → (total room : ℕ) → IsOverload s total room → ⊥
  no_overload scale is fits total room over =
      let (other, has, t, r) = over.some_scale in
      let same = same_scale s.tasks other scale has.is is in
      let more : room_of scale s < total_of scale s.tasks = subst (λ x. room_of x s < total_of x s.tasks) same (rw (sym t, sym r) over.over) in
      omega (arith, more, fits)

  pub after_overload : CanJoin m s → (scale : ℕ) → IsScale s.tasks scale → Fits scale s → (k : ModeKind) → Has m before s k → 4 ≤ rank k
  after_overload can scale is fits kind.Processors has = absurd (has can.same_processors)
  after_overload can scale is fits (kind.Offset task) has = absurd (has.holds (by_number (λ t. t.offset ≡ 0) s.tasks can.can_repeat.no_offset task has.within))
  after_overload can scale is fits (kind.Period task) has = absurd (has.holds (by_number (λ t. t.period ∣ s.horizon) s.tasks can.can_repeat.whole_periods
      task has.within))
  after_overload can scale is fits (kind.Overload total room) has = absurd (no_overload scale is fits total room has)
  after_overload can scale is fits (kind.TooLong rows) has = omega arith

  pub offset_first : s.processors ≡ m → (task : ℕ) → IsFirstTask (λ t. t.offset ≢ 0) s.tasks task → IsFirstOf m before s (kind.Offset task)
  offset_first same task has = record { has = has; first = after_processors same }

  pub period_first : s.processors ≡ m → AllByRecursion (λ t. t.offset ≡ 0) s.tasks → (task : ℕ) → IsFirstTask (λ t. t.period ∣ s.horizon → ⊥) s.tasks task →
      IsFirstOf m before s (kind.Period task)
  period_first same zeros task has = record { has = has; first = after_offset same zeros }

  pub overload_first : CanJoin m s → (total room : ℕ) → IsOverload s total room → IsFirstOf m before s (kind.Overload total room)
  overload_first can total room has = record { has = has; first = after_period can }

  pub too_long_first : CanJoin m s → (scale : ℕ) → IsScale s.tasks scale → Fits scale s → (rows : ℕ) → Has m before s (kind.TooLong rows) →
      IsFirstOf m before s (kind.TooLong rows)
  too_long_first can scale is fits rows has = record { has = has; first = after_overload can scale is fits }
