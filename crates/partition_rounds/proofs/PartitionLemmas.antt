-- The rounds of a partitioned plan, cut at the ends of the rounds of its processors.
use Rattle.std.proofs.Common.{◌≡◌, ℕ, zero, suc, ◌+◌, ◌*◌, ◌%◌, ◌/◌, ◌<◌, ◌≤◌, ◌^◌, ◌⊎◌, ◌∙◌, ◌-◌, ◌∷◌, ◌++◌, [], inl, inr, Bool, true, false, List}
use Rattle.std.proofs.Common.{length, length-set, get_or, get_or-set_other, get_or-set_same, min, set, slice_get, Option, None, Some, refl, sym, ap}
use Rattle.std.proofs.Common.{subst, arith, div-add-mod', mul-le-mul_right, le_of_lt}
use Rattle.std.specs.List.{AllByRecursion}
use Rattle.std.proofs.Math.Nat.{lt_of_mul-lt-mul_right, mul-div_cancel, mul-mod_left}
use Rattle.std.proofs.lemmas.Bool.{both_ways, cases_Bool, cases_eq, cases_lt, le-ltb}
use Rattle.std.proofs.lemmas.List.{get_or_past}
use Rattle.std.proofs.lemmas.Nat.{div_below, le-div}
use Rattle.std.proofs.lemmas.Option.{slice_get-get_or, slice_get_within}
use Rattle.sched_base.specs.declared.rows.Leaf.{Leaf}
use Rattle.sched_base.specs.declared.rows.Leaf.TheVariants.{Task as task_leaf, Wait as wait_leaf, Idle as idle_leaf, Empty}
use Rattle.sched_base.specs.declared.rows.Row.{Row}
use Rattle.sched_base.specs.declared.sets.Task.{Task}
use Rattle.sched_base.specs.Sets.{task_at}
use Rattle.sched_base.proofs.TableLemmas.{slice_get-push}
use Rattle.run_tree.specs.Boundaries.{set_boundary}
use Rattle.run_tree.specs.Plans.{IsPlan, PlanContents, stop_of}
use Rattle.run_tree.specs.Schedule.{leaf_on, packs_at, shown}
use Rattle.sched_laws.proofs.BetweenEvents.{set_runs_still}
use Rattle.event_core.specs.Cores.{runs_at}
use Rattle.event_core.specs.Rounds.{IsRoundStart, IsRoundUpTo, event_at}
use Rattle.event_core.specs.Told.{IsTold}
use Rattle.event_core.proofs.NextCores.{event_first}
use Rattle.merged_rounds.specs.Laps.{IsAllTold}
use Rattle.merged_rounds.proofs.LapLemmas.{leaf_is}
use Rattle.round_looks.specs.Looks.{leaf_at}
use Rattle.partition_laws.specs.Partitions.{IsPartitioned, member_of}
use Rattle.partition_laws.proofs.OwnEvents.{event_of_none, event_there}
use Rattle.partition_laws.proofs.OwnPlaces.{as_many, holds_own, leaf_own}
use Rattle.partition_laws.proofs.OwnTicks.{own_member}
use Rattle.own_plans.specs.declared.owns.OwnPlan.{OwnPlan}
use Rattle.own_plans.specs.OwnPlans.{IsOwnPlanOf}
use Rattle.partition_rounds.specs.declared.own_rounds.OwnRounds.{OwnRounds}
use Rattle.partition_rounds.specs.declared.partitions.Partition.{Partition}
use Rattle.partition_rounds.specs.OwnRounds.{IsGoing, IsOwnRound, IsOwnRoundsOf, IsPartitionOf}
use Rattle.partition_rounds.specs.PartitionSteps.{HasGone, HasStayed}

-- ---- where no task has an offset, each leaf is shown as it is

-- each offset is 0, in ticks too
none_waits : (tasks : List Task) → AllByRecursion (λ t. t.offset ≡ 0) tasks → (scale j : ℕ) → (task_at tasks j).offset * scale ≤ 0
none_waits [] all scale j = omega arith
none_waits (t ∷ tasks) all scale zero = let z = ap (λ o. o * scale) all.0 in omega (arith, z)
none_waits (t ∷ tasks) all scale (suc j) = none_waits tasks all.1 scale j

-- so none is shown as waiting
shown_as_is : (tasks : List Task) → AllByRecursion (λ t. t.offset ≡ 0) tasks → (scale start : ℕ) (l : Leaf) → shown tasks scale start l ≡ l
shown_as_is tasks all scale start (task_leaf id) =
    let w = none_waits tasks all scale id.0 in
    ap (λ (b : Bool). elim b as (λ y. Leaf) [ true ↦ wait_leaf id | false ↦ task_leaf id ]) (le-ltb start ((task_at tasks id.0).offset * scale)
    (omega (arith, w)))
shown_as_is tasks all scale start (wait_leaf id) = refl
shown_as_is tasks all scale start (idle_leaf number) = refl
shown_as_is tasks all scale start Empty = refl

-- ---- within a round the same members run

-- a node runs at all ticks of a round, if it does at the first
same_until : (p : PlanContents) → IsPlan p → (first last x k : ℕ) → IsRoundUpTo p first last → x < length p.tree.nodes → first + k < last →
    runs_at p x (first + k) ≡ runs_at p x first
same_until p h first last x zero r l below = ap (runs_at p x) (let e : first + 0 ≡ first = omega arith in e)
same_until p h first last x (suc k) r l below =
    let most : p.set.horizon * p.tree.scale ≤ 2 ^ 32 * p.tree.scale = mul-le-mul_right p.tree.scale (le_of_lt h.lawful.horizon_fits) in
    let within = r.below in
    let next : first + k + 1 ≡ first + suc k = omega arith in
    let calm : event_at p (first + k + 1) ≡ false = r.quiet (first + k + 1) (omega arith) (omega (arith, below)) in
    ap (runs_at p x) (sym next)
    ∙ set_runs_still p.set h.lawful p.tree h.tree (first + k) (omega (arith, most, within, below)) calm x l
    ∙ same_until p h first last x k r l (omega (arith, below))

-- so at each tick of the round
same_within : (p : PlanContents) → IsPlan p → (first last x n : ℕ) → IsRoundUpTo p first last → x < length p.tree.nodes → first ≤ n → n < last →
    runs_at p x n ≡ runs_at p x first
same_within p h first last x n r l low high =
    let e : first + (n - first) ≡ n = omega (arith, low) in
    subst (λ (m : ℕ). runs_at p x m ≡ runs_at p x first) e (same_until p h first last x (n - first) r l (omega (arith, e, high)))

-- ---- some round ends where one begins

-- the last event up to tick n
last_event : (p : PlanContents) (n : ℕ) → (s : ℕ) × (s ≤ n) × (event_at p s ≡ true) × ((m : ℕ) → s < m → m ≤ n → event_at p m ≡ false)
last_event p zero = (0, omega arith, event_first p, λ m low high. absurd (omega (arith, low, high)))
last_event p (suc n) = elim (cases_Bool (event_at p (suc n))) [
  | inl on ↦ (suc n, omega arith, on, λ m low high. absurd (omega (arith, low, high)))
  | inr off ↦
      (let b = last_event p n in
      let l = b.1 in (
        b.0,
        omega (arith, l),
        b.2,
        λ m low high. elim (cases_eq m (suc n)) [
          | inl same ↦ subst (λ (k : ℕ). event_at p k ≡ false) (sym same) off
          | inr other ↦ b.3 m low (omega (arith, high, other))
        ],
      ))
]

-- so a round ends at each tick where one begins, and at the end of all
pub round_before : (p : PlanContents) (n : ℕ) → 0 < n → n ≤ stop_of p → IsRoundStart p n → (s : ℕ) × IsRoundUpTo p s n
round_before p n some early at =
    let b = last_event p (n - 1) in
    let l = b.1 in
    (b.0, record { event = b.2; above = omega (arith, l, some); below = early; quiet = λ m low high. b.3 m low (omega (arith, high)); last = at })

-- ---- the round of one processor

module _ (whole : PlanContents) (w : IsPlan whole) (roots : IsPartitioned whole.tree) (on_time : AllByRecursion (λ t. t.offset ≡ 0) whole.set.tasks)
    (q : ℕ) (own : OwnPlan) (o : IsPlan own.plan) (is : IsOwnPlanOf whole q own) where
  -- the factor is some number
  some : 0 < own.factor
  some = let s = is.own.some in omega (arith, s)

  -- the processor is one of the plan's
  pub on_processor : q < whole.tree.processors
  on_processor = let l = is.own.pack in let m = as_many whole w roots in omega (arith, l, m)

  -- all rounds end together
  same_stop : stop_of own.plan * own.factor ≡ stop_of whole
  same_stop =
      let h = is.own.horizon in
      let s = is.own.scale in
      let e : whole.set.horizon * whole.tree.scale ≡ own.plan.set.horizon * (own.factor * own.plan.tree.scale) = ap (λ u. u * whole.tree.scale) h
      ∙ ap (λ v. own.plan.set.horizon * v) s in
      omega (arith, e)

  -- an event of the own plan is one of the whole plan
  own_event : (k : ℕ) → 0 < k * own.factor → event_at own.plan k ≡ true → event_at whole (k * own.factor) ≡ true
  own_event k later on =
      event_there whole own.plan q own.factor w o roots is.own (k * own.factor) later (mul-mod_left k own.factor)
      (ap (event_at own.plan) (mul-div_cancel k some) ∙ on)

  -- where a round of it begins or all end, so does one of the whole plan, or all end
  pub own_begins : (k : ℕ) → 0 < k * own.factor → IsRoundStart own.plan k → IsRoundStart whole (k * own.factor)
  own_begins k later (inl all) = inl (ap (λ n. n * own.factor) all ∙ same_stop)
  own_begins k later (inr on) = inr (own_event k later on)

  -- it ends in time
  pub ends_early : (start end : ℕ) (shows : Leaf) → IsOwnRound own start end shows → end ≤ stop_of whole
  ends_early start end shows r =
      let e = r.end_is in
      let m = mul-le-mul_right own.factor r.round.below in
      let s = same_stop in
      omega (arith, e, m, s)

  -- and it is some ticks long
  pub goes_on : (start end : ℕ) (shows : Leaf) → IsOwnRound own start end shows → start < end
  goes_on start end shows r =
      let e = r.end_is in
      let b = r.start_is in
      let up : r.first + 1 ≤ r.last = (let a = r.round.above in omega (arith, a)) in
      let m = mul-le-mul_right own.factor up in
      let f = some in
      omega (arith, e, b, m, f)

  -- an event between its ends is none of the own plan
  pub quiet_own : (start end n : ℕ) (shows : Leaf) → IsOwnRound own start end shows → start < n → n < end → n % own.factor ≡ 0 →
      event_at own.plan (n / own.factor) ≡ false
  quiet_own start end n shows r low high z =
      let d = div-add-mod' n own.factor in
      let b = r.start_is in
      let e = r.end_is in
      r.round.quiet (n / own.factor)
      (lt_of_mul-lt-mul_right own.factor (omega (arith, d, b, low, z)))
      (lt_of_mul-lt-mul_right own.factor (omega (arith, d, e, high, z)))

  -- What the processor shows in a round of the whole plan that begins in a round of the own plan.
  pub shows_in : (start end from to : ℕ) (shows : Leaf) (none : Row) → IsOwnRound own start end shows → start ≤ from → from < end → leaf_at whole from to q
      none ≡ shows
  shows_in start end from to shows none r low high =
      let b = r.start_is in
      let e = r.end_is in
      let node = member_of own.plan.tree 0 r.place in
      let real = (own_member whole own.plan q own.factor w o roots is.own r.place r.within).0 in
      let run : runs_at own.plan node (from / own.factor) ≡ true =
      same_within own.plan o r.first r.last node (from / own.factor) r.round real
      (le-div r.first from own.factor some (omega (arith, b, low))) (div_below from own.factor r.last some (omega (arith, e, high)))
      ∙ r.runs in
      let bound = set_boundary whole.set.tasks in
      leaf_is whole from to q none on_processor
      ∙ ap (λ o. shown whole.set.tasks whole.tree.scale from (leaf_on bound whole.tree from o)) (holds_own whole w roots from q on_processor)
      ∙ shown_as_is whole.set.tasks on_time whole.tree.scale from (leaf_on bound whole.tree from (Some q))
      ∙ leaf_own whole own.plan q own.factor w o roots is.own from r.place r.within run
      ∙ sym (is.leaves r.place r.within) ∙ sym r.shown

  -- A round of the own plan that goes on at a tick began when that of the whole plan did that ends there, or before.
  pub began : (start end from tick : ℕ) (shows : Leaf) → IsOwnRound own start end shows → start < tick → IsRoundUpTo whole from tick → start ≤ from
  began start end from tick shows r before round = elim (cases_lt from start) [
    | inr low ↦ low
    | inl high ↦
        (let b = r.start_is in
        let at : event_at whole start ≡ true = subst (λ (n : ℕ). event_at whole n ≡ true) (sym b) (own_event r.first (omega (arith, b, high)) r.round.event) in
        absurd (both_ways (event_at whole start) (round.quiet start high before) at))
  ]

  -- so the processor shows the same in both
  pub going_shows : (from tick end : ℕ) (shows : Leaf) (none : Row) → IsGoing own tick end shows → IsRoundUpTo whole from tick → leaf_at whole from tick q
      none ≡ shows
  going_shows from tick end shows none g round =
      let a = g.after in
      let u = round.above in
      shows_in g.start end from tick shows none g.round (began g.start end from tick shows g.round g.before round) (omega (arith, a, u))

-- ---- each processor in turn

-- the first of a list that isn't empty
first_of : {X : Type 0} (xs : List X) → 0 < length xs → (x : X) × (slice_get xs 0 ≡ Some x)
first_of [] l = absurd (omega (arith, l))
first_of (x ∷ xs) l = (x, refl)

-- what is written at a place stands there
slice_get-set_same : {X : Type 0} (xs : List X) (n : ℕ) (x : X) → n < length xs → slice_get (set xs n x) n ≡ Some x
slice_get-set_same [] n x l = absurd (omega (arith, l))
slice_get-set_same (y ∷ xs) zero x l = refl
slice_get-set_same (y ∷ xs) (suc n) x l = slice_get-set_same xs n x (omega (arith, l))

-- and the others stay
slice_get-set_other : {X : Type 0} (xs : List X) (n k : ℕ) (x : X) → (k ≡ n → ⊥) → slice_get (set xs n x) k ≡ slice_get xs k
slice_get-set_other [] n k x ne = refl
slice_get-set_other (y ∷ xs) zero zero x ne = absurd (ne refl)
slice_get-set_other (y ∷ xs) zero (suc k) x ne = refl
slice_get-set_other (y ∷ xs) (suc n) zero x ne = refl
slice_get-set_other (y ∷ xs) (suc n) (suc k) x ne = slice_get-set_other xs n k x (λ e. ne (ap suc e))

-- a processor moved on, and is told with what it shows
pub record WasDue (k now : ℕ) (lane : OwnRounds) (told : List ℕ) (leaves : List (Option Leaf)) (count : ℕ) : Type 0 where
  pub round : IsOwnRound lane.own now lane.end lane.shows
  pub shows : get_or leaves k None ≡ Some lane.shows
  pub told_it : IsTold told count k

-- or its round goes on, and nothing of it changed
pub record GoesOn (k now : ℕ) (was lane : OwnRounds) (before leaves : List (Option Leaf)) : Type 0 where
  pub later : was.end ≡ now → ⊥
  pub same : lane ≡ was
  pub shows : get_or leaves k None ≡ get_or before k None

-- one or the other
pub record IsMoved (whole : PlanContents) (k now : ℕ) (was lane : OwnRounds) (told : List ℕ) (before leaves : List (Option Leaf)) (count : ℕ) : Type 0 where
  pub belongs : IsOwnRoundsOf whole k lane
  pub own : lane.own ≡ was.own
  pub how : WasDue k now lane told leaves count ⊎ GoesOn k now was lane before leaves

-- what moves of a partition: its lanes, the processors that are told, and what each shows; how many are told, and the tick at which the first round ends
pub record Moving : Type 0 where
  pub lanes : List OwnRounds
  pub told : List ℕ
  pub leaves : List (Option Leaf)
  pub count : ℕ
  pub end : ℕ

-- where the first round of the first n lanes ends, or all rounds
pub record IsLeastEnd (whole : PlanContents) (lanes : List OwnRounds) (n end : ℕ) : Type 0 where
  pub within : end ≤ stop_of whole
  pub least : (k : ℕ) (r : OwnRounds) → k < n → slice_get lanes k ≡ Some r → end ≤ r.end
  pub is : (end ≡ stop_of whole) ⊎ ((k : ℕ) × (r : OwnRounds) × (k < n) × (slice_get lanes k ≡ Some r) × (end ≡ r.end))

-- the first n lanes of a partition moved on from tick `now`
pub record AreMoved (whole : PlanContents) (now n : ℕ) (old new : Moving) : Type 0 where
  pub long : length new.lanes ≡ length old.lanes
  pub long_told : length new.told ≡ length old.told
  pub long_leaves : length new.leaves ≡ length old.leaves
  pub rest : (k : ℕ) → n ≤ k → slice_get new.lanes k ≡ slice_get old.lanes k
  pub rest_leaves : (k : ℕ) → n ≤ k → get_or new.leaves k None ≡ get_or old.leaves k None
  pub each : (k : ℕ) (was lane : OwnRounds) → k < n → slice_get old.lanes k ≡ Some was → slice_get new.lanes k ≡ Some lane →
      IsMoved whole k now was lane new.told old.leaves new.leaves new.count
  pub few : new.count ≤ n
  pub processors : (j : ℕ) → j < new.count → get_or new.told j 0 < n
  pub end : IsLeastEnd whole new.lanes n new.end

-- none has moved yet
pub none_moved : (whole : PlanContents) (now : ℕ) (old : Moving) → old.count ≡ 0 → old.end ≡ stop_of whole → AreMoved whole now 0 old old
none_moved whole now old zero_count all = record {
  long = refl;
  long_told = refl;
  long_leaves = refl;
  rest = λ k l. refl;
  rest_leaves = λ k l. refl;
  each = λ k was lane l. absurd (omega (arith, l));
  few = omega (arith, zero_count);
  processors = λ j l. absurd (omega (arith, l, zero_count));
  end = record { within = omega (arith, all); least = λ k r l. absurd (omega (arith, l)); is = inl all };
}

module _ (whole : PlanContents) (now n : ℕ) (old new : Moving) (moved : AreMoved whole now n old new) (lane lane' : OwnRounds) (in_lanes : n < length new.lanes)
    (at : slice_get new.lanes n ≡ Some lane) (belongs : IsOwnRoundsOf whole n lane') (own : lane'.own ≡ lane.own) where
  -- a lane that isn't the one that moves
  other_lane : (k : ℕ) → (k ≡ n → ⊥) → slice_get (set new.lanes n lane') k ≡ slice_get new.lanes k
  other_lane k ne = slice_get-set_other new.lanes n k lane' ne

  -- and that one
  this_lane : slice_get (set new.lanes n lane') n ≡ Some lane'
  this_lane = slice_get-set_same new.lanes n lane' in_lanes

  -- the least end, with one more lane
  end_on : IsLeastEnd whole (set new.lanes n lane') (n + 1) (min new.end lane'.end)
  end_on =
      let within = moved.end.within in
      record {
        within = omega (arith, within);
        least = λ k r l is. elim (cases_eq k n) [
          | inl same ↦ (let e : Some lane' ≡ Some r = sym this_lane ∙ ap (λ j. slice_get (set new.lanes n lane') j) (sym same) ∙ is in
              let e' : lane' ≡ r = cc in
              let f = ap (λ (x : OwnRounds). x.end) e' in omega (arith, f))
          | inr ne ↦ (let b = moved.end.least k r (omega (arith, l, ne)) (sym (other_lane k ne) ∙ is) in omega (arith, b))
        ];
        is = elim (cases_lt lane'.end new.end) [
          | inl sooner ↦ inr (n, lane', omega arith, this_lane, omega (arith, sooner))
          | inr not_sooner ↦ (let m : min new.end lane'.end ≡ new.end = omega (arith, not_sooner) in elim moved.end.is [
            | inl all ↦ inl (m ∙ all)
            | inr some ↦ inr (
              some.0,
              some.1,
              (let l = some.2 in omega (arith, l)),
              (other_lane some.0 (let l = some.2 in λ e. omega (arith, e, l))
                  ∙ some.3),
              m ∙ some.4,
            )
          ])
        ];
      }

  -- the other lanes are as they were
  rest_on : (k : ℕ) → n + 1 ≤ k → slice_get (set new.lanes n lane') k ≡ slice_get old.lanes k
  rest_on k l = other_lane k (λ e. omega (arith, e, l)) ∙ moved.rest k (omega (arith, l))

  -- the lane that moves was one of those before
  was_lane : (was : OwnRounds) → slice_get old.lanes n ≡ Some was → was ≡ lane
  was_lane was is = (let e : Some was ≡ Some lane = sym is ∙ sym (moved.rest n (omega arith)) ∙ at in cc)

  -- and it is this one now
  now_lane : (r : OwnRounds) → slice_get (set new.lanes n lane') n ≡ Some r → r ≡ lane'
  now_lane r is = (let e : Some r ≡ Some lane' = sym is ∙ this_lane in cc)

  -- what stands of a lane that moved before still does
  moved_before : (told' : List ℕ) (leaves' : List (Option Leaf)) (count' k : ℕ) (was r : OwnRounds) → get_or leaves' k None ≡ get_or new.leaves k None →
      (IsTold new.told new.count k → IsTold told' count' k) →
      IsMoved whole k now was r new.told old.leaves new.leaves new.count → IsMoved whole k now was r told' old.leaves leaves' count'
  moved_before told' leaves' count' k was r same still m = record {
    belongs = m.belongs;
    own = m.own;
    how = elim m.how [
      | inl due ↦ inl (record { round = due.round; shows = same ∙ due.shows; told_it = still due.told_it })
      | inr on ↦ inr (record { later = on.later; same = on.same; shows = same ∙ on.shows })
    ];
  }

  -- one lane more, which moved on
  pub moved_gone : (told' : List ℕ) (leaves' : List (Option Leaf)) (count' : ℕ) → n < length new.leaves → new.count < length new.told →
      HasGone n now lane' new.told told' new.leaves leaves' new.count count' →
      AreMoved whole now (n + 1) old (record { lanes = set new.lanes n lane'; told = told'; leaves = leaves'; count = count'; end = min new.end lane'.end })
  moved_gone told' leaves' count' in_leaves room g =
      let few = moved.few in
      let counts = g.count_is in
      let other_leaf : (k : ℕ) → (k ≡ n → ⊥) → get_or leaves' k None ≡ get_or new.leaves k None =
      (λ k ne. ap (λ xs. get_or xs k None) g.leaves_is ∙ get_or-set_other new.leaves n k (Some lane'.shows) None ne) in
      let earlier : (j : ℕ) → j < new.count → get_or told' j 0 ≡ get_or new.told j 0 =
      (λ j l. ap (λ xs. get_or xs j 0) g.told_is ∙ get_or-set_other new.told new.count j n 0 (λ e. omega (arith, e, l))) in
      let last : get_or told' new.count 0 ≡ n = ap (λ xs. get_or xs new.count 0) g.told_is ∙ get_or-set_same new.told new.count n 0 room in
      record {
        long = length-set new.lanes n lane' ∙ moved.long;
        long_told = ap (λ (xs : List ℕ). length xs) g.told_is ∙ length-set new.told new.count n ∙ moved.long_told;
        long_leaves = ap (λ (xs : List (Option Leaf)). length xs) g.leaves_is ∙ length-set new.leaves n (Some lane'.shows) ∙ moved.long_leaves;
        rest = rest_on;
        rest_leaves = λ k l. other_leaf k (λ e. omega (arith, e, l)) ∙ moved.rest_leaves k (omega (arith, l));
        each = λ k was r l is now_is. elim (cases_eq k n) [
          | inr ne ↦
              moved_before told' leaves' count' k was r (other_leaf k ne) (λ t. (t.0, (let m = t.1 in omega (arith, m, counts)), earlier t.0 t.1 ∙ t.2))
              (moved.each k was r (omega (arith, l, ne)) is (sym (other_lane k ne) ∙ now_is))
          | inl same ↦
              (let was' = was_lane was (sym (ap (slice_get old.lanes) same) ∙ is) in
              let r' = now_lane r (sym (ap (slice_get (set new.lanes n lane')) same) ∙ now_is) in
              let P : ℕ → OwnRounds → OwnRounds → Type 0 = λ j w x. IsMoved whole j now w x told' old.leaves leaves' count' in
              subst (λ (j : ℕ). P j was r) (sym same) (subst (λ (x : OwnRounds). P n was x) (sym r') (subst (λ (w : OwnRounds). P n w lane') (sym was')
              (record {
                belongs = belongs;
                own = own;
                how = inl (record {
                  round = g.round;
                  shows = ap (λ xs. get_or xs n None) g.leaves_is ∙ get_or-set_same new.leaves n (Some lane'.shows) None in_leaves;
                  told_it = (new.count, omega (arith, counts), last);
                });
              }))))
        ];
        few = omega (arith, few, counts);
        processors = λ j l. elim (cases_eq j new.count) [
          | inl same ↦ (let e = ap (λ i. get_or told' i 0) same in omega (arith, e, last))
          | inr ne ↦ (let low : j < new.count = omega (arith, l, counts, ne) in let e = earlier j low in let p = moved.processors j low in omega (arith, e, p))
        ];
        end = end_on;
      }

  -- one lane more, whose round goes on
  pub moved_stayed : (told' : List ℕ) (leaves' : List (Option Leaf)) (count' : ℕ) → (lane.end ≡ now → ⊥) → HasStayed lane lane' new.told told' new.leaves
      leaves' new.count count' →
      AreMoved whole now (n + 1) old (record { lanes = set new.lanes n lane'; told = told'; leaves = leaves'; count = count'; end = min new.end lane'.end })
  moved_stayed told' leaves' count' later g =
      let few = moved.few in
      let counts = g.count_is in
      let leaf_as : (k : ℕ) → get_or leaves' k None ≡ get_or new.leaves k None = (λ k. ap (λ xs. get_or xs k None) g.leaves_is) in
      let told_as : (j : ℕ) → get_or told' j 0 ≡ get_or new.told j 0 = (λ j. ap (λ xs. get_or xs j 0) g.told_is) in
      record {
        long = length-set new.lanes n lane' ∙ moved.long;
        long_told = ap (λ (xs : List ℕ). length xs) g.told_is ∙ moved.long_told;
        long_leaves = ap (λ (xs : List (Option Leaf)). length xs) g.leaves_is ∙ moved.long_leaves;
        rest = rest_on;
        rest_leaves = λ k l. leaf_as k ∙ moved.rest_leaves k (omega (arith, l));
        each = λ k was r l is now_is. elim (cases_eq k n) [
          | inr ne ↦
              moved_before told' leaves' count' k was r (leaf_as k) (λ t. (t.0, (let m = t.1 in omega (arith, m, counts)), told_as t.0 ∙ t.2))
              (moved.each k was r (omega (arith, l, ne)) is (sym (other_lane k ne) ∙ now_is))
          | inl same ↦
              (let was' = was_lane was (sym (ap (slice_get old.lanes) same) ∙ is) in
              let r' = now_lane r (sym (ap (slice_get (set new.lanes n lane')) same) ∙ now_is) in
              let P : ℕ → OwnRounds → OwnRounds → Type 0 = λ j w x. IsMoved whole j now w x told' old.leaves leaves' count' in
              subst (λ (j : ℕ). P j was r) (sym same) (subst (λ (x : OwnRounds). P n was x) (sym r') (subst (λ (w : OwnRounds). P n w lane') (sym was')
              (record {
                belongs = belongs;
                own = own;
                how = inr (record { later = later; same = g.same; shows = leaf_as n ∙ moved.rest_leaves n (omega arith) });
              }))))
        ];
        few = omega (arith, few, counts);
        processors = λ j l. (let low : j < new.count = omega (arith, l, counts) in let e = told_as j in let p = moved.processors j low in omega (arith, e, p));
        end = end_on;
      }

-- ---- a round of the whole plan

-- a partition's lanes at a tick at which a round begins
pub record AreLanesAt (whole : PlanContents) (lanes : List OwnRounds) (tick : ℕ) : Type 0 where
  pub many : length lanes ≡ whole.tree.processors
  pub each : (q : ℕ) (r : OwnRounds) → slice_get lanes q ≡ Some r → IsOwnRoundsOf whole q r
  pub lawful : (q : ℕ) (r : OwnRounds) → slice_get lanes q ≡ Some r → IsPlan r.own.plan
  pub going : (q : ℕ) (r : OwnRounds) → slice_get lanes q ≡ Some r → ((tick ≡ 0) × (r.end ≡ 0)) ⊎ IsGoing r.own tick r.end r.shows

module _ (whole : PlanContents) (w : IsPlan whole) (roots : IsPartitioned whole.tree) (on_time : AllByRecursion (λ t. t.offset ≡ 0) whole.set.tasks)
    (tick : ℕ) (old new : Moving) (are : AreLanesAt whole old.lanes tick) (moved : AreMoved whole tick (length old.lanes) old new) (early : tick < stop_of
    whole) (begins : IsRoundStart whole tick) where
  -- a lane, as it was and as it is
  pub record IsLane (q : ℕ) (was lane : OwnRounds) : Type 0 where
    pub was_at : slice_get old.lanes q ≡ Some was
    pub now_at : slice_get new.lanes q ≡ Some lane
    pub on : q < length old.lanes
    pub step : IsMoved whole q tick was lane new.told old.leaves new.leaves new.count
    pub plan : IsPlan lane.own.plan

  -- each lane has one before
  lane_now : (q : ℕ) (lane : OwnRounds) → slice_get new.lanes q ≡ Some lane → (was : OwnRounds) × IsLane q was lane
  lane_now q lane at =
      let long = moved.long in
      let within = slice_get_within new.lanes q lane at in
      let on : q < length old.lanes = omega (arith, long, within) in
      let was = get_or old.lanes q lane in
      let was_at = slice_get-get_or old.lanes q lane on in
      let m = moved.each q was lane on was_at at in
      (was, record { was_at = was_at; now_at = at; on = on; step = m; plan = subst (λ (o : OwnPlan). IsPlan o.plan) (sym m.own) (are.lawful q was was_at) })

  -- a lane that isn't due goes on in a round of its own
  old_going : (q : ℕ) (was lane : OwnRounds) → IsLane q was lane → GoesOn q tick was lane old.leaves new.leaves → IsGoing lane.own tick lane.end lane.shows
  old_going q was lane is on = subst (λ (r : OwnRounds). IsGoing r.own tick r.end r.shows) (sym on.same) (elim (are.going q was is.was_at) [
    | inl first ↦ (let a = first.0 in let b = first.1 in absurd (on.later (omega (arith, a, b))))
    | inr going ↦ going
  ])

  -- each lane is in a round that began at this tick or before, and goes on
  in_round : (q : ℕ) (was lane : OwnRounds) → IsLane q was lane → (start : ℕ) × (start ≤ tick) × (tick < lane.end) × IsOwnRound lane.own start lane.end
      lane.shows
  in_round q was lane is = elim is.step.how [
    | inl due ↦ (tick, omega arith, goes_on whole w roots on_time q lane.own is.plan is.step.belongs.own tick lane.end lane.shows due.round, due.round)
    | inr on ↦
        (let g = old_going q was lane is on in
        let before = g.before in
        let after = g.after in
        let e = ap (λ (r : OwnRounds). r.end) on.same in
        let ne : lane.end ≡ tick → ⊥ = λ f. on.later (sym e ∙ f) in (
          g.start,
          omega (arith, before),
          elim (cases_lt tick lane.end) [
            | inl l ↦ l
            | inr m ↦ absurd (ne (omega (arith, m, after)))
          ],
          g.round,
        ))
  ]

  -- the round begins at an event
  event_now : event_at whole tick ≡ true
  event_now = elim begins [ inl all ↦ absurd (omega (arith, all, early)) | inr on ↦ on ]

  -- and ends later
  later : tick < new.end
  later = elim moved.end.is [
    | inl all ↦ omega (arith, all, early)
    | inr some ↦
        (let l = lane_now some.0 some.1 some.3 in
        let r = in_round some.0 l.0 some.1 l.1 in
        let up = r.2 in
        let e = some.4 in
        omega (arith, up, e))
  ]

  -- where a round of some processor ends or all end
  ends_there : IsRoundStart whole new.end
  ends_there = elim moved.end.is [
    | inl all ↦ inl all
    | inr some ↦
        (let l = lane_now some.0 some.1 some.3 in
        let r = (in_round some.0 l.0 some.1 l.1).3 in
        let e : new.end ≡ r.last * some.1.own.factor = some.4 ∙ r.end_is in
        let up = later in
        subst (λ (n : ℕ). IsRoundStart whole n) (sym e) (own_begins whole w roots on_time some.0 some.1.own l.1.plan l.1.step.belongs.own r.last
        (omega (arith, e, up)) r.round.last))
  ]

  -- there is a lane for each pack of level 0
  lane_of : (i : ℕ) → i < length (packs_at whole.tree 0) → i < length new.lanes
  lane_of i l = (let a = as_many whole w roots in let b = are.many in let c = moved.long in omega (arith, l, a, b, c))

  -- nothing begins within
  quiet_now : (none : OwnRounds) (some : IsPlan none.own.plan) (n : ℕ) → tick < n → n < new.end → event_at whole n ≡ false
  quiet_now none some n low high =
      event_of_none whole (λ i. (get_or new.lanes i none).own.plan) (λ i. (get_or new.lanes i none).own.factor) w lawful roots
      (λ i l. (let at = slice_get-get_or new.lanes i none (lane_of i l) in (lane_now i (get_or new.lanes i none) at).1.step.belongs.own.own)) n
      (omega (arith, low))
      (λ i l z.
      let lane = get_or new.lanes i none in
      let at = slice_get-get_or new.lanes i none (lane_of i l) in
      let (was, is) = lane_now i lane at in
      let (start, before, after, round) = in_round i was lane is in
      let least = moved.end.least i lane (let a = is.on in a) at in
      quiet_own whole w roots on_time i lane.own is.plan is.step.belongs.own start lane.end n lane.shows round (omega (arith, before, low))
      (omega (arith, least, high)) z)
    where
      lawful : (i : ℕ) → IsPlan (get_or new.lanes i none).own.plan
      lawful i = elim (cases_lt i (length new.lanes)) [
        | inl low ↦ (let at = slice_get-get_or new.lanes i none low in (lane_now i (get_or new.lanes i none) at).1.plan)
        | inr high ↦ subst (λ (r : OwnRounds). IsPlan r.own.plan) (sym (get_or_past new.lanes i none high)) some
      ]

  -- so a round of the whole plan goes up to the first end
  pub round_now : IsRoundUpTo whole tick new.end
  round_now =
      let some = w.sized.some_processors in
      let many = are.many in
      let long = moved.long in
      let first = first_of new.lanes (omega (arith, some, many, long)) in record {
        event = event_now;
        above = later;
        below = moved.end.within;
        quiet = quiet_now first.0 (lane_now 0 first.0 first.1).1.plan;
        last = ends_there;
      }

  -- in which each processor shows what it does in its own
  shows_now : (q : ℕ) (was lane : OwnRounds) (none : Row) → IsLane q was lane → leaf_at whole tick new.end q none ≡ lane.shows
  shows_now q was lane none is =
      let (start, before, after, round) = in_round q was lane is in
      shows_in whole w roots on_time q lane.own is.plan is.step.belongs.own start lane.end tick new.end lane.shows none round before after

  -- and before, where it goes on
  shown_before : (q start : ℕ) (was lane : OwnRounds) (none : Row) → IsLane q was lane → GoesOn q tick was lane old.leaves new.leaves →
      IsRoundUpTo whole start tick →
      leaf_at whole start tick q none ≡ lane.shows
  shown_before q start was lane none is on round =
      going_shows whole w roots on_time q lane.own is.plan is.step.belongs.own start tick lane.end lane.shows none (old_going q was lane is on) round

  -- each processor has a lane
  lane_on : (q : ℕ) (none : Row) → q < whole.tree.processors → (lane : OwnRounds) × (was : OwnRounds) × IsLane q was lane
  lane_on q none l =
      let many = are.many in
      let long = moved.long in
      let on : q < length new.lanes = omega (arith, l, many, long) in
      let first = first_of new.lanes (omega (arith, on)) in
      let lane = get_or new.lanes q first.0 in
      let r = lane_now q lane (slice_get-get_or new.lanes q first.0 on) in
      (lane, r.0, r.1)

  -- of each it is told what it shows
  pub all_now : length old.leaves ≡ whole.tree.processors → ((start : ℕ) → IsRoundUpTo whole start tick → IsAllTold whole start tick old.leaves) →
      IsAllTold whole tick new.end new.leaves
  all_now many before = record {
    long = moved.long_leaves ∙ many;
    each = λ q none l. (let (lane, was, is) = lane_on q none l in known q was lane none l is is.step.how ∙ ap (λ (x : Leaf). Some x)
        (sym (shows_now q was lane none is)));
  }
    where
      known : (q : ℕ) (was lane : OwnRounds) (none : Row) → q < whole.tree.processors → IsLane q was lane →
          WasDue q tick lane new.told new.leaves new.count ⊎ GoesOn q tick was lane old.leaves new.leaves → get_or new.leaves q None ≡ Some lane.shows
      known q was lane none l is (inl due) = due.shows
      known q was lane none l is (inr on) =
          let g = old_going q was lane is on in
          let b = g.before in
          let r = round_before whole tick (omega (arith, b)) (le_of_lt early) begins in
          on.shows ∙ (before r.0 r.1).each q none l ∙ ap (λ (x : Leaf). Some x) (shown_before q r.0 was lane none is on r.1)

  -- and those that aren't told show the same as before
  pub same_now : (q start : ℕ) (none : Row) → q < whole.tree.processors → (IsTold new.told new.count q → ⊥) → IsRoundUpTo whole start tick →
      leaf_at whole tick new.end q none ≡ leaf_at whole start tick q none
  same_now q start none l away round =
      let (lane, was, is) = lane_on q none l in
      elim is.step.how [
        | inl due ↦ absurd (away due.told_it)
        | inr on ↦ shows_now q was lane none is ∙ sym (shown_before q start was lane none is on round)
      ]

  -- in the first round all are told
  pub first_told : (none : Row) → tick ≡ 0 → (q : ℕ) → q < whole.tree.processors → IsTold new.told new.count q
  first_told none at_start q l =
      let (lane, was, is) = lane_on q none l in
      elim is.step.how [
        | inl due ↦ due.told_it
        | inr on ↦ (let g = old_going q was lane is on in let b = g.before in absurd (omega (arith, b, at_start)))
      ]

  -- so the lanes stand at the end of that round
  pub lanes_now : AreLanesAt whole new.lanes new.end
  lanes_now = record {
    many = moved.long ∙ are.many;
    each = λ q r at. (lane_now q r at).1.step.belongs;
    lawful = λ q r at. (lane_now q r at).1.plan;
    going = λ q r at. (
        let (was, is) = lane_now q r at in
        let (start, before, after, round) = in_round q was r is in
        let up = later in
        inr (record { start = start; before = omega (arith, before, up); after = moved.end.least q r is.on at; round = round }));
  }

-- ---- the next round of a partition

-- the lanes moved on for the round from tick `start`, which goes up to tick `end`
pub record HasGoneOn (whole : PlanContents) (old new : Moving) (start : ℕ) : Type 0 where
  pub round : IsRoundUpTo whole start new.end
  pub lanes : AreLanesAt whole new.lanes new.end
  pub all : length old.leaves ≡ whole.tree.processors → ((from : ℕ) → IsRoundUpTo whole from start → IsAllTold whole from start old.leaves) →
      IsAllTold whole start new.end new.leaves
  pub others : (q from : ℕ) (none : Row) → q < whole.tree.processors → (IsTold new.told new.count q → ⊥) → IsRoundUpTo whole from start →
      leaf_at whole start new.end q none ≡ leaf_at whole from start q none
  pub first : (none : Row) → start ≡ 0 → (q : ℕ) → q < whole.tree.processors → IsTold new.told new.count q

-- so they did, where each did
pub gone_on : (whole : PlanContents) → IsPlan whole → (part : Partition) → IsPartitionOf whole part → part.tick < stop_of whole → (old new : Moving) (n : ℕ)
    → old.lanes ≡ part.lanes.items → n ≡ length old.lanes → AreMoved whole part.tick n old new →
    HasGoneOn whole old new part.tick
gone_on whole w part p early old new n same all moved_n =
    let tick = part.tick in
    let moved : AreMoved whole tick (length old.lanes) old new = subst (λ (m : ℕ). AreMoved whole tick m old new) all moved_n in
    let are : AreLanesAt whole old.lanes tick = subst (λ (lanes : List OwnRounds). AreLanesAt whole lanes tick) (sym same)
    (record { many = p.many; each = p.each; lawful = p.lawful; going = p.going }) in record {
      round = round_now whole w p.partitioned p.on_time tick old new are moved early p.event;
      lanes = lanes_now whole w p.partitioned p.on_time tick old new are moved early p.event;
      all = all_now whole w p.partitioned p.on_time tick old new are moved early p.event;
      others = same_now whole w p.partitioned p.on_time tick old new are moved early p.event;
      first = first_told whole w p.partitioned p.on_time tick old new are moved early p.event;
    }

-- ---- at tick 0

-- these are the lanes of the first processors, none of whose rounds has gone by
pub record AreFirst (whole : PlanContents) (lanes : List OwnRounds) : Type 0 where
  pub each : (q : ℕ) (r : OwnRounds) → slice_get lanes q ≡ Some r → IsOwnRoundsOf whole q r
  pub lawful : (q : ℕ) (r : OwnRounds) → slice_get lanes q ≡ Some r → IsPlan r.own.plan
  pub begin : (q : ℕ) (r : OwnRounds) → slice_get lanes q ≡ Some r → r.end ≡ 0

-- none is
pub no_lane : (whole : PlanContents) → AreFirst whole []
no_lane whole = record {
  each = λ q r at. absurd (let e : None ≡ Some r = at in cc);
  lawful = λ q r at. absurd (let e : None ≡ Some r = at in cc);
  begin = λ q r at. absurd (let e : None ≡ Some r = at in cc);
}

-- and so they are with that of the next
pub one_lane : (whole : PlanContents) (lanes : List OwnRounds) (next : OwnRounds) → AreFirst whole lanes → IsOwnRoundsOf whole (length lanes) next →
    IsPlan next.own.plan → next.end ≡ 0 → AreFirst whole (lanes ++ next ∷ [])
one_lane whole lanes next are is lawful zero_end = record {
  each = λ q r at. elim (slice_get-push lanes next r q at) [
    | inl before ↦ are.each q r before.1
    | inr last ↦ subst (λ n. IsOwnRoundsOf whole n r) (sym last.0) (subst (λ (x : OwnRounds). IsOwnRoundsOf whole (length lanes) x) last.1 is)
  ];
  lawful = λ q r at. elim (slice_get-push lanes next r q at) [
    | inl before ↦ are.lawful q r before.1
    | inr last ↦ subst (λ (x : OwnRounds). IsPlan x.own.plan) last.1 lawful
  ];
  begin = λ q r at. elim (slice_get-push lanes next r q at) [
    | inl before ↦ are.begin q r before.1
    | inr last ↦ subst (λ (x : OwnRounds). x.end ≡ 0) last.1 zero_end
  ];
}

-- so those of all processors are a partition
pub first_partition : (whole : PlanContents) → IsPlan whole → (part : Partition) → IsPartitioned whole.tree → AllByRecursion (λ t. t.offset ≡ 0)
    whole.set.tasks → part.tick ≡ 0 → length part.lanes.items ≡ length (packs_at whole.tree 0) →
    AreFirst whole part.lanes.items → IsPartitionOf whole part
first_partition whole w part roots on_time first many are = record {
  partitioned = roots;
  on_time = on_time;
  many = many ∙ as_many whole w roots;
  each = are.each;
  lawful = are.lawful;
  going = λ q r at. inl (first, are.begin q r at);
  event = inr (ap (event_at whole) first ∙ event_first whole);
  within = omega (arith, first);
}
