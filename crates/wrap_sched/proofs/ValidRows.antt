-- The wrapped schedule is valid.
use Rattle.std.proofs.Common.{List, [], add-mul, ap, arith, eq-eqb, eqb, false, inl, inr, le-leb, le_refl, leb, length, mul-le-mul_right, refl, suc}
use Rattle.std.proofs.Common.{true, zero, ℕ, ◌%◌, ◌&&◌, ◌*◌, ◌+◌, ◌-◌, ◌<◌, ◌∙◌, ◌∷◌, ◌≡◌, ◌≤◌}
use Rattle.std.proofs.Math.Nat.{le_of_mul-le-mul_right, mul-le-mul_left, mul-mod_left, mul-pos}
use Rattle.std.proofs.lemmas.Bool.{and_from, both_ways, cases_lt, or_left, or_right}
use Rattle.std.specs.List.{AllByRecursion, flat_map, list_any}
use Rattle.sched_base.specs.Boundaries.{task_boundary}
use Rattle.sched_base.specs.declared.rows.Row.{Row}
use Rattle.sched_base.specs.declared.sets.Task as declared
use Rattle.sched_base.specs.Rows.{AllApart, DontOverlap, is_of_task, overlap, task_ticks}
use Rattle.sched_base.specs.Scale.{Fits, IsScale, rate_of, total_of}
use Rattle.sched_base.specs.Sets.{IsLawful, IsLawfulTask, SetContents, task_at}
use Rattle.sched_base.specs.Valid.{IsValid, period_start}
use Rattle.sched_base.proofs.RateLemmas.{rate_exact}
use Rattle.sched_base.proofs.RowLemmas.{AllByRecursion-by, task_ticks-append}
use Rattle.wrap_sched.specs.Spans.{Span}
use Rattle.wrap_sched.specs.Wrapped.{holder, is_cut, is_point, round_rows, row_of, shares, slice_rounds, slice_rows, slices, units, wrapped}
use Rattle.wrap_sched.proofs.RowLemmas.{flat_all, flat_apart, map_all, map_apart, ticks_outside}
use Rattle.wrap_sched.proofs.ShareLemmas.{cut_at_zero, holder_once, share_at}
use Rattle.wrap_sched.proofs.SliceLemmas.{first_of_all, leaf_is_task, length-shares, share_is, slice_gives}
use Rattle.wrap_sched.proofs.SpanLemmas.{Tile, tile_all, tile_at}

-- a task's periods begin at points
pub boundary_at : (task : declared.Task) (k : ℕ) → task_boundary task (task.offset + k * task.period) ≡ true
boundary_at task k =
    let e : task.offset + k * task.period - task.offset ≡ k * task.period = omega arith in
    or_right (eqb (task.offset + k * task.period) 0) (leb task.offset (task.offset + k * task.period) && eqb ((task.offset + k * task.period - task.offset)
    % task.period) 0)
    (and_from (leb task.offset (task.offset + k * task.period)) (eqb ((task.offset + k * task.period - task.offset) % task.period) 0)
    (le-leb task.offset (task.offset + k * task.period) (omega arith))
    (eq-eqb ((task.offset + k * task.period - task.offset) % task.period) 0 (ap (λ x. x % task.period) e ∙ mul-mod_left k task.period)))

any_boundary : (tasks : List declared.Task) (j x : ℕ) → j < length tasks → task_boundary (task_at tasks j) x ≡ true →
    list_any (λ task. task_boundary task x) tasks ≡ true
any_boundary [] j x l e = absurd (omega arith)
any_boundary (t ∷ tasks) zero x l e = or_left (task_boundary t x) (list_any (λ task. task_boundary task x) tasks) e
any_boundary (t ∷ tasks) (suc j) x l e = or_right (task_boundary t x) (list_any (λ task. task_boundary task x) tasks) (any_boundary tasks j x (omega arith) e)

pub point_at : (tasks : List declared.Task) (j k : ℕ) → j < length tasks → is_point tasks ((task_at tasks j).offset + k * (task_at tasks j).period) ≡ true
point_at tasks j k l =
    let x = (task_at tasks j).offset + k * (task_at tasks j).period in
    or_right (eqb x 0) (list_any (λ task. task_boundary task x) tasks) (any_boundary tasks j x l (boundary_at (task_at tasks j) k))

pub point_at_zero : (tasks : List declared.Task) → is_point tasks 0 ≡ true
point_at_zero tasks = or_left (eqb 0 0) (list_any (λ task. task_boundary task 0) tasks) (eq-eqb 0 0 refl)

pub each_lawful : (tasks : List declared.Task) (j : ℕ) → AllByRecursion IsLawfulTask tasks → j < length tasks → IsLawfulTask (task_at tasks j)
each_lawful [] j h l = absurd (omega arith)
each_lawful (task ∷ tasks) zero h l = h.0
each_lawful (task ∷ tasks) (suc j) h l = each_lawful tasks j h.1 (omega arith)

module _ (s : SetContents) (scale : ℕ) (lawful : IsLawful s) (is : IsScale s.tasks scale) (fits : Fits scale s) where
  -- a task asks for no more than one processor
  pub rate_within : (j : ℕ) → j < length s.tasks → rate_of scale (task_at s.tasks j) ≤ scale
  rate_within j l =
      let task = task_at s.tasks j in
      let fine = each_lawful s.tasks j lawful.each l in
      let exact = rate_exact s.tasks scale is j l in
      let some = fine.some_work in
      let few = fine.work_fits in
      let most : (task_at s.tasks j).work * scale ≤ (task_at s.tasks j).period * scale = mul-le-mul_right scale few in
      le_of_mul-le-mul_right {m = rate_of scale (task_at s.tasks j)} {n = scale} {k = (task_at s.tasks j).period} (omega (arith, exact, most))
      (omega (arith, some, few))

  module _ (slice : Span) (up : slice.begin < slice.end) where
    -- the slice has some places on each processor
    pub some_places : 0 < units slice * scale
    some_places = mul-pos {m = units slice} {n = scale} (omega arith) is.positive

    -- they end with the slice
    pub places_end : slice.begin * scale + units slice * scale ≡ slice.end * scale
    places_end =
        let whole : slice.end - slice.begin + slice.begin ≡ slice.end = omega arith in
        let parts = add-mul (slice.end - slice.begin) slice.begin scale in
        let e = ap (λ x. x * scale) whole in
        omega (arith, parts, e)

    pub rounds_tile : Tile (is_cut (units slice * scale) (shares scale (units slice) s.tasks)) 0 (units slice * scale) (slice_rounds scale s.tasks slice)
    rounds_tile = tile_at (is_cut (units slice * scale) (shares scale (units slice) s.tasks)) (units slice * scale) some_places
        (cut_at_zero (units slice * scale) (shares scale (units slice) s.tasks))

    -- the row of a processor in a round
    abbrev pub row : Span → ℕ → Row
    row = row_of s.tasks scale slice.begin (units slice * scale) (shares scale (units slice) s.tasks)

    -- what holds of the row of each processor in each round
    pub slice_all : (P : Row → Type 0) → ((r : Span) → r.begin < r.end → r.end ≤ units slice * scale → (p : ℕ) → p < s.processors → P (row r p)) →
        AllByRecursion P (slice_rows scale s.tasks s.processors slice)
    slice_all P f = flat_all P (round_rows scale s.tasks s.processors slice) (slice_rounds scale s.tasks slice)
        (tile_all (is_cut (units slice * scale) (shares scale (units slice) s.tasks)) (λ r. AllByRecursion P (round_rows scale s.tasks s.processors slice
        r)) 0 (units slice * scale) (slice_rounds scale s.tasks slice) rounds_tile
        (λ r w. map_all P (row r) s.processors 0 (λ p k h. f r w.up w.high p (omega arith))))

    -- the rows lie in the slice
    pub slice_bounds : AllByRecursion (λ r. (slice.begin * scale ≤ r.start) × (r.end ≤ slice.end * scale)) (slice_rows scale s.tasks s.processors slice)
    slice_bounds = slice_all (λ r. (slice.begin * scale ≤ r.start) × (r.end ≤ slice.end * scale)) (λ r begins high p b.
        let e = places_end in
        (omega arith, omega (arith, e, high)))

    -- what holds of each two rows of a round, and of a row and each one that starts when it has ended, holds of each two
    pub slice_apart : (R : Row → Row → Type 0) → ((r q : Row) → r.end ≤ q.start → R r q) →
        ((r : Span) (p q : ℕ) → p < q → R (row r p) (row r q)) → AllApart R (slice_rows scale s.tasks s.processors slice)
    slice_apart R after each =
        flat_apart (is_cut (units slice * scale) (shares scale (units slice) s.tasks)) (round_rows scale s.tasks s.processors slice)
        (λ q. slice.begin * scale + q) (λ x y l. omega arith)
        R after 0 (units slice * scale) (slice_rounds scale s.tasks slice) rounds_tile
        (λ r w. map_all (λ x. (slice.begin * scale + r.begin ≤ x.start) × (x.end ≤ slice.begin * scale + r.end)) (row r) s.processors 0
        (λ p k h. (le_refl (slice.begin * scale + r.begin), le_refl (slice.begin * scale + r.end))))
        (λ r w. map_apart R (row r) s.processors 0 (λ p q k less h. each r p q less))

    -- a task's share is its rate for each unit of the slice
    share_of : (j : ℕ) → j < length s.tasks → share_at (shares scale (units slice) s.tasks) j ≡ rate_of scale (task_at s.tasks j) * units slice
    share_of j l = share_is scale (units slice) s.tasks j l

    -- no task is on two processors in a round
    pub once : (r : Span) (p q j : ℕ) → p < q → is_of_task j (row r p).leaf ≡ true → is_of_task j (row r q).leaf ≡ true → ⊥
    once r p q j less here there =
        let ns = shares scale (units slice) s.tasks in
        let size = units slice * scale in
        let a = leaf_is_task s.tasks slice.begin p (holder ns (p * size + r.begin)) j here in
        let b = leaf_is_task s.tasks slice.begin q (holder ns (q * size + r.begin)) j there in
        let many = length-shares scale (units slice) s.tasks in
        let share = share_of j a.1 in
        let most : rate_of scale (task_at s.tasks j) * units slice ≤ scale * units slice = mul-le-mul_right (units slice) (rate_within j a.1) in
        let inside = a.1 in
        holder_once size ns j p q r.begin (omega (arith, many, inside)) (omega (arith, share, most)) less a.0 b.0

    -- the slice gives a task its share in each span of time around it, from the task's offset on
    pub slice_inside : (j a b : ℕ) → j < length s.tasks → (task_at s.tasks j).offset ≤ slice.begin → a ≤ slice.begin * scale → slice.end * scale ≤ b →
        task_ticks (slice_rows scale s.tasks s.processors slice) j a b ≡ rate_of scale (task_at s.tasks j) * units slice
    slice_inside j a b l late from to =
        let ns = shares scale (units slice) s.tasks in
        let e = places_end in
        let all = first_of_all scale (units slice) s.tasks (suc j) in
        let room : total_of scale s.tasks * units slice ≤ s.processors * scale * units slice = mul-le-mul_right (units slice) fits in
        slice_gives s.tasks scale slice.begin (units slice * scale) s.processors ns (length-shares scale (units slice) s.tasks) j l late a b from
        (omega (arith, e, to)) some_places (omega (arith, all, room))
        ∙ share_of j l

    -- and nothing in one that lies before it or behind it
    pub slice_before : (j a b : ℕ) → b ≤ slice.begin * scale → task_ticks (slice_rows scale s.tasks s.processors slice) j a b ≡ 0
    slice_before j a b l = ticks_outside j a b (slice_rows scale s.tasks s.processors slice)
        (AllByRecursion-by (λ r. (slice.begin * scale ≤ r.start) × (r.end ≤ slice.end * scale)) (λ r. overlap r.start r.end a b ≡ 0)
        (slice_rows scale s.tasks s.processors slice)
        (λ r k. let low = k.0 in omega (arith, low, l)) slice_bounds)

    pub slice_behind : (j a b : ℕ) → slice.end * scale ≤ a → task_ticks (slice_rows scale s.tasks s.processors slice) j a b ≡ 0
    slice_behind j a b l = ticks_outside j a b (slice_rows scale s.tasks s.processors slice)
        (AllByRecursion-by (λ r. (slice.begin * scale ≤ r.start) × (r.end ≤ slice.end * scale)) (λ r. overlap r.start r.end a b ≡ 0)
        (slice_rows scale s.tasks s.processors slice)
        (λ r k. let high = k.1 in omega (arith, high, l)) slice_bounds)

    -- a slice in which no period of the task begins or ends gives it its rate for each unit of the period
    pub slice_ticks : (j a b : ℕ) → j < length s.tasks → (task_at s.tasks j).offset ≤ a → a ≤ b →
        ((k : ℕ) → slice.begin < k → k < slice.end → is_point s.tasks k ≡ false) → is_point s.tasks a ≡ true → is_point s.tasks b ≡ true →
        task_ticks (slice_rows scale s.tasks s.processors slice) j (a * scale) (b * scale) ≡ rate_of scale (task_at s.tasks j) * overlap slice.begin
        slice.end a b
    slice_ticks j a b l late order still at_a at_b =
        elim (cases_lt slice.begin a) [
          | inl less ↦
              (let ends : slice.end ≤ a = elim (cases_lt a slice.end) [
                | inr m ↦ m
                | inl m ↦ absurd (both_ways (is_point s.tasks a) (still a less m) at_a)
              ] in
              let zero' : overlap slice.begin slice.end a b ≡ 0 = omega arith in
              let e = ap (λ o. rate_of scale (task_at s.tasks j) * o) zero' in
              let none = slice_behind j (a * scale) (b * scale) (mul-le-mul_right scale ends) in
              omega (arith, e, none))
          | inr from ↦ elim (cases_lt slice.begin b) [
            | inr m ↦
                (let zero' : overlap slice.begin slice.end a b ≡ 0 = omega arith in
                let e = ap (λ o. rate_of scale (task_at s.tasks j) * o) zero' in
                let none = slice_before j (a * scale) (b * scale) (mul-le-mul_right scale m) in
                omega (arith, e, none))
            | inl less ↦
                (let ends : slice.end ≤ b = elim (cases_lt b slice.end) [
                  | inr m ↦ m
                  | inl m ↦ absurd (both_ways (is_point s.tasks b) (still b less m) at_b)
                ] in
                let all : overlap slice.begin slice.end a b ≡ units slice = omega arith in
                let e = ap (λ o. rate_of scale (task_at s.tasks j) * o) all in
                let gives = slice_inside j (a * scale) (b * scale) l (omega arith) (mul-le-mul_right scale from) (mul-le-mul_right scale ends) in
                omega (arith, e, gives))
          ]
        ]

  -- the slices from x on give a task its rate for each unit of a period
  slices_ticks : (j a b : ℕ) → j < length s.tasks → (task_at s.tasks j).offset ≤ a → a ≤ b → is_point s.tasks a ≡ true → is_point s.tasks b ≡ true →
      (x : ℕ) (ss : List Span) → Tile (is_point s.tasks) x s.horizon ss →
      task_ticks (flat_map (slice_rows scale s.tasks s.processors) ss) j (a * scale) (b * scale) + rate_of scale (task_at s.tasks j) * overlap 0 x a
      b ≡ rate_of scale (task_at s.tasks j) * overlap 0 s.horizon a b
  slices_ticks j a b l late order at_a at_b x [] t = let e = ap (λ y. rate_of scale (task_at s.tasks j) * overlap 0 y a b) t in omega (arith, e)
  slices_ticks j a b l late order at_a at_b x (slice ∷ ss) t =
      let (at, up, high, still, rest) = t in
      let rate = rate_of scale (task_at s.tasks j) in
      let ih = slices_ticks j a b l late order at_a at_b slice.end ss rest in
      let here = slice_ticks slice up j a b l late order still at_a at_b in
      let parts = task_ticks-append (slice_rows scale s.tasks s.processors slice) (flat_map (slice_rows scale s.tasks s.processors) ss) j (a * scale)
      (b * scale) in
      let more : overlap 0 slice.end a b ≡ overlap 0 x a b + overlap slice.begin slice.end a b = omega (arith, at, up) in
      let e = ap (λ o. rate_of scale (task_at s.tasks j) * o) more in
      omega (arith, ih, here, parts, e)

  slices_tile : Tile (is_point s.tasks) 0 s.horizon (slices s)
  slices_tile = tile_at (is_point s.tasks) s.horizon lawful.some_horizon (point_at_zero s.tasks)

  -- what holds of the row of each processor in each round of each slice
  pub wrapped_all : (P : Row → Type 0) →
      ((slice r : Span) → slice.begin < slice.end → slice.end ≤ s.horizon → r.begin < r.end → r.end ≤ units slice * scale → (p : ℕ) → p < s.processors →
      P (row_of s.tasks scale slice.begin (units slice * scale) (shares scale (units slice) s.tasks) r p)) → AllByRecursion P (wrapped scale s)
  unfolding wrapped
  wrapped_all P f = flat_all P (slice_rows scale s.tasks s.processors) (slices s)
      (tile_all (is_point s.tasks) (λ slice. AllByRecursion P (slice_rows scale s.tasks s.processors slice)) 0 s.horizon (slices s) slices_tile
      (λ slice w. slice_all slice w.up P (λ r up high p b. f slice r w.up w.high up high p b)))

  -- what holds of each two rows of a round, and of a row and each one that starts when it has ended, holds of each two
  pub wrapped_apart : (R : Row → Row → Type 0) → ((r q : Row) → r.end ≤ q.start → R r q) →
      ((slice : Span) → slice.begin < slice.end → (r : Span) (p q : ℕ) → p < q →
      R (row_of s.tasks scale slice.begin (units slice * scale) (shares scale (units slice) s.tasks) r p) (row_of s.tasks scale slice.begin
      (units slice * scale) (shares scale (units slice) s.tasks) r q)) → AllApart R (wrapped scale s)
  unfolding wrapped
  wrapped_apart R after each =
      flat_apart (is_point s.tasks) (slice_rows scale s.tasks s.processors) (λ x. x * scale) (λ x y l. mul-le-mul_right scale l)
      R after 0 s.horizon (slices s) slices_tile
      (λ slice w. slice_bounds slice w.up)
      (λ slice w. slice_apart slice w.up R after (each slice w.up))

  -- what the schedule gives to a task from one of its boundaries to another
  pub wrapped_ticks : (j a b : ℕ) → j < length s.tasks → (task_at s.tasks j).offset ≤ a → a ≤ b → is_point s.tasks a ≡ true → is_point s.tasks b ≡ true →
      task_ticks (wrapped scale s) j (a * scale) (b * scale) ≡ rate_of scale (task_at s.tasks j) * overlap 0 s.horizon a b
  unfolding wrapped
  wrapped_ticks j a b l late order at_a at_b =
      let all = slices_ticks j a b l late order at_a at_b 0 (slices s) slices_tile in
      let none : overlap 0 0 a b ≡ 0 = omega arith in
      let e = ap (λ o. rate_of scale (task_at s.tasks j) * o) none in
      omega (arith, all, e)

  -- what it gives in a period
  pub period_gives : (j k : ℕ) → j < length s.tasks →
      task_ticks (wrapped scale s) j (period_start scale (task_at s.tasks j) k) (period_start scale (task_at s.tasks j) (k + 1))
      ≡ rate_of scale (task_at s.tasks j) * overlap 0 s.horizon ((task_at s.tasks j).offset + k * (task_at s.tasks j).period)
      ((task_at s.tasks j).offset + (k + 1) * (task_at s.tasks j).period)
  period_gives j k l =
      wrapped_ticks j ((task_at s.tasks j).offset + k * (task_at s.tasks j).period) ((task_at s.tasks j).offset + (k + 1) * (task_at s.tasks j).period) l
      (omega arith) (omega arith)
      (point_at s.tasks j k l) (point_at s.tasks j (k + 1) l)

  pub valid : IsValid s scale (s.horizon * scale) (s.horizon * scale) (wrapped scale s)
  valid = record {
    bounded = wrapped_all (λ r. (r.processor < s.processors) × (r.end ≤ s.horizon * scale)) (λ slice r up high begins ends p b.
        let e = places_end slice up in
        let last = mul-le-mul_right scale high in
        (b, omega (arith, e, last, ends)));
    processors_apart = wrapped_apart (λ r q. r.processor ≡ q.processor → DontOverlap r q) (λ r q b same. inl b) (λ slice up r p q less same. absurd
        (omega arith));
    tasks_apart = wrapped_apart (λ r q. (j : ℕ) → is_of_task j r.leaf ≡ true → is_of_task j q.leaf ≡ true → DontOverlap r q) (λ r q b j x y. inl b)
        (λ slice up r p q less j x y. absurd (once slice up r p q j less x y));
    full = λ j k l ends.
        (let gives = period_gives j k l in
        let task = task_at s.tasks j in
        let before : task.offset + (k + 1) * task.period ≤ s.horizon = le_of_mul-le-mul_right {m = task.offset + (k + 1) * task.period} {n = s.horizon}
        {k = scale} ends is.positive in
        let all : overlap 0 s.horizon (task.offset + k * task.period) (task.offset + (k + 1) * task.period) ≡ task.period = omega arith in
        let e = ap (λ o. rate_of scale task * o) all in
        let exact = rate_exact s.tasks scale is j l in
        omega (arith, gives, e, exact));
    no_more = λ j k l.
        (let gives = period_gives j k l in
        let task = task_at s.tasks j in
        let most : overlap 0 s.horizon (task.offset + k * task.period) (task.offset + (k + 1) * task.period) ≤ task.period = omega arith in
        let e = mul-le-mul_left (rate_of scale task) most in
        let exact = rate_exact s.tasks scale is j l in
        omega (arith, gives, e, exact));
    released = wrapped_all (λ r. (j : ℕ) → j < length s.tasks → is_of_task j r.leaf ≡ true → (task_at s.tasks j).offset * scale ≤ r.start)
        (λ slice r up high begins ends p b j l task.
        let late = (leaf_is_task s.tasks slice.begin p (holder (shares scale (units slice) s.tasks) (p * (units slice * scale) + r.begin)) j task).2 in
        let e = mul-le-mul_right scale late in
        omega (arith, e));
  }

pub wrapped_valid : (s : SetContents) (scale : ℕ) → IsLawful s → IsScale s.tasks scale → Fits scale s → IsValid s scale (s.horizon * scale)
    (s.horizon * scale) (wrapped scale s)
wrapped_valid s scale lawful is fits = valid s scale lawful is fits
