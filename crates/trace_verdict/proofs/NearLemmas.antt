-- A row near the last one of its task: in the same period, or in the next one.
use Rattle.std.proofs.Common.{ℕ, ◌+◌, ◌-◌, ◌*◌, ◌^◌, ◌<◌, ◌≤◌, ◌≡◌, ◌≢◌, inl, inr, true, false, Bool, List, [], ◌∷◌, max, cond, eqb, leb, ltb, ◌&&◌}
use Rattle.std.proofs.Common.{refl, sym, ap, ◌∙◌, subst, arith}
use Rattle.std.proofs.lemmas.Bool.{cases_lt, and_from, or_left, or_right, eq-eqb, ne_eqb, lt-ltb, le-ltb, le-leb, cond-true, cond-false}
use Rattle.std.proofs.lemmas.Bool.{false_from_ne_true, leb-true}
use Rattle.std.proofs.lemmas.List.{length-map}
use Rattle.sched_base.specs.Counting.{bit}
use Rattle.sched_base.specs.declared.rows.Row.{Row}
use Rattle.trace_verdict.specs.declared.findings.Findings.{Findings}
use Rattle.trace_verdict.specs.declared.supply.Periods.{Periods}
use Rattle.trace_verdict.specs.declared.tally.Tally.{Tally}
use Rattle.trace_verdict.specs.declared.task_walks.Near.{Near}
use Rattle.trace_verdict.specs.declared.task_walks.TaskWalk.{TaskWalk}
use Rattle.trace_verdict.specs.declared.walks.Walk.{Walk}
use Rattle.trace_verdict.specs.Faults.{row_at}
use Rattle.trace_verdict.specs.Findings.{pairs_from, is_preemption, is_migration, in_one_job, goes_on, row_response}
use Rattle.trace_verdict.specs.Supplied.{IsPlaceOf, entry_for, StandsAt, GoesPast}
use Rattle.trace_verdict.specs.Supply.{AreLawful, bound_at, ended_by}
use Rattle.trace_verdict.specs.Tally.{KeepsPace, Goes}
use Rattle.trace_verdict.specs.Timed.{walk_of, tally_of, finished, IsPaced, BeginsIn, IsNear, HasGone}
use Rattle.trace_verdict.proofs.SuppliedLemmas.{past_one}
use Rattle.trace_verdict.proofs.SupplyLemmas.{counted_to, counted_from, counted_past, past_counted, bounds_rise}
use Rattle.trace_verdict.proofs.TimedLemmas.{walk_after, gone_more}

-- a tick of period k
pub between : (p : Periods) (x k : ℕ) → 0 < p.period → p.base ≤ x → bound_at p k ≤ x → x < bound_at p k + p.period → ended_by p x ≡ k
between p x k some base low high =
    let a = counted_to p x k some base low in
    let b = counted_past p x (k + 1) some base (subst (λ w. x < w) (sym (bounds_rise p k)) high) in
    omega (arith, a, b)

-- the task begins by the end of the schedule, since a row may go by
pub in_time : (rows : List Row) (j : ℕ) (t : TaskWalk) → HasGone rows j t → t.count < t.limit → t.periods.base ≤ t.periods.stop
in_time rows j t g room = elim (cases_lt t.periods.stop t.periods.base) [
  | inl late ↦ (let none = g.ready.late late in absurd (omega (arith, none, room)))
  | inr le ↦ le
]

pub pace_of : (rows : List Row) (j : ℕ) (t : TaskWalk) → HasGone rows j t → t.count ≢ 0 → IsPaced t
pace_of rows j t g some = (let had = g.count in g.paced (omega (arith, had, some)))

pub begins_before : (t : TaskWalk) → IsPaced t → t.periods.base < t.before.end
begins_before t c =
    let a = c.begin in
    let b = c.begun in
    let d = c.tick in
    omega (arith, a, b, d)

-- no more was counted than rows went by
pub gone_few : (rows : List Row) (j : ℕ) (t : TaskWalk) → HasGone rows j t → t.count ≢ 0 → (t.found.preemptions ≤ t.count) × (t.found.migrations ≤ t.count)
gone_few rows j t g some =
    let had = g.count in
    let all = g.tallied (omega (arith, had, some)) in
    let size = length-map g.places (row_at rows) in
    let x = all.few_preempted in
    let y = all.few_moved in
    (omega (arith, had, size, x), omega (arith, had, size, y))

-- ---- the period of a tick

-- the period of the last row's last tick
last_of : (t : TaskWalk) → AreLawful t.periods → StandsAt t.periods (walk_of t) → (c : IsPaced t) → ended_by t.periods (t.before.end - 1) ≡ c.number
last_of t l s c =
    let p : Periods = t.periods in
    let k : ℕ = bound_at p c.number in
    let here : k < t.before.end = subst (λ w. w < t.before.end) c.begin (subst (λ w. t.begin < w) c.tick c.begun) in
    let there : t.before.end ≤ k + p.period = subst (λ w. t.before.end ≤ w) (c.next ∙ ap (λ w. w + p.period) c.begin) (subst (λ w. w ≤ t.next) c.tick c.ends) in
    let base : p.base ≤ k = low p.base (c.number * p.period) in
    between p (t.before.end - 1) c.number l.some_period (down p.base k t.before.end base here) (down k k t.before.end (omega arith) here)
    (under k p.period t.before.end here there)
  where
    low : (a b : ℕ) → a ≤ a + b
    low a b = omega arith

    down : (a k e : ℕ) → a ≤ k → k < e → a ≤ e - 1
    down a k e h i = omega (arith, h, i)

    under : (k d e : ℕ) → k < e → e ≤ k + d → e - 1 < k + d
    under k d e h i = omega (arith, h, i)

pub begins_same : (t : TaskWalk) (x : ℕ) → AreLawful t.periods → StandsAt t.periods (walk_of t) → IsPaced t → t.tick ≤ x → x < t.next
    → BeginsIn t x (record { begin = t.begin; next = t.next; owed = t.owed; same = true })
begins_same t x l s c low high =
    let p : Periods = t.periods in
    let base : p.base ≤ t.tick = s.begun in
    let begin : t.begin ≡ bound_at p c.number = c.begin in
    let next : t.next ≡ t.begin + p.period = c.next in
    let begun : t.begin < t.tick = c.begun in
    let here : bound_at p c.number < t.tick = subst (λ w. w < t.tick) begin begun in
    let room : t.next ≡ bound_at p c.number + p.period = next ∙ ap (λ w. w + p.period) begin in
    let there : x < bound_at p c.number + p.period = subst (λ w. x < w) room high in
    let k : ℕ = bound_at p c.number in
    let first : ended_by p t.tick ≡ c.number = between p t.tick c.number l.some_period base (le_of k t.tick here) (lt_of t.tick x (k + p.period) low there) in
    let mine : ended_by p x ≡ c.number = between p x c.number l.some_period (le_trans p.base t.tick x base low) (le_trans k t.tick x (le_of k t.tick here)
    low) there in
    record {
      number = c.number;
      begin = begin;
      next = next;
      owed = c.owed;
      begun = le_trans t.begin t.tick x (le_of t.begin t.tick begun) low;
      ends = high;
      same = sym (eq-eqb _ _ (last_of t l s c));
      gap = or_left _ _ (eq-eqb _ _ (first ∙ sym mine));
    }
  where
    le_of : (a b : ℕ) → a < b → a ≤ b
    le_of a b h = omega (arith, h)

    le_trans : (a b d : ℕ) → a ≤ b → b ≤ d → a ≤ d
    le_trans a b d h i = omega (arith, h, i)

    lt_of : (a b d : ℕ) → a ≤ b → b < d → a < d
    lt_of a b d h i = omega (arith, h, i)

pub begins_next : (t : TaskWalk) (x : ℕ) → AreLawful t.periods → StandsAt t.periods (walk_of t) → IsPaced t → t.tick ≤ x → t.next ≤ x →
    x - t.next < t.periods.period → t.done ≡ t.owed
    → BeginsIn t x (record { begin = t.next; next = t.next + t.periods.period; owed = t.owed + t.periods.due; same = false })
begins_next t x l s c low past near done =
    let p : Periods = t.periods in
    let n : ℕ = c.number in
    let base : p.base ≤ t.tick = s.begun in
    let begin : t.next ≡ bound_at p (n + 1) = c.next ∙ (ap (λ w. w + p.period) c.begin ∙ sym (bounds_rise p n)) in
    let high : x < t.next + p.period = up x t.next p.period past near in
    let mine : ended_by p x ≡ n + 1 = between p x (n + 1) l.some_period (le_trans p.base t.tick x base low) (subst (λ w. w ≤ x) begin past)
    (subst (λ w. x < w + p.period) begin high) in
    let owed : t.done ≡ (n + 1) * p.due = done ∙ c.owed in
    record {
      number = n + 1;
      begin = begin;
      next = refl;
      owed = more t.owed n p.due c.owed;
      begun = past;
      ends = high;
      same = sym (ne_eqb _ _ (λ q. (let a = last_of t l s c in omega (arith, a, q))));
      gap = (elim (cases_lt t.tick t.next) [
        | inl less ↦ (
            let first : ended_by p t.tick ≡ n = between p t.tick n l.some_period base (subst (λ w. w ≤ t.tick) c.begin (le_of t.begin t.tick c.begun))
            (subst (λ w. t.tick < w) (c.next ∙ ap (λ w. w + p.period) c.begin) less) in
            or_right _ _ (and_from _ _ (eq-eqb _ _ (ap (λ w. w + 1) first ∙ sym mine)) (eq-eqb _ _ (subst (λ w. t.done ≡ w * p.due) (sym mine) owed))))
        | inr over ↦ (
            let same : t.tick ≡ t.next = (let e = c.ends in omega (arith, over, e)) in
            let first : ended_by p t.tick ≡ n + 1 = between p t.tick (n + 1) l.some_period base (subst (λ w. w ≤ t.tick) begin over)
            (subst (λ w. t.tick < w + p.period) begin (here t.tick t.next p.period same l.some_period)) in
            or_left _ _ (eq-eqb _ _ (first ∙ sym mine)))
      ]);
    }
  where
    up : (x a d : ℕ) → a ≤ x → x - a < d → x < a + d
    up x a d h i = omega (arith, h, i)

    le_of : (a b : ℕ) → a < b → a ≤ b
    le_of a b h = omega (arith, h)

    le_trans : (a b d : ℕ) → a ≤ b → b ≤ d → a ≤ d
    le_trans a b d h i = omega (arith, h, i)

    here : (x a d : ℕ) → x ≡ a → 0 < d → x < a + d
    here x a d e h = omega (arith, e, h)

    more : (o n d : ℕ) → o ≡ (n + 1) * d → o + d ≡ (n + 1 + 1) * d
    more o n d e = omega (arith, e)

-- ---- a row in a period

pub near_within : (t : TaskWalk) (r : Row) (n : Near) → AreLawful t.periods → t.periods.base ≤ r.start → BeginsIn t r.start n → r.start < r.end →
    r.end < n.next → IsNear t r n
near_within t r n l base b long less =
    let p : Periods = t.periods in
    let room : n.next ≡ bound_at p b.number + p.period = b.next ∙ ap (λ w. w + p.period) b.begin in
    let low : bound_at p b.number ≤ r.start = subst (λ w. w ≤ r.start) b.begin b.begun in
    let first = between p r.start b.number l.some_period base low (subst (λ w. r.start < w) room b.ends) in
    let last = between p r.end b.number l.some_period (step p.base r.start r.end base long) (step (bound_at p b.number) r.start r.end low long)
    (subst (λ w. r.end < w) room less) in
    record { period = b; ends = omega (arith, less); row = or_left _ _ (eq-eqb _ _ (first ∙ sym last)) }
  where
    step : (a x y : ℕ) → a ≤ x → x < y → a ≤ y
    step a x y h i = omega (arith, h, i)

pub near_up_to : (t : TaskWalk) (r : Row) (n : Near) → AreLawful t.periods → t.periods.base ≤ r.start → BeginsIn t r.start n → r.start < r.end →
    r.end ≡ n.next → t.done + (r.end - r.start) ≡ n.owed → IsNear t r n
near_up_to t r n l base b long same due =
    let p : Periods = t.periods in
    let k : ℕ = b.number in
    let room : n.next ≡ bound_at p k + p.period = b.next ∙ ap (λ w. w + p.period) b.begin in
    let end : r.end ≡ bound_at p (k + 1) = same ∙ (room ∙ sym (bounds_rise p k)) in
    let low : bound_at p k ≤ r.start = subst (λ w. w ≤ r.start) b.begin b.begun in
    let first : ended_by p r.start ≡ k = between p r.start k l.some_period base low (subst (λ w. r.start < w) room b.ends) in
    let last : ended_by p r.end ≡ k + 1 = between p r.end (k + 1) l.some_period (step p.base r.start r.end base long) (level (bound_at p (k + 1)) r.end end)
    (here r.end (bound_at p (k + 1)) p.period end l.some_period) in
    let owed : t.done + (bound_at p (k + 1) - r.start) ≡ (k + 1) * p.due = subst (λ w. t.done + (w - r.start) ≡ (k + 1) * p.due) end (due ∙ b.owed) in
    let one : t.done + (bound_at p (ended_by p r.start + 1) - r.start) ≡ (ended_by p r.start + 1) * p.due
    = subst (λ w. t.done + (bound_at p (w + 1) - r.start) ≡ (w + 1) * p.due) (sym first) owed in
    let two : t.done + (bound_at p (ended_by p r.end) - r.start) ≡ ended_by p r.end * p.due = subst (λ w. t.done + (bound_at p w - r.start) ≡ w * p.due)
    (sym last) owed in
    record { period = b; ends = level_up r.end n.next same; row = or_right _ _ (and_from _ _ (eq-eqb _ _ one) (eq-eqb _ _ two)) }
  where
    step : (a x y : ℕ) → a ≤ x → x < y → a ≤ y
    step a x y h i = omega (arith, h, i)

    level : (a x : ℕ) → x ≡ a → a ≤ x
    level a x e = omega (arith, e)

    level_up : (x a : ℕ) → x ≡ a → x ≤ a
    level_up x a e = omega (arith, e)

    here : (x a d : ℕ) → x ≡ a → 0 < d → x < a + d
    here x a d e h = omega (arith, e, h)

-- ---- what the row tells

bit_one : (b : Bool) → bit b ≤ 1
bit_one true = omega arith
bit_one false = omega arith

row_period : (t : TaskWalk) (r : Row) (n : Near) → AreLawful t.periods → t.periods.base ≤ r.start → r.start < r.end → (i : IsNear t r n)
    → (ended_by t.periods r.start ≡ i.period.number) × (ended_by t.periods (r.end - 1) ≡ i.period.number)
row_period t r n l base long i =
    let p : Periods = t.periods in
    let b : BeginsIn t r.start n = i.period in
    let k : ℕ = bound_at p b.number in
    let room : n.next ≡ k + p.period = b.next ∙ ap (λ w. w + p.period) b.begin in
    let low : k ≤ r.start = subst (λ w. w ≤ r.start) b.begin b.begun in
    let high : r.end ≤ k + p.period = subst (λ w. r.end ≤ w) room i.ends in (
      between p r.start b.number l.some_period base low (subst (λ w. r.start < w) room b.ends),
      between p (r.end - 1) b.number l.some_period (down p.base r.start r.end base long) (down k r.start r.end low long) (under k p.period r.start r.end
          long high),
    )
  where
    down : (a x y : ℕ) → a ≤ x → x < y → a ≤ y - 1
    down a x y h i = omega (arith, h, i)

    under : (k d x y : ℕ) → x < y → y ≤ k + d → y - 1 < k + d
    under k d x y h i = omega (arith, h, i)

response_is : (t : TaskWalk) (r : Row) (n : Near) → AreLawful t.periods → t.periods.base ≤ t.periods.stop → t.periods.base ≤ r.start → r.start < r.end →
    IsNear t r n
    → finished n t.periods.stop r.end ≡ row_response t.periods r
response_is t r n l begun base long i =
    let p : Periods = t.periods in
    let k : ℕ = i.period.number in
    let both = row_period t r n l base long i in
    let g : ℕ → ℕ → ℕ = λ a b. max (cond (ltb a b) p.period 0) (cond (ltb b (ended_by p p.stop)) (r.end - bound_at p b) 0) in
    let all : row_response p r ≡ g k k = ap (λ a. g a (ended_by p (r.end - 1))) both.0 ∙ ap (g k) both.1 in
    let none : cond (ltb k k) p.period 0 ≡ 0 = cond-false _ _ _ (le-ltb k k (omega arith)) in
    let room : n.next ≡ bound_at p (k + 1) = i.period.next ∙ (ap (λ w. w + p.period) i.period.begin ∙ sym (bounds_rise p k)) in
    let last : finished n p.stop r.end ≡ cond (ltb k (ended_by p p.stop)) (r.end - bound_at p k) 0 = (elim (cases_lt p.stop n.next) [
      | inl early ↦ (
          let few = counted_past p p.stop (k + 1) l.some_period begun (subst (λ w. p.stop < w) room early) in
          cond-false _ _ _ (false_from_ne_true (leb n.next p.stop) (λ h. (let le : n.next ≤ p.stop = leb-true n.next p.stop h in omega (arith, le, early))))
          ∙ sym (cond-false _ _ _ (le-ltb k (ended_by p p.stop) (omega (arith, few)))))
      | inr full ↦ (
          let some = counted_to p p.stop (k + 1) l.some_period begun (subst (λ w. w ≤ p.stop) room full) in
          cond-true _ _ _ (le-leb _ _ full) ∙ (ap (λ w. r.end - w) i.period.begin ∙ sym (cond-true _ _ _ (lt-ltb k (ended_by p p.stop) (omega (arith, some))))))
    ]) in
    last ∙ (top _ _ none ∙ sym all)
  where
    top : (a b : ℕ) → a ≡ 0 → b ≡ max a b
    top a b e = omega (arith, e)

-- a row is gone through that begins in this period, with this response
pub row_goes : (t : TaskWalk) (r : Row) (n : Near) (u : Tally) (x : ℕ) {k : ℕ} → ended_by t.periods r.start ≡ k →
    n.same ≡ eqb (ended_by t.periods (t.before.end - 1)) k → x ≡ row_response t.periods r
    → KeepsPace t.periods u → u.before ≡ r
    → u.found.preemptions ≡ t.found.preemptions + bit (n.same && is_preemption t.before r) → u.found.migrations ≡ t.found.migrations + bit
    (n.same && is_migration t.before r)
    → u.found.response ≡ max t.found.response x → Goes t.periods (r ∷ []) (tally_of t) u
row_goes t r n u x first same d pace before pre mig resp =
    let p : Periods = t.periods in
    let job : n.same ≡ in_one_job p t.before r = same ∙ ap (λ k. eqb (ended_by p (t.before.end - 1)) k) (sym first) in
    let a : bit (n.same && is_preemption t.before r) ≡ bit (goes_on is_preemption p t.before r) = ap (λ s. bit (s && is_preemption t.before r)) job in
    let b : bit (n.same && is_migration t.before r) ≡ bit (goes_on is_migration p t.before r) = ap (λ s. bit (s && is_migration t.before r)) job in
    let one = bit_one (n.same && is_preemption t.before r) in
    let two = bit_one (n.same && is_migration t.before r) in
    record {
      pace = pace;
      preempted = λ rest. (let q = ap (λ w. pairs_from (goes_on is_preemption p) w rest) before in sum _ _ _ _ _ _ pre a q);
      moved = λ rest. (let q = ap (λ w. pairs_from (goes_on is_migration p) w rest) before in sum _ _ _ _ _ _ mig b q);
      slowest = λ rest. tops _ _ _ _ _ resp d;
      few_preempted = omega (arith, pre, one);
      few_moved = omega (arith, mig, two);
    }
  where
    sum : (new old x y u v : ℕ) → new ≡ old + x → x ≡ y → u ≡ v → new + u ≡ old + (y + v)
    sum new old x y u v e f g = omega (arith, e, f, g)

    tops : (new old x y z : ℕ) → new ≡ max old x → x ≡ y → max new z ≡ max old (max y z)
    tops new old x y z e f = omega (arith, e, f)

-- the row goes by
pub near_gone : (rows : List Row) (j place : ℕ) (t : TaskWalk) (r : Row) (n : Near) (f : Findings) → HasGone rows j t → 0 < t.count → t.count < t.limit →
    IsPlaceOf rows j place → r ≡ row_at rows place
    → t.tick ≤ r.start → r.start < r.end → r.end ≤ t.periods.stop → IsNear t r n
    → f.preemptions ≡ t.found.preemptions + bit (n.same && is_preemption t.before r) → f.migrations ≡ t.found.migrations + bit (n.same && is_migration
    t.before r)
    → f.response ≡ max t.found.response (finished n t.periods.stop r.end)
    → HasGone rows j (record {
      periods = t.periods;
      tick = r.end;
      done = t.done + (r.end - r.start);
      begin = n.begin;
      next = n.next;
      owed = n.owed;
      before = r;
      found = f;
      count = t.count + 1;
      limit = t.limit;
    })
near_gone rows j place t r n f g some room own is apart long ends i pre mig resp =
    let p : Periods = t.periods in
    let l : AreLawful p = g.ready.lawful in
    let begun : p.base ≤ p.stop = in_time rows j t g room in
    let s : StandsAt p (walk_of t) = g.ready.stands begun in
    let base : p.base ≤ r.start = (let b = s.begun in omega (arith, b, apart)) in
    let w : Walk = record { clock = record { base = p.base; span = p.period; number = ended_by p r.end }; tick = r.end; done = t.done + (r.end - r.start) } in
    let u : Tally = record {
      clock = record { base = p.base; span = p.period; number = ended_by p (r.end - 1) };
      before = r;
      last = ended_by p (r.end - 1);
      ended = ended_by p p.stop;
      found = f;
    } in
    let stands : StandsAt p w =
    record {
      base = refl;
      span = refl;
      number = refl;
      begun = omega (arith, base, long);
      ends = ends;
      small = (let m = s.small in
          omega (arith, m, apart, long));
    } in
    let past : GoesPast p (entry_for j r place ∷ []) (walk_of t) w = past_one p (entry_for j r place) (walk_of t) w stands refl refl apart long i.period.gap
    i.row in
    let both = row_period t r n l base long i in
    let goes = row_goes t r n u (finished n p.stop r.end) both.0 i.period.same (response_is t r n l begun base long i)
    (record { some = l.some_period; base = refl; span = refl; last = refl; ended = refl }) refl pre mig resp in
    gone_more rows j place n.begin n.next n.owed t w u g room own (subst (λ (q : Row). GoesPast p (entry_for j q place ∷ []) (walk_of t) w) is past)
    (λ e. absurd (omega (arith, e, some))) (λ ne. subst (λ (q : Row). Goes p (q ∷ []) (tally_of t) u) is goes)
    (record {
      number = i.period.number;
      begin = i.period.begin;
      next = i.period.next;
      owed = i.period.owed;
      tick = refl;
      begun = (let b = i.period.begun in omega (arith, b, long));
      ends = i.ends;
    })

-- the period of a row's last tick
pub far_paced : (a : TaskWalk) (w : Walk) (u : Tally) (n : Near) (e : ℕ) → AreLawful a.periods → a.periods.base < e → w.tick ≡ e → u.before.end ≡ e →
    u.last ≡ ended_by a.periods (e - 1)
    → n.begin ≡ bound_at a.periods u.last → n.next ≡ n.begin + a.periods.period → n.owed ≡ (u.last + 1) * a.periods.due →
    IsPaced (walk_after a w u n.begin n.next n.owed)
far_paced a w u n e l base tick before last begin next owed =
    let p : Periods = a.periods in
    let low : bound_at p u.last ≤ e - 1 = subst (λ k. bound_at p k ≤ e - 1) (sym last) (counted_from p (e - 1) (ended_by p (e - 1)) l.some_period
    (omega (arith, base)) (omega arith)) in
    let high : e - 1 < bound_at p u.last + p.period = subst (λ k. e - 1 < k) (bounds_rise p u.last) (subst (λ k. e - 1 < bound_at p (k + 1)) (sym last)
    (past_counted p (e - 1) (ended_by p (e - 1) + 1) l.some_period (omega (arith, base)) (omega arith))) in
    record {
      number = u.last;
      begin = begin;
      next = next;
      owed = owed;
      tick = tick ∙ sym before;
      begun = lower (bound_at p u.last) e n.begin w.tick p.base low base begin tick;
      ends = upper (bound_at p u.last) p.period e n.begin n.next w.tick high begin next tick;
    }
  where
    lower : (k e b x a : ℕ) → k ≤ e - 1 → a < e → b ≡ k → x ≡ e → b < x
    lower k e b x a h i f g = omega (arith, h, i, f, g)

    upper : (k d e b n x : ℕ) → e - 1 < k + d → b ≡ k → n ≡ b + d → x ≡ e → x ≤ n
    upper k d e b n x h f g i = omega (arith, h, f, g, i)

-- the period of a row's last tick begins before it
pub far_fits : (p : Periods) (last tick e : ℕ) → AreLawful p → p.base < e → last ≡ ended_by p (e - 1) → tick ≡ e → tick ≤ p.stop → bound_at p last < 2 ^ 127
far_fits p last tick e l base is same ends =
    let low : bound_at p last ≤ e - 1 = subst (λ k. bound_at p k ≤ e - 1) (sym is) (counted_from p (e - 1) (ended_by p (e - 1)) l.some_period
    (omega (arith, base)) (omega arith)) in
    below (bound_at p last) e tick p.stop low same ends l.fits
  where
    below : (b e t s : ℕ) → b ≤ e - 1 → t ≡ e → t ≤ s → s < 2 ^ 127 → b < 2 ^ 127
    below b e t s h i g k = omega (arith, h, i, g, k)
