-- A row that begins near the last one of its task and ends in the period after that in which it begins.
use Rattle.std.proofs.Common.{ℕ, ◌+◌, ◌-◌, ◌*◌, ◌<◌, ◌≤◌, ◌≡◌, true, false, Bool, List, [], ◌∷◌, max, cond, ltb, ◌&&◌, refl, sym, ap, ◌∙◌, subst, arith}
use Rattle.std.proofs.lemmas.Bool.{and_from, or_right, eq-eqb, lt-ltb, cond-true}
use Rattle.sched_base.specs.Counting.{bit}
use Rattle.sched_base.specs.declared.rows.Row.{Row}
use Rattle.trace_verdict.specs.declared.findings.Findings.{Findings}
use Rattle.trace_verdict.specs.declared.supply.Periods.{Periods}
use Rattle.trace_verdict.specs.declared.tally.Tally.{Tally}
use Rattle.trace_verdict.specs.declared.task_walks.Near.{Near}
use Rattle.trace_verdict.specs.declared.task_walks.TaskWalk.{TaskWalk}
use Rattle.trace_verdict.specs.declared.walks.Walk.{Walk}
use Rattle.trace_verdict.specs.Faults.{row_at}
use Rattle.trace_verdict.specs.Findings.{is_preemption, is_migration, row_response}
use Rattle.trace_verdict.specs.Supplied.{IsPlaceOf, entry_for, StandsAt, GoesPast}
use Rattle.trace_verdict.specs.Supply.{AreLawful, bound_at, ended_by, row_holds}
use Rattle.trace_verdict.specs.Tally.{Goes}
use Rattle.trace_verdict.specs.Timed.{walk_of, tally_of, BeginsIn, HasGone}
use Rattle.trace_verdict.proofs.NearLemmas.{between, in_time, row_goes}
use Rattle.trace_verdict.proofs.SuppliedLemmas.{past_one}
use Rattle.trace_verdict.proofs.SupplyLemmas.{bounds_rise}
use Rattle.trace_verdict.proofs.TimedLemmas.{gone_more}

-- the period after that in which the row begins
pub record Crosses (t : TaskWalk) (r : Row) (n : Near) : Type 0 where
  pub period : BeginsIn t r.start n
  pub past : n.next < r.end
  pub ends : r.end < n.next + t.periods.period
  pub due : t.done + (n.next - r.start) ≡ n.owed

-- it begins where the first one ends
next_bound : (t : TaskWalk) (r : Row) (n : Near) → (c : Crosses t r n) → n.next ≡ bound_at t.periods (c.period.number + 1)
next_bound t r n c = c.period.next ∙ (ap (λ w. w + t.periods.period) c.period.begin ∙ sym (bounds_rise t.periods c.period.number))

start_in : (t : TaskWalk) (r : Row) (n : Near) → AreLawful t.periods → t.periods.base ≤ r.start → (c : Crosses t r n) →
    ended_by t.periods r.start ≡ c.period.number
start_in t r n l base c =
    let p : Periods = t.periods in
    let b : BeginsIn t r.start n = c.period in
    let room : n.next ≡ bound_at p b.number + p.period = b.next ∙ ap (λ w. w + p.period) b.begin in
    between p r.start b.number l.some_period base (subst (λ w. w ≤ r.start) b.begin b.begun) (subst (λ w. r.start < w) room b.ends)

end_in : (t : TaskWalk) (r : Row) (n : Near) (x : ℕ) → AreLawful t.periods → t.periods.base ≤ x → (c : Crosses t r n) → n.next ≤ x →
    x < n.next + t.periods.period → ended_by t.periods x ≡ c.period.number + 1
end_in t r n x l base c low high =
    let p : Periods = t.periods in
    let at : n.next ≡ bound_at p (c.period.number + 1) = next_bound t r n c in
    between p x (c.period.number + 1) l.some_period base (subst (λ w. w ≤ x) at low) (subst (λ w. x < w + p.period) at high)

row_crosses : (t : TaskWalk) (r : Row) (n : Near) → AreLawful t.periods → t.periods.base ≤ r.start → r.start < r.end → (c : Crosses t r n) →
    row_holds t.periods t.done r.start r.end ≡ true
row_crosses t r n l base long c =
    let p : Periods = t.periods in
    let k : ℕ = c.period.number in
    let at : n.next ≡ bound_at p (k + 1) = next_bound t r n c in
    let first : ended_by p r.start ≡ k = start_in t r n l base c in
    let last : ended_by p r.end ≡ k + 1 = end_in t r n r.end l (step p.base r.start r.end base long) c (low n.next r.end c.past) c.ends in
    let owed : t.done + (bound_at p (k + 1) - r.start) ≡ (k + 1) * p.due = subst (λ w. t.done + (w - r.start) ≡ (k + 1) * p.due) at (c.due ∙ c.period.owed) in
    let one : t.done + (bound_at p (ended_by p r.start + 1) - r.start) ≡ (ended_by p r.start + 1) * p.due
    = subst (λ w. t.done + (bound_at p (w + 1) - r.start) ≡ (w + 1) * p.due) (sym first) owed in
    let two : t.done + (bound_at p (ended_by p r.end) - r.start) ≡ ended_by p r.end * p.due = subst (λ w. t.done + (bound_at p w - r.start) ≡ w * p.due)
    (sym last) owed in
    or_right _ _ (and_from _ _ (eq-eqb _ _ one) (eq-eqb _ _ two))
  where
    step : (a x y : ℕ) → a ≤ x → x < y → a ≤ y
    step a x y h i = omega (arith, h, i)

    low : (a x : ℕ) → a < x → a ≤ x
    low a x h = omega (arith, h)

-- the job of the first period took all of it
cross_response : (t : TaskWalk) (r : Row) (n : Near) → AreLawful t.periods → t.periods.base ≤ r.start → r.start < r.end → (c : Crosses t r n) →
    t.periods.period ≡ row_response t.periods r
cross_response t r n l base long c =
    let p : Periods = t.periods in
    let k : ℕ = c.period.number in
    let at : n.next ≡ bound_at p (k + 1) = next_bound t r n c in
    let first : ended_by p r.start ≡ k = start_in t r n l base c in
    let last : ended_by p (r.end - 1) ≡ k + 1 = end_in t r n (r.end - 1) l (down p.base r.start r.end base long) c (below n.next r.end c.past)
    (under (n.next + p.period) r.end c.ends) in
    let g : ℕ → ℕ → ℕ = λ a b. max (cond (ltb a b) p.period 0) (cond (ltb b (ended_by p p.stop)) (r.end - bound_at p b) 0) in
    let all : row_response p r ≡ g k (k + 1) = ap (λ a. g a (ended_by p (r.end - 1))) first ∙ ap (g k) last in
    let whole : cond (ltb k (k + 1)) p.period 0 ≡ p.period = cond-true _ _ _ (lt-ltb k (k + 1) (omega arith)) in
    let part : r.end - bound_at p (k + 1) ≤ p.period = subst (λ w. r.end - w ≤ p.period) at (few n.next r.end p.period c.ends) in
    let most : cond (ltb (k + 1) (ended_by p p.stop)) (r.end - bound_at p (k + 1)) 0 ≤ p.period = at_most (ltb (k + 1) (ended_by p p.stop))
    (r.end - bound_at p (k + 1)) p.period part in
    top _ _ p.period whole most ∙ sym all
  where
    down : (a x y : ℕ) → a ≤ x → x < y → a ≤ y - 1
    down a x y h i = omega (arith, h, i)

    below : (a y : ℕ) → a < y → a ≤ y - 1
    below a y h = omega (arith, h)

    under : (a y : ℕ) → y < a → y - 1 < a
    under a y h = omega (arith, h)

    few : (a y d : ℕ) → y < a + d → y - a ≤ d
    few a y d h = omega (arith, h)

    at_most : (b : Bool) (x d : ℕ) → x ≤ d → cond b x 0 ≤ d
    at_most true x d h = h
    at_most false x d h = omega arith

    top : (a b d : ℕ) → a ≡ d → b ≤ d → d ≡ max a b
    top a b d e h = omega (arith, e, h)

-- the row goes by
pub cross_gone : (rows : List Row) (j place : ℕ) (t : TaskWalk) (r : Row) (n : Near) (f : Findings) → HasGone rows j t → 0 < t.count → t.count < t.limit →
    IsPlaceOf rows j place → r ≡ row_at rows place
    → t.tick ≤ r.start → r.start < r.end → r.end ≤ t.periods.stop → Crosses t r n
    → f.preemptions ≡ t.found.preemptions + bit (n.same && is_preemption t.before r) → f.migrations ≡ t.found.migrations + bit (n.same && is_migration
    t.before r)
    → f.response ≡ max t.found.response t.periods.period
    → HasGone rows j
    (record {
      periods = t.periods;
      tick = r.end;
      done = t.done + (r.end - r.start);
      begin = n.next;
      next = n.next + t.periods.period;
      owed = n.owed + t.periods.due;
      before = r;
      found = f;
      count = t.count + 1;
      limit = t.limit;
    })
cross_gone rows j place t r n f g some room own is apart long ends c pre mig resp =
    let p : Periods = t.periods in
    let l : AreLawful p = g.ready.lawful in
    let begun : p.base ≤ p.stop = in_time rows j t g room in
    let s : StandsAt p (walk_of t) = g.ready.stands begun in
    let base : p.base ≤ r.start = (let b = s.begun in omega (arith, b, apart)) in
    let w : Walk = record { clock = record { base = p.base; span = p.period; number = ended_by p r.end }; tick = r.end; done = t.done + (r.end - r.start) } in
    let u : Tally = record {
      clock = record { base = p.base; span = p.period; number = ended_by p (r.end - 1) };
      before = r;
      last = ended_by p (r.end - 1);
      ended = ended_by p p.stop;
      found = f;
    } in
    let stands : StandsAt p w =
    record {
      base = refl;
      span = refl;
      number = refl;
      begun = omega (arith, base, long);
      ends = ends;
      small = (let m = s.small in
          omega (arith, m, apart, long));
    } in
    let past : GoesPast p (entry_for j r place ∷ []) (walk_of t) w = past_one p (entry_for j r place) (walk_of t) w stands refl refl apart long c.period.gap
    (row_crosses t r n l base long c) in
    let goes : Goes p (r ∷ []) (tally_of t) u = row_goes t r n u p.period (start_in t r n l base c) c.period.same (cross_response t r n l base long c)
    (record { some = l.some_period; base = refl; span = refl; last = refl; ended = refl }) refl pre mig resp in
    gone_more rows j place n.next (n.next + p.period) (n.owed + p.due) t w u g room own (subst (λ (q : Row). GoesPast p (entry_for j q place ∷ [])
    (walk_of t) w) is past)
    (λ e. absurd (omega (arith, e, some))) (λ ne. subst (λ (q : Row). Goes p (q ∷ []) (tally_of t) u) is goes)
    (record {
      number = c.period.number + 1;
      begin = next_bound t r n c;
      next = refl;
      owed = more n.owed c.period.number p.due c.period.owed;
      tick = refl;
      begun = c.past;
      ends = (let e = c.ends in omega (arith, e));
    })
  where
    more : (o n d : ℕ) → o ≡ (n + 1) * d → o + d ≡ (n + 1 + 1) * d
    more o n d e = omega (arith, e)
