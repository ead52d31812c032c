-- A walk through the rows tells whether each period has its due.
use Rattle.std.proofs.Common.{ℕ, ◌+◌, ◌-◌, ◌*◌, ◌<◌, ◌≤◌, ◌≡◌, ◌≢◌, inl, inr, Bool, true, false, ◌&&◌, ◌||◌, List, [], ◌∷◌, eqb, min, zero, suc, sym}
use Rattle.std.proofs.Common.{refl, ap, ◌∙◌, subst, arith}
use Rattle.std.proofs.Math.Nat.{le-div_iff_mul-le, mul-le-mul_right, mul-add}
use Rattle.std.proofs.lemmas.Bool.{cases_lt, cases_eq, and_parts, and_from, or_cases, or_left, or_right, eqb-true, eq-eqb, ne_eqb, leb-true, le-leb}
use Rattle.trace_verdict.specs.declared.entries.Entry.{Entry}
use Rattle.sched_base.specs.Rows.{overlap}
use Rattle.trace_verdict.specs.declared.supply.Periods.{Periods}
use Rattle.trace_verdict.specs.declared.supply.Stretch.{Stretch}
use Rattle.trace_verdict.specs.Clock.{period_at}
use Rattle.trace_verdict.specs.Supply.{AreLawful, IsCounted, bound_at, ticks_in, Follows, IsSupplied, ended_by, gap_holds, row_holds, holds_from}

-- the ticks before b
abbrev pub before : List Entry → ℕ → ℕ
before [] b = 0
before (r ∷ rs) b = (min r.end b - r.start) + before rs b

pub overlap_split : (s e a b : ℕ) → a ≤ b → s ≤ e → overlap s e a b + (min e a - s) ≡ min e b - s
overlap_split s e a b h k = omega arith

pub ticks-split : (stop x : ℕ) (rows : List Entry) → (a b : ℕ) → a ≤ b → Follows stop x rows → ticks_in rows a b + before rows a ≡ before rows b
ticks-split stop x [] a b h f = refl
ticks-split stop x (r ∷ rs) a b h f =
    let le : r.start ≤ r.end = omega (arith, f.1) in
    let one = overlap_split r.start r.end a b h le in
    let rest = ticks-split stop r.end rs a b h f.2 in
    omega (arith, one, rest)

pub before_none : (stop x : ℕ) (rows : List Entry) (b : ℕ) → Follows stop x rows → b ≤ x → before rows b ≡ 0
before_none stop x [] b f h = refl
before_none stop x (r ∷ rs) b f h =
    let rest = before_none stop r.end rs b f.2 (omega (arith, f.0, f.1)) in
    omega (arith, f.0, f.1, rest)

-- ---- which periods have ended

pub counted_to : (p : Periods) (x k : ℕ) → 0 < p.period → p.base ≤ x → bound_at p k ≤ x → k ≤ ended_by p x
counted_to p x k h b u = (le-div_iff_mul-le h).1 (omega (arith, u, b))

pub counted_from : (p : Periods) (x k : ℕ) → 0 < p.period → p.base ≤ x → k ≤ ended_by p x → bound_at p k ≤ x
counted_from p x k h b u =
    let v : k * p.period ≤ x - p.base = (le-div_iff_mul-le h).0 u in
    omega (arith, v, b)

pub counted_past : (p : Periods) (x k : ℕ) → 0 < p.period → p.base ≤ x → x < bound_at p k → ended_by p x < k
counted_past p x k h b u =
    elim (cases_lt (ended_by p x) k) [
      | inl l ↦ l
      | inr r ↦ (let v = counted_from p x k h b r in absurd (omega (arith, u, v)))
    ]

pub counted_grows : (p : Periods) (x y : ℕ) → 0 < p.period → p.base ≤ x → x ≤ y → ended_by p x ≤ ended_by p y
counted_grows p x y h b u =
    let v = counted_from p x (ended_by p x) h b (omega arith) in
    counted_to p y (ended_by p x) h (omega (arith, b, u)) (omega (arith, u, v))

pub past_counted : (p : Periods) (x k : ℕ) → 0 < p.period → p.base ≤ x → ended_by p x < k → x < bound_at p k
past_counted p x k h b u =
    elim (cases_lt x (bound_at p k)) [
      | inl l ↦ l
      | inr r ↦ (let v = counted_to p x k h b r in absurd (omega (arith, u, v)))
    ]

-- the number that a clock of these periods tells
pub seek_is : (p : Periods) (base span x n : ℕ) → base ≡ p.base → span ≡ p.period → n ≡ period_at base span x → n ≡ ended_by p x
seek_is p base span x n e f is = is ∙ (ap (λ b. period_at b span x) e ∙ ap (λ s. period_at p.base s x) f)

-- a period ends in the ticks counted: where the first and the last of those that do end
pub record Crosses (p : Periods) (x : Stretch) : Type 0 where
  pub less : x.before < x.after
  pub first : x.from < bound_at p (x.before + 1)
  pub first_ends : bound_at p (x.before + 1) ≤ x.to
  pub last : x.from < bound_at p x.after
  pub last_ends : bound_at p x.after ≤ x.to

pub crosses : (p : Periods) (x : Stretch) → AreLawful p → IsCounted p x → x.before ≢ x.after → Crosses p x
crosses p x l c ne =
    let grows = counted_grows p x.from x.to l.some_period c.begun c.ordered in
    let before : x.before ≡ ended_by p x.from = c.before in
    let after : x.after ≡ ended_by p x.to = c.after in
    let less : x.before < x.after = omega (arith, grows, ne, before, after) in
    let begun : p.base ≤ x.to = omega (arith, c.begun, c.ordered) in
    record {
      less = less;
      first = past_counted p x.from (x.before + 1) l.some_period c.begun (omega (arith, before));
      first_ends = counted_from p x.to (x.before + 1) l.some_period begun (omega (arith, less, after));
      last = past_counted p x.from x.after l.some_period c.begun (omega (arith, less, before));
      last_ends = counted_from p x.to x.after l.some_period begun (omega (arith, after));
    }

-- whether the ticks and the dues meet at the first and at the last of these ends is whether the row holds
pub row_by_ends : (p : Periods) (x : Stretch) (done : ℕ) (a b : Bool) → IsCounted p x → x.before ≢ x.after →
    a ≡ eqb (done + (bound_at p (x.before + 1) - x.from)) ((x.before + 1) * p.due)
    → b ≡ eqb (done + (bound_at p x.after - x.from)) (x.after * p.due) → (a && b) ≡ row_holds p done x.from x.to
row_by_ends p x done a b c ne e f =
    let meets : ℕ → Bool = λ k. eqb (done + (bound_at p k - x.from)) (k * p.due) in
    let crossed : eqb (ended_by p x.from) (ended_by p x.to) ≡ false = ne_eqb _ _ (λ q. ne (c.before ∙ (q ∙ sym c.after))) in
    let first : a ≡ meets (ended_by p x.from + 1) = e ∙ ap (λ k. meets (k + 1)) c.before in
    let last : b ≡ meets (ended_by p x.to) = f ∙ ap meets c.after in
    ap (λ w. w && b) first ∙ (ap (λ w. meets (ended_by p x.from + 1) && w) last
    ∙ sym (ap (λ w. w || (meets (ended_by p x.from + 1) && meets (ended_by p x.to))) crossed))

-- ---- a gap between rows

pub times_apart : (n m d : ℕ) → 0 < d → n < m → n * d ≡ m * d → ⊥
times_apart n m d h u e =
    let v : (n + 1) * d ≤ m * d = mul-le-mul_right d (omega (arith, u)) in
    omega (arith, v, e, h)

pub gap_to : (p : Periods) (done x y : ℕ) → AreLawful p → p.base ≤ x → x ≤ y → gap_holds p done x y ≡ true
    → (k : ℕ) → x < bound_at p k → bound_at p k ≤ y → done ≡ k * p.due
gap_to p done x y l b u g k low high =
    let a = counted_past p x k l.some_period b low in
    let c = counted_to p y k l.some_period (omega (arith, b, u)) high in
    elim (or_cases _ _ g) [
      | inl e ↦ (let f : ended_by p x ≡ ended_by p y = eqb-true _ _ e in absurd (omega (arith, a, c, f)))
      | inr e ↦ (let q = and_parts (eqb (ended_by p x + 1) (ended_by p y)) (eqb done (ended_by p y * p.due)) e in
          let f : ended_by p x + 1 ≡ ended_by p y = eqb-true _ _ q.0 in
          let same : ended_by p y ≡ k = omega (arith, a, c, f) in
          eqb-true _ _ q.1 ∙ ap (λ w. w * p.due) same)
    ]

pub gap_back : (p : Periods) (done x y : ℕ) → AreLawful p → p.base ≤ x → x ≤ y
    → ((k : ℕ) → x < bound_at p k → bound_at p k ≤ y → done ≡ k * p.due) → gap_holds p done x y ≡ true
gap_back p done x y l b u all =
    let grows = counted_grows p x y l.some_period b u in
    elim (cases_eq (ended_by p x) (ended_by p y)) [
      | inl e ↦ or_left _ _ (eq-eqb _ _ e)
      | inr ne ↦ (
          let below : ended_by p x < ended_by p y = omega (arith, grows, ne) in
          let last = all (ended_by p y) (past_counted p x _ l.some_period b below) (counted_from p y _ l.some_period (omega (arith, b, u)) (omega arith)) in
          let first = all (ended_by p x + 1) (past_counted p x _ l.some_period b (omega arith)) (counted_from p y _ l.some_period (omega (arith, b, u))
          (omega (arith, below))) in
          let one : ended_by p x + 1 ≡ ended_by p y = elim (cases_lt (ended_by p x + 1) (ended_by p y)) [
            | inl less ↦ absurd (times_apart _ _ p.due l.some_due less (sym first ∙ last))
            | inr far ↦ omega (arith, below, far)
          ] in
          or_right _ _ (and_from _ _ (eq-eqb _ _ one) (eq-eqb _ _ last)))
    ]

-- ---- a row

-- two lines that meet at c and at n meet between
pub lines_meet : (u v c k n a b : ℕ) → c ≤ k → k ≤ n → u + c * a ≡ v + c * b → u + n * a ≡ v + n * b → u + k * a ≡ v + k * b
lines_meet u v c k n a b h i e f =
    elim (cases_lt c n) [
      | inr same ↦ (let g : c ≡ k = omega (arith, h, i, same) in subst (λ w. u + w * a ≡ v + w * b) g e)
      | inl less ↦ (
          elim (cases_lt a b) [
            | inl below ↦ (
                let d : (c + 1) * (b - a) ≤ n * (b - a) = mul-le-mul_right (b - a) (omega (arith, less)) in
                let s : c * b ≡ c * a + c * (b - a) = ap (λ w. c * w) (omega (arith, below)) ∙ mul-add c a (b - a) in
                let t : n * b ≡ n * a + n * (b - a) = ap (λ w. n * w) (omega (arith, below)) ∙ mul-add n a (b - a) in
                absurd (omega (arith, e, f, d, s, t, below)))
            | inr above ↦ elim (cases_lt b a) [
              | inr level ↦ (let g : a ≡ b = omega (arith, above, level) in
                  let m : c * a ≡ c * b = ap (λ w. c * w) g in
                  let q : k * a ≡ k * b = ap (λ w. k * w) g in
                  omega (arith, e, m, q))
              | inl over ↦ (
                  let d : (c + 1) * (a - b) ≤ n * (a - b) = mul-le-mul_right (a - b) (omega (arith, less)) in
                  let s : c * a ≡ c * b + c * (a - b) = ap (λ w. c * w) (omega (arith, over)) ∙ mul-add c b (a - b) in
                  let t : n * a ≡ n * b + n * (a - b) = ap (λ w. n * w) (omega (arith, over)) ∙ mul-add n b (a - b) in
                  absurd (omega (arith, e, f, d, s, t, over)))
            ]
          ])
    ]

pub row_to : (p : Periods) (done x y : ℕ) → AreLawful p → p.base ≤ x → x ≤ y → row_holds p done x y ≡ true
    → (k : ℕ) → x < bound_at p k → bound_at p k ≤ y → done + (bound_at p k - x) ≡ k * p.due
row_to p done x y l b u g k low high =
    let a = counted_past p x k l.some_period b low in
    let c = counted_to p y k l.some_period (omega (arith, b, u)) high in
    elim (or_cases _ _ g) [
      | inl e ↦ (let f : ended_by p x ≡ ended_by p y = eqb-true _ _ e in absurd (omega (arith, a, c, f)))
      | inr e ↦ (
          let q = and_parts (eqb (done + (bound_at p (ended_by p x + 1) - x)) ((ended_by p x + 1) * p.due)) (eqb (done + (bound_at p (ended_by p y) - x))
          (ended_by p y * p.due)) e in
          let f : done + (bound_at p (ended_by p x + 1) - x) ≡ (ended_by p x + 1) * p.due = eqb-true _ _ q.0 in
          let h : done + (bound_at p (ended_by p y) - x) ≡ ended_by p y * p.due = eqb-true _ _ q.1 in
          let m : x < bound_at p (ended_by p x + 1) = past_counted p x _ l.some_period b (omega arith) in
          let n : x < bound_at p (ended_by p y) = past_counted p x _ l.some_period b (omega (arith, a, c)) in
          let meet = lines_meet (done + p.base) x (ended_by p x + 1) k (ended_by p y) p.period p.due (omega (arith, a)) c (omega (arith, f, m))
          (omega (arith, h, n)) in
          omega (arith, meet, low))
    ]

pub row_back : (p : Periods) (done x y : ℕ) → AreLawful p → p.base ≤ x → x ≤ y
    → ((k : ℕ) → x < bound_at p k → bound_at p k ≤ y → done + (bound_at p k - x) ≡ k * p.due) → row_holds p done x y ≡ true
row_back p done x y l b u all =
    let grows = counted_grows p x y l.some_period b u in
    elim (cases_eq (ended_by p x) (ended_by p y)) [
      | inl e ↦ or_left _ _ (eq-eqb _ _ e)
      | inr ne ↦ (
          let below : ended_by p x < ended_by p y = omega (arith, grows, ne) in
          let last = all (ended_by p y) (past_counted p x _ l.some_period b below) (counted_from p y _ l.some_period (omega (arith, b, u)) (omega arith)) in
          let first = all (ended_by p x + 1) (past_counted p x _ l.some_period b (omega arith)) (counted_from p y _ l.some_period (omega (arith, b, u))
          (omega (arith, below))) in
          or_right _ _ (and_from _ _ (eq-eqb _ _ first) (eq-eqb _ _ last)))
    ]

-- ---- all rows

-- what was done before x and the rows from x on give, at each end of a period past x, the dues up to it; and all of it is within the next period's due
pub record Meets (p : Periods) (done x : ℕ) (rows : List Entry) : Type 0 where
  pub each : (k : ℕ) → x < bound_at p k → bound_at p k ≤ p.stop → done + before rows (bound_at p k) ≡ k * p.due
  pub all : done + before rows p.stop ≤ (ended_by p p.stop + 1) * p.due

pub Follows-le : (stop x : ℕ) (rows : List Entry) → Follows stop x rows → x ≤ stop
Follows-le stop x [] f = f
Follows-le stop x (r ∷ rs) f = let rest = Follows-le stop r.end rs f.2 in omega (arith, rest, f.0, f.1)

pub holds_to : (p : Periods) (done x : ℕ) (rows : List Entry) → AreLawful p → p.base ≤ x → Follows p.stop x rows → holds_from p done x rows ≡ true →
    Meets p done x rows
holds_to p done x [] l b f h =
    let q = and_parts _ _ h in
    let top = leb-true _ _ q.1 in
    record {
      each = λ k low high. (let e = gap_to p done x p.stop l b f q.0 k low high in omega (arith, e));
      all = omega (arith, top);
    }
holds_to p done x (r ∷ rs) l b f h =
    let q = and_parts _ _ h in
    let w = and_parts _ _ q.0 in
    let past = Follows-le p.stop r.end rs f.2 in
    let rest = holds_to p (done + (r.end - r.start)) r.end rs l (omega (arith, b, f.0, f.1)) f.2 q.1 in
    record {
      each = λ k low high.
          elim (cases_lt r.start (bound_at p k)) [
            | inr gap ↦ (
                let none = before_none p.stop r.end rs (bound_at p k) f.2 (omega (arith, gap, f.1)) in
                let e = gap_to p done x r.start l b f.0 w.0 k low gap in
                omega (arith, e, none, gap))
            | inl in_row ↦ elim (cases_lt r.end (bound_at p k)) [
              | inr within ↦ (
                  let none = before_none p.stop r.end rs (bound_at p k) f.2 within in
                  let e = row_to p done r.start r.end l (omega (arith, b, f.0)) (omega (arith, f.1)) w.1 k in_row within in
                  omega (arith, e, none, in_row, within))
              | inl later ↦ (
                  let e = rest.each k later high in
                  omega (arith, e, later, f.1))
            ]
          ];
      all = (let e = rest.all in omega (arith, e, past, f.1));
    }

pub holds_back : (p : Periods) (done x : ℕ) (rows : List Entry) → AreLawful p → p.base ≤ x → Follows p.stop x rows → Meets p done x rows →
    holds_from p done x rows ≡ true
holds_back p done x [] l b f m =
    let top = m.all in
    and_from _ _
    (gap_back p done x p.stop l b f (λ k low high. (let e = m.each k low high in omega (arith, e))))
    (le-leb _ _ (omega (arith, top)))
holds_back p done x (r ∷ rs) l b f m =
    let past = Follows-le p.stop r.end rs f.2 in
    let top = m.all in
    and_from _ _
    (and_from _ _
    (gap_back p done x r.start l b f.0 (λ k low high. (
    let none = before_none p.stop r.end rs (bound_at p k) f.2 (omega (arith, high, f.1)) in
    let e = m.each k low (omega (arith, high, past, f.1)) in
    omega (arith, e, none, high))))
    (row_back p done r.start r.end l (omega (arith, b, f.0)) (omega (arith, f.1)) (λ k low high. (
    let none = before_none p.stop r.end rs (bound_at p k) f.2 high in
    let e = m.each k (omega (arith, low, f.0)) (omega (arith, high, past)) in
    omega (arith, e, none, high, low)))))
    (holds_back p (done + (r.end - r.start)) r.end rs l (omega (arith, b, f.0, f.1)) f.2 (record {
      each = λ k low high. (
          let e = m.each k (omega (arith, low, f.0, f.1)) high in
          omega (arith, e, low, f.1));
      all = omega (arith, top, past, f.1);
    }))

-- ---- the walk against what is asked of each period

pub before_all : (stop x : ℕ) (rows : List Entry) (b : ℕ) → Follows stop x rows → stop ≤ b → before rows b ≡ before rows stop
before_all stop x [] b f h = refl
before_all stop x (r ∷ rs) b f h =
    let rest = before_all stop r.end rs b f.2 h in
    let past = Follows-le stop r.end rs f.2 in
    omega (arith, f.0, f.1, rest, past, h)

pub bounds_rise : (p : Periods) (k : ℕ) → bound_at p (k + 1) ≡ bound_at p k + p.period
bounds_rise p k = omega arith

pub dues_at : (p : Periods) (rows : List Entry) → AreLawful p → Follows p.stop p.base rows → Meets p 0 p.base rows → (k : ℕ) → bound_at p k ≤ p.stop →
    before rows (bound_at p k) ≡ k * p.due
dues_at p rows l f m zero h = let e = before_none p.stop p.base rows (bound_at p 0) f (omega arith) in omega (arith, e)
dues_at p rows l f m (suc k) h =
    let some = l.some_period in
    let e = m.each (suc k) (omega (arith, some)) h in
    omega (arith, e)

pub supplied_to : (p : Periods) (rows : List Entry) → AreLawful p → p.base ≤ p.stop → Follows p.stop p.base rows → holds_from p 0 p.base rows ≡ true →
    IsSupplied p rows
supplied_to p rows l b f h =
    let m : Meets p 0 p.base rows = holds_to p 0 p.base rows l (omega arith) f h in
    let dues : (k : ℕ) → bound_at p k ≤ p.stop → before rows (bound_at p k) ≡ k * p.due = dues_at p rows l f m in
    let exact : (k : ℕ) → bound_at p (k + 1) ≤ p.stop → ticks_in rows (bound_at p k) (bound_at p (k + 1)) ≡ p.due = λ k u. (
    let split = ticks-split p.stop p.base rows (bound_at p k) (bound_at p (k + 1)) (omega arith) f in
    let low = dues k (omega (arith, u)) in
    let high = dues (k + 1) u in
    omega (arith, split, low, high)) in
    record {
      full = exact;
      no_more = λ k. (elim (cases_lt p.stop (bound_at p (k + 1))) [
        | inr in_time ↦ (let e = exact k in_time in omega (arith, e))
        | inl open_end ↦ (
            let split = ticks-split p.stop p.base rows (bound_at p k) (bound_at p (k + 1)) (omega arith) f in
            let high = before_all p.stop p.base rows (bound_at p (k + 1)) f (omega (arith, open_end)) in
            elim (cases_lt p.stop (bound_at p k)) [
              | inl past ↦ (let low = before_all p.stop p.base rows (bound_at p k) f (omega (arith, past)) in omega (arith, split, high, low))
              | inr begins ↦ (
                  let low = dues k begins in
                  let u : k ≤ ended_by p p.stop = counted_to p p.stop k l.some_period b begins in
                  let v : ended_by p p.stop < k + 1 = counted_past p p.stop (k + 1) l.some_period b open_end in
                  let same : ended_by p p.stop ≡ k = omega (arith, u, v) in
                  let top : before rows p.stop ≤ (k + 1) * p.due = subst (λ w. before rows p.stop ≤ (w + 1) * p.due) same (omega (arith, m.all)) in
                  omega (arith, split, high, low, top))
            ])
      ]);
    }

pub dues_from : (p : Periods) (rows : List Entry) → AreLawful p → Follows p.stop p.base rows → IsSupplied p rows → (k : ℕ) → bound_at p k ≤ p.stop →
    before rows (bound_at p k) ≡ k * p.due
dues_from p rows l f s zero h = let e = before_none p.stop p.base rows (bound_at p 0) f (omega arith) in omega (arith, e)
dues_from p rows l f s (suc k) h =
    let rise = bounds_rise p k in
    let low = dues_from p rows l f s k (omega (arith, h)) in
    let split = ticks-split p.stop p.base rows (bound_at p k) (bound_at p (k + 1)) (omega arith) f in
    let due = s.full k (omega (arith, h)) in
    let one : suc k ≡ k + 1 = omega arith in
    let here = ap (λ w. before rows (bound_at p w)) one in
    omega (arith, low, split, due, here)

pub supplied_back : (p : Periods) (rows : List Entry) → AreLawful p → p.base ≤ p.stop → Follows p.stop p.base rows → IsSupplied p rows →
    holds_from p 0 p.base rows ≡ true
supplied_back p rows l b f s =
    let begins : bound_at p (ended_by p p.stop) ≤ p.stop = counted_from p p.stop (ended_by p p.stop) l.some_period b (omega arith) in
    let ends : p.stop < bound_at p (ended_by p p.stop + 1) = past_counted p p.stop (ended_by p p.stop + 1) l.some_period b (omega arith) in
    let low = dues_from p rows l f s (ended_by p p.stop) begins in
    let split = ticks-split p.stop p.base rows (bound_at p (ended_by p p.stop)) (bound_at p (ended_by p p.stop + 1)) (omega arith) f in
    let high = before_all p.stop p.base rows (bound_at p (ended_by p p.stop + 1)) f (omega (arith, ends)) in
    let due = s.no_more (ended_by p p.stop) in
    holds_back p 0 p.base rows l (omega arith) f (record {
      each = λ k u h. (let e = dues_from p rows l f s k h in omega (arith, e));
      all = omega (arith, low, split, high, due);
    })

pub supplied_none : (p : Periods) (rows : List Entry) → p.stop < p.base → rows ≡ [] → IsSupplied p rows
supplied_none p rows h e = subst (IsSupplied p) (sym e) (record { full = λ k u. absurd (omega (arith, h, u)); no_more = λ k. omega arith })
