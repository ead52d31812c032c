-- Whether rows of one task give each of its periods its due, by going through the rows.
use Rattle.std.specs.Prelude.{ℕ, ◌+◌, ◌-◌, ◌*◌, ◌/◌, ◌^◌, ◌<◌, ◌≤◌, ◌≡◌, nat_eq, nat_le, Bool, ◌&&◌, ◌||◌, List}
use Rattle.std.specs.Prelude.{[], ◌∷◌}
use Rattle.sched_base.specs.Rows.{overlap}
use Rattle.trace_verdict.specs.declared.entries.Entry.{Entry}
use Rattle.trace_verdict.specs.declared.supply.Periods.{Periods}
use Rattle.trace_verdict.specs.declared.supply.Stretch.{Stretch}

-- the periods of a task: each has some ticks and gets some of them, and all ticks fit
pub record AreLawful (p : Periods) : Type 0 where
  pub some_period : 0 < p.period
  pub some_due : 0 < p.due
  pub within : p.due ≤ p.period
  pub fits : p.stop < 2 ^ 127
  pub period_fits : p.period < 2 ^ 127

-- the tick at which period k begins
abbrev pub bound_at : Periods → ℕ → ℕ
bound_at p k = p.base + k * p.period

-- the ticks from a up to b that these rows have
abbrev pub ticks_in : List Entry → ℕ → ℕ → ℕ
ticks_in [] a b = 0
ticks_in (r ∷ rs) a b = overlap r.start r.end a b + ticks_in rs a b

-- the rows stand in order and apart, from tick x on, up to `stop`
abbrev pub Follows : ℕ → ℕ → List Entry → Type 0
Follows stop x [] = x ≤ stop
Follows stop x (r ∷ rs) = (x ≤ r.start) × (r.start < r.end) × Follows stop r.end rs

-- each period that ends by `stop` has exactly its due, and each other at most that
pub record IsSupplied (p : Periods) (rows : List Entry) : Type 0 where
  pub full : (k : ℕ) → bound_at p (k + 1) ≤ p.stop → ticks_in rows (bound_at p k) (bound_at p (k + 1)) ≡ p.due
  pub no_more : (k : ℕ) → ticks_in rows (bound_at p k) (bound_at p (k + 1)) ≤ p.due

-- how many periods have ended by tick x
abbrev pub ended_by : Periods → ℕ → ℕ
ended_by p x = (x - p.base) / p.period

-- the ticks lie in order from the first period on, and the numbers beside them are those of the periods that have ended by them
pub record IsCounted (p : Periods) (x : Stretch) : Type 0 where
  pub begun : p.base ≤ x.from
  pub ordered : x.from ≤ x.to
  pub fits : x.to < 2 ^ 127
  pub before : x.before ≡ ended_by p x.from
  pub after : x.after ≡ ended_by p x.to

-- no row lies between x and y: where periods end there, it is one, and what was done so far is its due and those before
abbrev pub gap_holds : Periods → ℕ → ℕ → ℕ → Bool
gap_holds p done x y = nat_eq (ended_by p x) (ended_by p y) || (nat_eq (ended_by p x + 1) (ended_by p y) && nat_eq done (ended_by p y * p.due))

-- one row from x up to y: the first and the last of the periods that end in it have their dues by then
abbrev pub row_holds : Periods → ℕ → ℕ → ℕ → Bool
row_holds p done x y = nat_eq (ended_by p x) (ended_by p y)
    || (nat_eq (done + (bound_at p (ended_by p x + 1) - x)) ((ended_by p x + 1) * p.due) && nat_eq (done + (bound_at p (ended_by p y) - x))
    (ended_by p y * p.due))

-- the same of all gaps and rows from x on, with so many ticks done before
abbrev pub holds_from : Periods → ℕ → ℕ → List Entry → Bool
holds_from p done x [] = gap_holds p done x p.stop && nat_le done ((ended_by p p.stop + 1) * p.due)
holds_from p done x (r ∷ rs) = (gap_holds p done x r.start && row_holds p done r.start r.end) && holds_from p (done + (r.end - r.start)) r.end rs
