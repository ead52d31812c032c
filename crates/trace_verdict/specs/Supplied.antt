-- Rows of one task that go by in the order of time and give each of its periods its due.
use Rattle.std.specs.Prelude.{ℕ, ◌≡◌, ◌<◌, ◌≤◌, ◌++◌, true, List, [], length, map, Some}
use Rattle.std.specs.List.{AllByRecursion}
use Rattle.sched_base.specs.declared.rows.Row.{Row}
use Rattle.trace_verdict.specs.declared.entries.Entry.{Entry}
use Rattle.trace_verdict.specs.declared.supply.Periods.{Periods}
use Rattle.trace_verdict.specs.declared.walks.Walk.{Walk}
use Rattle.trace_verdict.specs.declared.findings.Findings.{Findings}
use Rattle.trace_verdict.specs.Orders.{task_key, IsTaskOrder}
use Rattle.trace_verdict.specs.Faults.{row_at}
use Rattle.trace_verdict.specs.Findings.{IsTold}
use Rattle.trace_verdict.specs.Searches.{IsFirstHit, IsFirstUnsupplied}
use Rattle.sched_base.specs.Sets.{SetContents}
use Rattle.trace_verdict.specs.Supply.{ended_by, holds_from, Follows, IsSupplied}

-- there is a row of task j at the place
pub record IsPlaceOf (rows : List Row) (j : ℕ) (place : ℕ) : Type 0 where
  pub within : place < length rows
  pub key : task_key (row_at rows place) ≡ Some j

-- the entry that a row of task j has at a place
abbrev pub entry_for : ℕ → Row → ℕ → Entry
entry_for j r place = record { key = j; start = r.start; place = place; end = r.end }

-- the entries of the rows of task j at these places
abbrev pub entries_at : List Row → ℕ → List ℕ → List Entry
entries_at rows j places = map (λ place. entry_for j (row_at rows place) place) places

-- at these places stand rows of task j in the order of time, apart, which give each period its due
pub record GoSupplied (p : Periods) (rows : List Row) (j : ℕ) (places : List ℕ) : Type 0 where
  pub own : AllByRecursion (IsPlaceOf rows j) places
  pub apart : p.base ≤ p.stop → Follows p.stop p.base (entries_at rows j places)
  pub none : p.stop < p.base → places ≡ []
  pub supplied : IsSupplied p (entries_at rows j places)

-- the walk has come to its tick, and its clock to the period of that tick
pub record StandsAt (p : Periods) (w : Walk) : Type 0 where
  pub base : w.clock.base ≡ p.base
  pub span : w.clock.span ≡ p.period
  pub number : w.clock.number ≡ ended_by p w.tick
  pub begun : p.base ≤ w.tick
  pub ends : w.tick ≤ p.stop
  pub small : w.done ≤ w.tick

-- these are in order and apart from the walk's tick on, and with what was done before they give what is due
pub record Holds (p : Periods) (w : Walk) (es : List Entry) : Type 0 where
  pub apart : Follows p.stop w.tick es
  pub due : holds_from p w.done w.tick es ≡ true

-- the walk goes past these: whatever follows, where the rest holds from where it stands then, all of it holds from before
pub record GoesPast (p : Periods) (es : List Entry) (old new : Walk) : Type 0 where
  pub stands : StandsAt p new
  pub holds : (rest : List Entry) → Holds p new rest → Holds p old (es ++ rest)

-- the walk went through the rows at these places: they are those of task j in the order of time, apart, which give each period its
-- due, and this is what they tell
pub record WentThrough (p : Periods) (rows : List Row) (j : ℕ) (places : List ℕ) (f : Findings) : Type 0 where
  pub own : AllByRecursion (IsPlaceOf rows j) places
  pub apart : Follows p.stop p.base (entries_at rows j places)
  pub due : holds_from p 0 p.base (entries_at rows j places) ≡ true
  pub told : IsTold p (map (row_at rows) places) f

-- these are the places of tasks' rows in order, no two rows of a task overlap, and each task has what it is to have
pub record IsSuppliedOrder (s : SetContents) (scale : ℕ) (rows : List Row) (ordered starts : List ℕ) : Type 0 where
  pub order : IsTaskOrder (length s.tasks) rows ordered starts
  pub apart : IsFirstHit task_key rows (length rows)
  pub supplied : IsFirstUnsupplied s scale rows (length s.tasks)
