-- What the rows of a task, in the order of time, tell of its jobs. A job is what a task does in one of its periods.
use Rattle.std.specs.Prelude.{ℕ, ◌+◌, ◌-◌, ◌<◌, ◌≤◌, ◌≡◌, ◌==◌, nat_lt, not, max, Bool, ◌&&◌, if◌then◌else◌}
use Rattle.std.specs.Prelude.{List, [], ◌∷◌, map, length, slice_index, slice_index_or}
use Rattle.sched_base.specs.Counting.{bit}
use Rattle.sched_base.specs.declared.rows.Row.{Row}
use Rattle.sched_base.specs.Sets.{SetContents, task_at}
use Rattle.trace_verdict.specs.declared.findings.Findings.{Findings}
use Rattle.trace_verdict.specs.declared.supply.Periods.{Periods}
use Rattle.trace_verdict.specs.Faults.{row_at}
use Rattle.trace_verdict.specs.Orders.{IsOrderOfTask}
use Rattle.trace_verdict.specs.Searches.{periods_of}
use Rattle.trace_verdict.specs.Supply.{bound_at, ended_by}

-- how many neighbours pass the test, the first of them p
abbrev pub pairs_from : (Row → Row → Bool) → Row → List Row → ℕ
pairs_from test p [] = 0
pairs_from test p (q ∷ rest) = bit (test p q) + pairs_from test q rest

-- how many neighbours pass the test
abbrev pub pairs : (Row → Row → Bool) → List Row → ℕ
pairs test [] = 0
pairs test (p ∷ rest) = pairs_from test p rest

-- the second piece starts later than the first ends
abbrev pub is_preemption : Row → Row → Bool
is_preemption p q = nat_lt p.end q.start

-- the pieces are on different processors
abbrev pub is_migration : Row → Row → Bool
is_migration p q = not (p.processor == q.processor)

-- the last tick of r and the first of q lie in one period
abbrev pub in_one_job : Periods → Row → Row → Bool
in_one_job p r q = ended_by p (r.end - 1) == ended_by p q.start

-- the second row goes on with the job of the first, and they pass the test
abbrev pub goes_on : (Row → Row → Bool) → Periods → Row → Row → Bool
goes_on test p r q = in_one_job p r q && test r q

-- the most ticks from the start of a period that ends by `stop` to the end of what the row does in it
abbrev pub row_response : Periods → Row → ℕ
row_response p r =
    max (if nat_lt (ended_by p r.start) (ended_by p (r.end - 1)) then p.period else 0)
    (if nat_lt (ended_by p (r.end - 1)) (ended_by p p.stop) then r.end - bound_at p (ended_by p (r.end - 1)) else 0)

-- the greatest value of rows, and 0 where there is none
abbrev pub greatest_of : (Row → ℕ) → List Row → ℕ
greatest_of value [] = 0
greatest_of value (r ∷ rows) = max (value r) (greatest_of value rows)

-- this is what these rows of a task tell
pub record IsTold (p : Periods) (rows : List Row) (f : Findings) : Type 0 where
  pub preemptions : f.preemptions ≡ pairs (goes_on is_preemption p) rows
  pub migrations : f.migrations ≡ pairs (goes_on is_migration p) rows
  pub response : f.response ≡ greatest_of (row_response p) rows

-- the row has some tick, from the first period on
pub record IsRowIn (p : Periods) (r : Row) : Type 0 where
  pub begun : p.base ≤ r.start
  pub long : r.start < r.end

-- the rows at these places have some ticks, from the first period on
pub record AreInPeriods (p : Periods) (rows : List Row) (places : List ℕ) : Type 0 where
  pub within : (i : ℕ) → i < length places → slice_index places i < length rows
  pub begun : (i : ℕ) → i < length places → p.base ≤ (row_at rows (slice_index places i)).start
  pub long : (i : ℕ) → i < length places → (row_at rows (slice_index places i)).start < (row_at rows (slice_index places i)).end

-- the findings of task j; what it gives past the last one is never looked at
abbrev pub found_at : List Findings → ℕ → Findings
found_at found j = slice_index_or found j (record { preemptions = 0; migrations = 0; response = 0 })

-- this is what the rows of task j tell, in the order of start and place
abbrev pub IsToldOfTask : SetContents → ℕ → List Row → ℕ → Findings → Type 0
IsToldOfTask s scale rows j f =
    (ordered : List ℕ) × IsOrderOfTask rows j ordered × IsTold (periods_of s scale (task_at s.tasks j)) (map (row_at rows) ordered) f

-- these are what the rows of the first tasks tell
abbrev pub AreTold : SetContents → ℕ → List Row → List Findings → Type 0
AreTold s scale rows found = (j : ℕ) → j < length found → IsToldOfTask s scale rows j (found_at found j)
