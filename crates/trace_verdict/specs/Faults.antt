-- The faults of the rows of a trace, and the first of them. Lines are those of the trace's text.
use Rattle.std.specs.Prelude.{ℕ, ◌+◌, ◌*◌, ◌^◌, ◌<◌, ◌≤◌, ◌≡◌, ◌≢◌, ◌⊎◌, true, List, length, slice_index_or}
use Rattle.std.specs.List.{AllByRecursion}
use Rattle.sched_base.specs.declared.rows.Leaf.TheVariants as leaves
use Rattle.sched_base.specs.declared.rows.Row.{Row}
use Rattle.sched_base.specs.Rows.{is_of_task}
use Rattle.sched_base.specs.Sets.{SetContents, task_at}
use Rattle.sched_base.specs.Valid.{period_start, served}
use Rattle.trace_verdict.specs.declared.faults.FaultKind.{FaultKind}
use Rattle.trace_verdict.specs.declared.faults.FaultKind.TheVariants.{Processor, End, ProcessorOverlap, TaskOverlap, Early, Supply}
use Rattle.trace_verdict.specs.declared.faults.Verdict.{Verdict}
use Rattle.trace_verdict.specs.declared.faults.Verdict.TheVariants.{Valid, Fault}

-- row i; what it gives past the last row is never looked at
abbrev pub row_at : List Row → ℕ → Row
row_at rows i = slice_index_or rows i (record { processor = 0; start = 0; end = 0; leaf = leaves.Task (record { 0 = 0 }) })

-- the line of the first task of a text, counted from 1: its head has five lines
abbrev pub first_task_line : ℕ
first_task_line = 6

-- the line of row i
abbrev pub line_of_row : SetContents → ℕ → ℕ
line_of_row s i = first_task_line + length s.tasks + i

-- each starts before the other ends
abbrev pub Overlap : Row → Row → Type 0
Overlap r q = (r.start < q.end) × (q.start < r.end)

-- period k of task j ends by the horizon and gave other than the work, or it ends later and gave more
abbrev pub MissesDue : SetContents → ℕ → List Row → ℕ → ℕ → Type 0
MissesDue s scale rows j k =
    ((period_start scale (task_at s.tasks j) (k + 1) ≤ s.horizon * scale) × (served scale s rows j k ≢ (task_at s.tasks j).work * scale))
    ⊎ ((s.horizon * scale < period_start scale (task_at s.tasks j) (k + 1)) × ((task_at s.tasks j).work * scale < served scale s rows j k))

-- the line is that of a row, by its place, of which this holds
abbrev pub IsRowLine : SetContents → List Row → (ℕ → Type 0) → ℕ → Type 0
IsRowLine s rows P line = (i : ℕ) × (i < length rows) × (line ≡ line_of_row s i) × P i

-- this kind of fault stands at this line: at that of a row, which is past the processors or the horizon, overlaps an earlier row of its processor or
-- of its task, or begins before its task does; or at that of the total of a task, one of whose periods wasn't given its due
abbrev pub HasFault : SetContents → ℕ → List Row → FaultKind → ℕ → Type 0
HasFault s scale rows Processor line = IsRowLine s rows (λ i. s.processors ≤ (row_at rows i).processor) line
HasFault s scale rows End line = IsRowLine s rows (λ i. s.horizon * scale < (row_at rows i).end) line
HasFault s scale rows ProcessorOverlap line =
    IsRowLine s rows (λ i. (k : ℕ) × (k < i) × ((row_at rows k).processor ≡ (row_at rows i).processor) × Overlap (row_at rows k) (row_at rows i)) line
HasFault s scale rows TaskOverlap line =
    IsRowLine s rows (λ i. (k : ℕ) × (j : ℕ) × (k < i) × (is_of_task j (row_at rows k).leaf ≡ true) × (is_of_task j (row_at rows i).leaf ≡ true)
    × Overlap (row_at rows k) (row_at rows i)) line
HasFault s scale rows Early line =
    IsRowLine s rows (λ i. (j : ℕ) × (is_of_task j (row_at rows i).leaf ≡ true) × ((row_at rows i).start < (task_at s.tasks j).offset * scale)) line
HasFault s scale rows Supply line =
    (j : ℕ) × (j < length s.tasks) × (line ≡ first_task_line + length s.tasks + length rows + j) × ((k : ℕ) × MissesDue s scale rows j k)

-- the order of kinds: of several at one line the first is told
abbrev pub rank : FaultKind → ℕ
rank Processor = 0
rank End = 1
rank ProcessorOverlap = 2
rank TaskOverlap = 3
rank Early = 4
rank Supply = 5

-- valid where there is no fault, else the least line at fault, with the first kind that stands there
abbrev pub IsVerdict : SetContents → ℕ → List Row → Verdict → Type 0
IsVerdict s scale rows Valid = (kind : FaultKind) (line : ℕ) → HasFault s scale rows kind line → ⊥
IsVerdict s scale rows (Fault line kind) = HasFault s scale rows kind line
    × ((other : FaultKind) (at : ℕ) → HasFault s scale rows other at → (line < at) ⊎ ((line ≡ at) × (rank kind ≤ rank other)))

-- a row as a trace may have it: it has some tick, its ticks fit, and its task is one of the set
pub record IsTraceRow (s : SetContents) (r : Row) : Type 0 where
  pub long : r.start < r.end
  pub fits : r.end < 2 ^ 127
  pub known : (j : ℕ) → is_of_task j r.leaf ≡ true → j < length s.tasks

-- rows as a trace may have them
pub record IsTrace (s : SetContents) (scale : ℕ) (rows : List Row) : Type 0 where
  pub some_scale : 0 < scale
  pub scale_fits : scale ≤ 2 ^ 94
  pub few : length rows < 2 ^ 32
  pub each : AllByRecursion (IsTraceRow s) rows
