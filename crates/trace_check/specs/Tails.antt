-- The lines that are expected after the row lines, from a place among them on.
use Rattle.std.specs.Prelude.{ℕ, ◌+◌, ◌-◌, ◌^◌, ◌≡◌, ◌≤◌, ◌<◌, Bool, true, List, [], ◌∷◌, ◌++◌, length, drop, map, codes, slice_index_or}
use Rattle.std.specs.Prelude.{Some}
use Rattle.std.specs.List.{enumerate_from, range_with_len, flat_map}
use Rattle.sched_base.specs.declared.rows.Row.{Row}
use Rattle.sched_base.specs.declared.sets.Task.{Task}
use Rattle.sched_base.specs.Sets.{SetContents, task_at}
use Rattle.sched_base.specs.Tables.{row_limit, ticks_in}
use Rattle.sched_edges.specs.Lines.{number_line, named_line}
use Rattle.text_words.specs.Words.{lines_of}
use Rattle.trace_format.specs.declared.versions.Version.TheVariants.{Two}
use Rattle.trace_format.specs.Finishes.{ended_count, finish}
use Rattle.trace_format.specs.Lines.{met_line}
use Rattle.trace_format.specs.Text.{mets_of_task, met_lines}
use Rattle.trace_check.specs.declared.met_lines.MetPlace.{MetPlace}
use Rattle.trace_check.specs.declared.reaches.TaskReach.{TaskReach}
use Rattle.trace_check.specs.declared.tail_lines.Tail.{Tail}
use Rattle.trace_check.specs.declared.tail_lines.Place.{Place}
use Rattle.trace_check.specs.declared.tail_lines.Place.TheVariants as places
use Rattle.trace_check.specs.declared.tail_lines.Expected.{Expected}
use Rattle.trace_check.specs.declared.tail_lines.Expected.TheVariants as expects
use Rattle.trace_check.specs.Reaches.{reach_to, HaveEnds, AreReachesOf}
use Rattle.trace_check.specs.RowLines.{AreTotals}
use Rattle.trace_check.specs.TailLines.{after, first_other, at_most, most_mets, tail_lines}

-- the total lines of these tasks from task j on
abbrev pub totals_from : List Row → List Task → ℕ → List (List ℕ)
totals_from rows tasks j = map (λ p. named_line (codes "total") p.1.name (ticks_in p.0 rows)) (enumerate_from j (drop j tasks))

-- the `met` lines of a task from its period k on
abbrev pub mets_from : ℕ → SetContents → List Row → ℕ → Task → ℕ → List (List ℕ)
mets_from scale s rows key t k = map (λ i. met_line t.name i (finish scale s rows key i)) (range_with_len k (ended_count s t - k))

-- the `met` lines of the tasks from task j on
abbrev pub mets_behind : Tail → ℕ → List (List ℕ)
mets_behind t j = flat_map (mets_of_task t.scale t.set.now t.rows.now) (enumerate_from j (drop j t.set.now.tasks))

-- the last line
abbrev pub last_line : Tail → List ℕ
last_line t = number_line (codes "rows") (length t.rows.now)

-- of these `met` lines, before which so many stand, those that may be there, and the last line
abbrev pub mets_and_last : Tail → ℕ → List (List ℕ) → List (List ℕ)
mets_and_last t before mets = at_most (most_mets - before) mets ++ last_line t ∷ []

-- what is expected from a place on
abbrev pub left_at : Tail → Place → List (List ℕ)
left_at t (places.Total j) =
    totals_from t.rows.now t.set.now.tasks j ++ (at_most most_mets (met_lines t.version t.scale t.set.now t.rows.now) ++ last_line t ∷ [])
left_at t (places.Met m) =
    mets_and_last t m.before (mets_from t.scale t.set.now t.rows.now m.task (task_at t.set.now.tasks m.task) m.period ++ mets_behind t (m.task + 1))
left_at t places.Rows = last_line t ∷ []
left_at t places.End = []

-- all that is expected
abbrev pub all_lines : Tail → List (List ℕ)
all_lines t = tail_lines t.version t.set.now t.scale t.rows.now

-- it tells how far the rows of each task reach
pub record HasReaches (t : Tail) : Type 0 where
  pub count : length t.reaches.now ≡ length t.set.now.tasks
  pub periods : AreReachesOf t.scale t.set.now.tasks t.reaches.now
  pub ends : HaveEnds t.rows.now t.reaches.now

-- its parts fit to one another
pub record IsTail (t : Tail) : Type 0 where
  pub scale : t.scale ≤ 2 ^ 94
  pub few : length t.rows.now ≤ row_limit
  pub totals : AreTotals t.rows.now t.totals.now
  pub count : length t.totals.now ≡ length t.set.now.tasks
  pub reaches : t.version ≡ Two → HasReaches t

-- there is such a period, and as many lines may stand before it
pub record IsMetPlace (t : Tail) (m : MetPlace) : Type 0 where
  pub version : t.version ≡ Two
  pub task : m.task < length t.set.now.tasks
  pub ended : m.ended ≡ ended_count t.set.now (task_at t.set.now.tasks m.task)
  pub period : m.period < m.ended
  pub before : m.before ≤ most_mets
  pub reached : (none : TaskReach) → m.reached ≡ reach_to t.rows.now m.task (slice_index_or t.reaches.now m.task none) m.period

-- there is such a place
abbrev pub IsPlace : Tail → Place → Type 0
IsPlace t (places.Total j) = j < length t.set.now.tasks
IsPlace t (places.Met m) = IsMetPlace t m
IsPlace t places.Rows = Unit {0}
IsPlace t places.End = Unit {0}

-- this is expected at a place
abbrev pub ExpectedIs : Tail → Place → Expected → Type 0
ExpectedIs t place (expects.Line line next) = (left_at t place ≡ line ∷ left_at t next) × IsPlace t next
ExpectedIs t place expects.Never = (later : List (List ℕ)) × (left_at t place ≡ [] ∷ later)
ExpectedIs t place expects.Nothing = left_at t place ≡ []

-- bytes that may follow a text: none where it is there as a whole
abbrev pub MayFollow : Bool → List ℕ → Type 0
MayFollow ended behind = ended ≡ true → behind ≡ []

-- the first line of the text, and what follows it
pub record CutsLine (ended : Bool) (text line later : List ℕ) : Type 0 where
  pub split : (gone : List ℕ) × (text ≡ gone ++ later)
  pub less : length later < length text
  pub first : (behind : List ℕ) → MayFollow ended behind → lines_of (text ++ behind) ≡ line ∷ lines_of (later ++ behind)

-- n of the expected lines stand at the front of the text, and then this is left of both
abbrev pub LinesStand : Bool → List (List ℕ) → List ℕ → ℕ → List (List ℕ) → List ℕ → Type 0
LinesStand ended expected text n left rest = (behind : List ℕ) → MayFollow ended behind
    → first_other expected (lines_of (text ++ behind)) ≡ after n (first_other left (lines_of (rest ++ behind)))

-- the first line of the text isn't the one expected
abbrev pub FirstIsOther : Bool → List (List ℕ) → List ℕ → Type 0
FirstIsOther ended expected text = (behind : List ℕ) → MayFollow ended behind → first_other expected (lines_of (text ++ behind)) ≡ Some 0
