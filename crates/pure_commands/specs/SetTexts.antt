-- The texts of a set that fits, and which bytes are refused where one is wanted.
use Rattle.std.specs.Prelude.{◌≡◌, ◌≢◌, ℕ, ◌+◌, ◌*◌, ◌/◌, ◌^◌, ◌≤◌, ◌<◌, ◌||◌, not, nat_eq, Bool, false}
use Rattle.std.specs.Prelude.{if◌then◌else◌, List, map, Ok, Err}
use Rattle.std.specs.List.{AllByRecursion, list_any}
use Rattle.sched_base.specs.declared.sets.Task.{Task}
use Rattle.sched_base.specs.Sets.{SetContents}
use Rattle.sched_base.specs.Scale.{IsScale, PassesAt, total_of, room_of, Fits}
use Rattle.task_reader.specs.Reading.{set_read_from}
use Rattle.pure_commands.specs.declared.refusal.Refusal.{Refusal}
use Rattle.pure_commands.specs.declared.refusal.Refusal.TheVariants.{BadSet, Overload, ScaleTooLarge, TooLong, TooWide, NoRepeat, WideRepeat}
use Rattle.sched_base.specs.Valid.{IsValid}
use Rattle.run_tree.specs.Compiled.{tree_of}
use Rattle.run_tree.specs.TreeOfSet.{IsTreeOf}
use Rattle.run_tree.specs.Plans.{PlanContents, schedule_of, rounds_of, stop_of}
use Rattle.sched_base.specs.declared.rows.Row.{Row}
use Rattle.sched_base.specs.Tables.{all_rows, row_limit}
use Rattle.repeat_laws.specs.Repeats.{CanRepeat, ComesAgain, IsFirstTask, repeat_unit, up_to}
use Rattle.sched_base.specs.Lanes.{lanes_of}
use Rattle.trace_format.specs.declared.versions.Version.{Version}
use Rattle.trace_format.specs.declared.versions.Version.TheVariants.{One, Two}
use Rattle.merged_rows.specs.Merging.{merged, merged_lanes}
use Rattle.trace_format.specs.Text.{trace_text}
use Rattle.table_text.specs.Steps.{AreWhole, step_of}
use Rattle.table_text.specs.Table.{table_text}
use Rattle.tree_text.specs.Text.{tree_text}
use Rattle.wrap_sched.specs.Wrapped.{wrapped, wrapped_rounds}
use Rattle.pure_commands.specs.RateText.{rate_text}
use Rattle.exit_status.specs.declared.Status.{Status}
use Rattle.exit_status.specs.declared.Status.TheVariants.{Done}

-- a text of a set that fits: its rates, its tree, its schedule, with or without when each period was done, its wrapped schedule, or its
-- schedule as C source; or such a text of the set up to the least horizon at which its schedule repeats
pub data SetText : Type 0 where
  rates : SetText
  server_tree : SetText
  schedule_rows : Bool → SetText
  wrapped_rows : SetText
  c_table : SetText
  repeating : SetText → SetText

-- the bytes are this set, with this scale within 2 ^ 94
pub record ReadsSet (bytes : List ℕ) (s : SetContents) (scale : ℕ) : Type 0 where
  pub read : set_read_from bytes ≡ Ok s
  pub is_scale : IsScale s.tasks scale
  pub within : scale ≤ 2 ^ 94

-- the plan of a set that fits, with this scale
abbrev pub plan_of : SetContents → ℕ → PlanContents
plan_of s scale = record { set = s; tree = tree_of scale s }

-- whether some task is first released late
abbrev pub some_late : List Task → Bool
some_late tasks = list_any (λ t. not (nat_eq t.offset 0)) tasks

-- the version of a trace text: the second where it was asked for, or some offset isn't 0
abbrev pub version_of : Bool → List Task → Version
version_of met tasks = if met || some_late tasks then Two else One

-- the trace text of the schedule of a plan in this version, each processor's rows merged
abbrev pub schedule_text : Version → PlanContents → List ℕ
schedule_text version p = trace_text version p.set p.tree.scale (merged_lanes (lanes_of p.tree.processors (schedule_of p)))

-- the schedule of a set with this scale repeats: no task has an offset, and the scale is the horizon of a set, in units
pub record Repeats (s : SetContents) (scale : ℕ) : Type 0 where
  pub no_offset : AllByRecursion (λ t. t.offset ≡ 0) s.tasks
  pub horizon_fits : scale < 2 ^ 32

-- the rows of each processor in the schedule of a plan, merged
abbrev pub plan_lanes : PlanContents → List (List Row)
plan_lanes p = map merged (lanes_of p.tree.processors (schedule_of p))

-- the schedule of a plan as C source, each processor's rows merged, and told from where on they come again
abbrev pub plan_table : PlanContents → List ℕ
plan_table p = table_text p.set p.tree.scale (plan_lanes p) (repeat_unit p.set p.tree.scale (all_rows (plan_lanes p)))

-- the text of a set that fits, with this scale; the rows of each processor are merged in the wrapped schedule too
abbrev pub text_of : SetText → SetContents → ℕ → List ℕ
text_of rates s scale = rate_text scale s
text_of server_tree s scale = tree_text (plan_of s scale)
text_of (schedule_rows met) s scale = schedule_text (version_of met s.tasks) (plan_of s scale)
text_of wrapped_rows s scale = trace_text (version_of false s.tasks) s scale (merged_lanes (lanes_of s.processors (wrapped scale s)))
text_of c_table s scale = plan_table (plan_of s scale)
text_of (repeating what) s scale = text_of what (up_to scale s) scale

-- how many rows the schedule of a plan has, one for each processor and round
abbrev pub rows_of : PlanContents → ℕ
rows_of p = rounds_of p * p.tree.processors

-- a schedule wants this many rows, which is past the limit, and `rows` is the least multiple of the processors above that
abbrev pub HasTooMany : ℕ → ℕ → ℕ → Type 0
HasTooMany wanted processors rows = (row_limit < wanted) × (rows ≡ (row_limit / processors + 1) * processors)

-- a set that fits has this text: a schedule that is told has at most 2,097,152 rows, and in C its ticks are below 2 ^ 64; one up to the
-- least horizon at which it repeats has such a horizon
abbrev pub HasRoom : SetText → SetContents → ℕ → Type 0
HasRoom rates s scale = Unit {0}
HasRoom server_tree s scale = Unit {0}
HasRoom (schedule_rows met) s scale = rows_of (plan_of s scale) ≤ row_limit
HasRoom wrapped_rows s scale = wrapped_rounds scale s * s.processors ≤ row_limit
HasRoom c_table s scale = (stop_of (plan_of s scale) < 2 ^ 64) × (rows_of (plan_of s scale) ≤ row_limit)
HasRoom (repeating what) s scale = Repeats s scale × HasRoom what (up_to scale s) scale

-- the rows of the table of a set that fits, with this scale
abbrev pub table_rows : SetContents → ℕ → List Row
table_rows s scale = all_rows (plan_lanes (plan_of s scale))

-- what is so of the table of a set that fits: its schedule is valid, times the step the numbers of its rows are their ticks, and from the
-- unit that it tells, where that is before the horizon, its rows can be repeated for ever
pub record IsSoundTable (s : SetContents) (scale : ℕ) : Type 0 where
  pub valid : IsValid s scale (s.horizon * scale) (s.horizon * scale) (schedule_of (plan_of s scale))
  pub whole : AreWhole (step_of (s.horizon * scale) (table_rows s scale)) (table_rows s scale)
  pub again : repeat_unit s scale (table_rows s scale) < s.horizon → ComesAgain s scale (repeat_unit s scale (table_rows s scale)) (table_rows s scale)

-- what is so of the text of a set that fits: its tree is a reduction tree of it, its schedules are valid, and up to the least horizon at which
-- they repeat they do
abbrev pub IsSound : SetText → SetContents → ℕ → Type 0
IsSound rates s scale = Unit {0}
IsSound server_tree s scale = IsTreeOf s (tree_of scale s)
IsSound (schedule_rows met) s scale = IsValid s scale (s.horizon * scale) (s.horizon * scale) (schedule_of (plan_of s scale))
IsSound wrapped_rows s scale = IsValid s scale (s.horizon * scale) (s.horizon * scale) (wrapped scale s)
IsSound c_table s scale = IsSoundTable s scale
IsSound (repeating what) s scale = CanRepeat (up_to scale s) × IsSound what (up_to scale s) scale

-- the text of a set that fits is written for these bytes, and what it tells of the set is sound
abbrev pub WritesSoundly : SetText → List ℕ → Status → List ℕ → Type 0
WritesSoundly what bytes status text =
    (status ≡ Done) × ((s : SetContents) × (scale : ℕ) × ReadsSet bytes s scale × Fits scale s × HasRoom what s scale
    × (text ≡ text_of what s scale) × IsSound what s scale)

-- the set fits, with this scale
pub record IsSchedulable (s : SetContents) (scale : ℕ) : Type 0 where
  pub is_scale : IsScale s.tasks scale
  pub within : scale ≤ 2 ^ 94
  pub fits : Fits scale s

-- why a set doesn't fit
abbrev pub IsUnfit : SetContents → Refusal → Type 0
IsUnfit s (ScaleTooLarge task) = PassesAt (2 ^ 94) s.tasks task
IsUnfit s (Overload total room) =
    (scale : ℕ) × IsScale s.tasks scale × (scale ≤ 2 ^ 94) × (room < total) × (total ≡ total_of scale s.tasks) × (room ≡ room_of scale s)
IsUnfit s _ = ⊥

-- the set fits, and doesn't have this text for its many rows; in C there may be none for its many ticks, and then it isn't for its rows
abbrev pub IsTooLongSet : SetText → SetContents → ℕ → Type 0
IsTooLongSet rates s rows = ⊥
IsTooLongSet server_tree s rows = ⊥
IsTooLongSet (schedule_rows met) s rows =
    (scale : ℕ) × IsSchedulable s scale × HasTooMany (rows_of (plan_of s scale)) (plan_of s scale).tree.processors rows
IsTooLongSet wrapped_rows s rows = (scale : ℕ) × IsSchedulable s scale × HasTooMany (wrapped_rounds scale s * s.processors) s.processors rows
IsTooLongSet c_table s rows =
    ((scale : ℕ) × IsSchedulable s scale × (stop_of (plan_of s scale) < 2 ^ 64))
    × ((scale : ℕ) × IsSchedulable s scale × HasTooMany (rows_of (plan_of s scale)) (plan_of s scale).tree.processors rows)
IsTooLongSet (repeating what) s rows = (scale : ℕ) × IsSchedulable s scale × Repeats s scale × IsTooLongSet what (up_to scale s) rows

-- the set fits, and doesn't have this text for its many ticks, 2 ^ 64 or more
abbrev pub IsTooWideSet : SetText → SetContents → ℕ → Type 0
IsTooWideSet c_table s ticks = (scale : ℕ) × IsSchedulable s scale × (2 ^ 64 ≤ ticks) × (ticks ≡ stop_of (plan_of s scale))
IsTooWideSet (repeating what) s ticks = (scale : ℕ) × IsSchedulable s scale × Repeats s scale × IsTooWideSet what (up_to scale s) ticks
IsTooWideSet _ s ticks = ⊥

-- the set fits, and its schedule doesn't repeat: this task is the first with an offset, or it would after so many units, which no set has
abbrev pub IsUnrepeated : SetContents → Refusal → Type 0
IsUnrepeated s (NoRepeat task) = (scale : ℕ) × IsSchedulable s scale × IsFirstTask (λ t. t.offset ≢ 0) s.tasks task
IsUnrepeated s (WideRepeat units) = IsSchedulable s units × AllByRecursion (λ t. t.offset ≡ 0) s.tasks × (2 ^ 32 ≤ units)
IsUnrepeated s _ = ⊥

-- the set fits, and has no such text, since its schedule doesn't repeat
abbrev pub LacksRepeat : SetText → SetContents → Refusal → Type 0
LacksRepeat (repeating what) s refusal = IsUnrepeated s refusal
LacksRepeat _ s refusal = ⊥

-- why a set doesn't have this text
abbrev pub LacksText : SetText → SetContents → Refusal → Type 0
LacksText what s (TooLong rows) = IsTooLongSet what s rows
LacksText what s (TooWide ticks) = IsTooWideSet what s ticks
LacksText what s (NoRepeat task) = LacksRepeat what s (NoRepeat task)
LacksText what s (WideRepeat units) = LacksRepeat what s (WideRepeat units)
LacksText what s refusal = IsUnfit s refusal

-- these bytes are refused where this text of a set is wanted
abbrev pub RefusesText : SetText → List ℕ → Refusal → Type 0
RefusesText what bytes (BadSet refusal) = set_read_from bytes ≡ Err refusal
RefusesText what bytes refusal = (s : SetContents) × (set_read_from bytes ≡ Ok s) × LacksText what s refusal
