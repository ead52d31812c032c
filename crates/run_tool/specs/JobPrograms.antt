-- What `jobs` writes, and which bytes it refuses and why.
use Rattle.std.specs.Prelude.{ℕ, ◌≡◌, ◌⊎◌, ◌/◌, false, List, drop, slice_get, Option, Some, None, option_and_then, Ok, Err}
use Rattle.sched_base.specs.Sets.{SetContents, task_at}
use Rattle.sched_base.specs.Scale.{Fits}
use Rattle.sched_base.specs.Tables.{all_rows, ticks_in}
use Rattle.sched_edges.specs.Jobs.{reloaded, computed}
use Rattle.run_tree.specs.Plans.{PlanContents}
use Rattle.plan_rounds.specs.PlanRows.{plan_rows}
use Rattle.task_reader.specs.Reading.{set_read_from}
use Rattle.job_vm.specs.Programs.{Program, JobTextHeld, reading}
use Rattle.job_vm.specs.Strays.{first_stray}
use Rattle.job_vm.specs.Loading.{code_of}
use Rattle.job_vm.specs.Results.{Told, jobs_text}
use Rattle.job_vm.specs.Seen.{JobSeen}
use Rattle.pure_commands.specs.declared.refusal.Refusal.{Refusal}
use Rattle.pure_commands.specs.declared.refusal.Refusal.TheVariants.{BadProgram, BadSet}
use Rattle.pure_commands.specs.SetTexts.{schedule_rows, ReadsSet, HasRoom, RefusesText}

-- the bytes behind the line `tasks`, where the set stands
abbrev pub set_bytes : JobTextHeld → List ℕ → List ℕ
set_bytes text bytes = drop text.set_start bytes

-- the bytes are this job text, with this set behind it, and each of its programs is that of a task of the set
pub record ReadsJobs (bytes : List ℕ) (text : JobTextHeld) (s : SetContents) : Type 0 where
  pub read : reading bytes ≡ Ok text
  pub set : set_read_from (set_bytes text bytes) ≡ Ok s
  pub named : first_stray s.tasks text.programs ≡ None

-- the bytes are this job text, with this set behind it, which fits with this scale, and whose schedule has room
pub record IsJobsToRun (bytes : List ℕ) (text : JobTextHeld) (s : SetContents) (scale : ℕ) : Type 0 where
  pub reads : ReadsJobs bytes text s
  pub scaled : ReadsSet (set_bytes text bytes) s scale
  pub fits : Fits scale s
  pub room : HasRoom (schedule_rows false) s scale

-- the job in place i has worked the ticks of task i's rows, and has computed in them what its task's program computes alone in as
-- many whole units. Where it has no program, it tells zeros
abbrev pub told_of_task : List Program → PlanContents → List (Option JobSeen) → ℕ → Told
told_of_task programs p jobs i =
    let ticks = ticks_in i (all_rows (plan_rows p)) in
    let job = option_and_then (λ (place : Option JobSeen). place) (slice_get jobs i) in
    let made = reloaded (option_and_then (λ (j : JobSeen). j.made) job) p.tree.scale (code_of programs (task_at p.set.tasks i).name) in
    record { units = ticks / p.tree.scale; numbers = computed made ticks }

-- the text of a plan, where the jobs were these before
abbrev pub result_text : JobTextHeld → PlanContents → List (Option JobSeen) → List ℕ
result_text text p jobs = jobs_text (told_of_task text.programs p jobs) p.set.tasks

-- the bytes are no job text, at this line, or are one with a program of no task, which this line begins
abbrev pub HasBadProgram : List ℕ → ℕ → Type 0
HasBadProgram bytes line =
    (reading bytes ≡ Err line)
    ⊎ ((text : JobTextHeld) × (s : SetContents) × (reading bytes ≡ Ok text) × (set_read_from (set_bytes text bytes) ≡ Ok s)
    × (first_stray s.tasks text.programs ≡ Some line))

-- these bytes are refused where a job text is wanted: for a program, for what stands behind the programs, or for their set
abbrev pub RefusesJobs : List ℕ → Refusal → Type 0
RefusesJobs bytes (BadProgram line) = HasBadProgram bytes line
RefusesJobs bytes (BadSet refusal) = (text : JobTextHeld) × (reading bytes ≡ Ok text) × (set_read_from (set_bytes text bytes) ≡ Err refusal)
RefusesJobs bytes refusal =
    (text : JobTextHeld) × (s : SetContents) × ReadsJobs bytes text s × RefusesText (schedule_rows false) (set_bytes text bytes) refusal
