-- The text that tells what the jobs of a set have computed.
use Rattle.std.specs.Prelude.{ℕ, ◌/◌, List, [], ◌∷◌, ◌++◌, length, map, codes, decimal, slice_get, Option, Some, None, option_and_then}
use Rattle.std.specs.List.{flat_map, range_with_len}
use Rattle.sched_base.specs.declared.sets.Task.{Task}
use Rattle.sched_base.specs.Sets.{task_at}
use Rattle.sched_edges.specs.Jobs.{computed}
use Rattle.sched_edges.specs.Lines.{line_of, word_line}
use Rattle.job_vm.specs.Seen.{JobSeen}

-- what is told of a task: its whole units, and the nine numbers that its job has computed
pub record Told : Type 0 where
  pub units : ℕ
  pub numbers : List ℕ

-- what is told of a job in units of so many ticks
abbrev pub told_of : ℕ → JobSeen → Told
told_of scale job = record { units = job.used / scale; numbers = computed job.made job.used }

-- what is told of the job in place i; of an empty place nothing, which is never asked for
abbrev pub told_at : ℕ → List (Option JobSeen) → ℕ → Told
told_at scale jobs i =
    elim (option_and_then (λ (place : Option JobSeen). place) (slice_get jobs i)) [
      | Some job ↦ told_of scale job
      | None ↦ record { units = 0; numbers = [] }
    ]

-- the line of a task of this name: its units, and the nine numbers
unfoldable pub job_line : List ℕ → Told → List ℕ
job_line name told = line_of (codes "job") (name ∷ (decimal told.units ∷ map decimal told.numbers))

-- the text of these tasks, by what is told of each
unfoldable pub jobs_text : (ℕ → Told) → List Task → List ℕ
jobs_text told tasks =
    word_line (codes "run-jobs 1") ++ flat_map (λ i. job_line (task_at tasks i).name (told i)) (range_with_len 0 (length tasks))
