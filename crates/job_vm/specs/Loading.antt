-- Loading the programs of a text into the jobs of a set.
use Rattle.std.specs.Prelude.{ℕ, List, [], ◌∷◌, Option, Some, None, option_map}
use Rattle.std.specs.List.{find}
use Rattle.std.specs.Str.{bytes_eq}
use Rattle.sched_base.specs.declared.sets.Task.{Task}
use Rattle.sched_edges.specs.Jobs.{reloaded}
use Rattle.job_vm.specs.Programs.{Program}
use Rattle.job_vm.specs.Seen.{JobSeen}

-- the words of the program of this name; the empty program where there is none
abbrev pub code_of : List Program → List ℕ → List ℕ
code_of programs name = elim (find (λ p. bytes_eq p.name name) programs) [ Some p ↦ p.code | None ↦ [] ]

-- a job that begins anew with this program, in units of so many ticks
abbrev pub anew : ℕ → List ℕ → JobSeen → JobSeen
anew scale code job = record job { used = 0; made = reloaded job.made scale code }

-- the jobs once the programs of these tasks are loaded: job i has that of task i. A job of no task stays as it is
abbrev pub loaded : ℕ → List Program → List Task → List (Option JobSeen) → List (Option JobSeen)
loaded scale programs [] jobs = jobs
loaded scale programs (t ∷ tasks) [] = []
loaded scale programs (t ∷ tasks) (job ∷ jobs) = option_map (anew scale (code_of programs t.name)) job ∷ loaded scale programs tasks jobs
