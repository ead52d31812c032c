-- What contracts see of jobs in their places.
use Rattle.std.specs.Prelude.{ℕ, List, Option, option_map, map}
use Rattle.sched_edges.specs.declared.jobs.Job.{Ghosts as JobTells}

-- what contracts see of a job: whose it is, the ticks that it has worked, how often it has failed, and the scale and the words of
-- its program, where it has one
pub record JobSeen : Type 0 where
  pub id : ℕ
  pub used : ℕ
  pub faults : ℕ
  pub made : Option (ℕ × List ℕ)

-- what a job tells
abbrev pub job_seen : {J : Type 0} → (J → ℕ) → (J → ℕ) → (J → ℕ) → (J → Option (ℕ × List ℕ)) → J → JobSeen
job_seen id used faults made job = record { id = id job; used = used job; faults = faults job; made = made job }

-- what the jobs in these places tell
abbrev pub jobs_of : {J : Type 0} → (J → ℕ) → (J → ℕ) → (J → ℕ) → (J → Option (ℕ × List ℕ)) → List (Option J) → List (Option JobSeen)
jobs_of id used faults made places = map (option_map (job_seen id used faults made)) places

-- the same, by what jobs tell
abbrev pub seen : {J : Type 0} → JobTells J → List (Option J) → List (Option JobSeen)
seen tells places = jobs_of tells.id tells.used tells.faults tells.made places
