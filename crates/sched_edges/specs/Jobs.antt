-- What a job is made of, jobs in their places, and what the jobs for tests hold.
use Rattle.std.specs.Prelude.{ℕ, ◌≡◌, ◌/◌, List, replicate, slice_get}
use Rattle.std.specs.declared.option.Option.{Option}
use Rattle.std.specs.declared.option.Option.TheVariants.{None, Some}
use Rattle.sched_edges.specs.JobMachine.{alone, numbers}

-- what a job is made of once this scale and this program are loaded: a job without a program stays so
abbrev pub reloaded : Option (ℕ × List ℕ) → ℕ → List ℕ → Option (ℕ × List ℕ)
reloaded None scale code = None
reloaded (Some made) scale code = Some (scale, code)

-- the nine numbers that a job has computed in so many ticks: those of its program alone after the whole units, of scale many
-- ticks each; zeros where it has no program
abbrev pub computed : Option (ℕ × List ℕ) → ℕ → List ℕ
computed None ticks = replicate 9 0
computed (Some (scale, code)) ticks = numbers (alone code (ticks / scale))

-- the places of a list of jobs, each with its job or empty, and for how many more places there is room
pub record JobPlaces (J : Type 0) : Type 0 where
  pub places : List (Option J)
  pub room : ℕ

-- this job is in place i
abbrev pub JobAt : {J : Type 0} → List (Option J) → ℕ → J → Type 0
JobAt places i job = slice_get places i ≡ Some (Some job)

-- each job that is there and has a given count of faults tells that count
abbrev pub FaultsAre : {J : Type 0} → (J → ℕ) → List (Option J) → List ℕ → Type 0
FaultsAre {J} faults places counts = (i count : ℕ) (job : J) → JobAt places i job → slice_get counts i ≡ Some count → faults job ≡ count

-- what a job that counts holds
pub record CountHeld : Type 0 where
  pub id : ℕ
  pub used : ℕ

-- what a job that fails at stated calls holds
pub record FailHeld : Type 0 where
  pub id : ℕ
  pub used : ℕ
  -- the numbers of the calls that fail
  pub fails : List ℕ
  -- the calls made so far
  pub calls : ℕ
  pub faults : ℕ
