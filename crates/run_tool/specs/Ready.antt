-- Gates and jobs on their way to a run: as many of them as have been made.
use Rattle.std.specs.Prelude.{ℕ, ◌≡◌, ◌<◌, List, [], Option, IfSome, length}
use Rattle.run_tool.specs.Executions.{GateSeen, JobSeen, Holds}

-- the kits hold a gate for each of the first n processors and no other, and none has run a row yet where it tells its rows
pub record AreFirstGates (n : ℕ) (gates : List (Option GateSeen)) : Type 0 where
  pub count : length gates ≡ n
  pub unrun : (p : ℕ) → p < n → (g : GateSeen) × Holds gates p g × IfSome g.ran (λ rows. rows ≡ [])

-- the places hold a job for each of the first n tasks and no other, and none has worked a tick yet
pub record AreFirstJobs (n : ℕ) (jobs : List (Option JobSeen)) : Type 0 where
  pub count : length jobs ≡ n
  pub unused : (i : ℕ) → i < n → (j : JobSeen) × Holds jobs i j × (j.id ≡ i) × (j.used ≡ 0)
