use Rattle.std.proofs.Common.{◌≡◌, ◌<◌, ℕ, Some}
use Rattle.std.specs.Prelude.{slice_get}
use Rattle.sched_edges.specs.Jobs.{JobAt}
use Rattle.sched_edges.proofs.job_list.JobList.faults_are.Given as goal

abbrev pub invariant-loop-i : goal.invariant-loop-i
invariant-loop-i g l = (i count : ℕ) (job : g.row.J.Denot) → i < l.i → JobAt l.self.places i job → slice_get l.counts i ≡ Some count →
    g.J.Job.faults job ≡ count
