use Rattle.std.proofs.Common.{◌≡◌, ◌<◌, ℕ, [], length, take}
use Rattle.sched_edges.specs.Jobs.{JobAt}
use Rattle.job_vm.specs.Loading.{loaded}
use Rattle.job_vm.specs.Seen.{seen}
use Rattle.mode_switch.proofs.running.begin_anew.Given as goal

abbrev pub invariant-loop-t : goal.invariant-loop-t
invariant-loop-t g l = record {
  there : (i : ℕ) → i < length l.set.tasks → (job : g.row.J.Denot) × JobAt l.jobs.places i job;
  begun : seen g.J.Job l.jobs.places ≡ loaded 1 [] (take l.t l.set.tasks) (seen g.J.Job l.fn.jobs.places);
}
