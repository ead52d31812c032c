use Rattle.std.proofs.Common.{◌≡◌, ◌<◌, ℕ, length, take}
use Rattle.sched_edges.specs.Jobs.{JobAt}
use Rattle.job_vm.specs.Loading.{loaded}
use Rattle.job_vm.specs.Seen.{seen}
use Rattle.job_vm.proofs.loading.load_programs.Given as goal

abbrev pub invariant-loop-i : goal.invariant-loop-i
invariant-loop-i g l = record {
  there : (i : ℕ) → i < length l.set.tasks → (job : g.row.J.Denot) × JobAt l.jobs.places i job;
  loaded : seen g.J.Job l.jobs.places ≡ loaded l.scale l.text.programs (take l.i l.set.tasks) (seen g.J.Job l.fn.jobs.places);
  room : l.jobs.room ≡ l.fn.jobs.room;
}
