use Rattle.std.proofs.Common.{◌≡◌, ◌≤◌}
use Rattle.std.specs.List.{flat_map, range_with_len}
use Rattle.std.specs.Io.KnownBytes.{Appends}
use Rattle.sched_base.specs.Sets.{task_at}
use Rattle.job_vm.specs.Results.{told_at, job_line}
use Rattle.job_vm.specs.Seen.{seen}
use Rattle.job_vm.proofs.results.write_jobs.Given as goal

abbrev pub invariant-loop-i : goal.invariant-loop-i
invariant-loop-i g l = record {
  wrote : Appends (g.W.Sink.taken l.initial.out) (g.W.Sink.taken l.out)
      (flat_map (λ i. job_line (task_at l.set.tasks i).name (told_at l.scale (seen g.J.Job l.fn.jobs.places) i)) (range_with_len 0 l.i));
  later : g.W.Sink.faults l.initial.out ≤ g.W.Sink.faults l.out;
  same : l.jobs ≡ l.fn.jobs;
}
