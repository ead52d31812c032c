use Rattle.std.proofs.Common.{◌≡◌}
use Rattle.sched_edges.specs.JobMachine.{alone}
use Rattle.job_vm.proofs.vm.Vm.run.Given as goal

abbrev pub invariant-loop-step : goal.invariant-loop-step
invariant-loop-step l = l.self ≡ alone l.code l._step
