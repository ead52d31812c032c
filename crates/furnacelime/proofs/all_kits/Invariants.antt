use Rattle.std.proofs.Common.{None}
use Rattle.run_tool.specs.Executions.{gates_of}
use Rattle.run_tool.specs.Ready.{AreFirstGates}
use Rattle.furnacelime.proofs.all_kits.Given as goal

abbrev pub invariant-loop : goal.invariant-loop
invariant-loop l = AreFirstGates l.counter (gates_of (λ _. None) (λ _. 0) l.kits.items)
