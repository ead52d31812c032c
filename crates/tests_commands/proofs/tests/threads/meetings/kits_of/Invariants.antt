use Rattle.std.proofs.Common.{None}
use Rattle.run_tool.specs.Executions.{gates_of}
use Rattle.run_tool.specs.Ready.{AreFirstGates}
use Rattle.tests_commands.proofs.tests.threads.meetings.kits_of.Given as goal

abbrev pub invariant-loop-p : goal.invariant-loop-p
invariant-loop-p g l = AreFirstGates l.p (gates_of (λ _. None) (λ n. n) l.kits.items)
