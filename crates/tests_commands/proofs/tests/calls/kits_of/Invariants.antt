use Rattle.std.proofs.Common.{Some}
use Rattle.sched_edges.specs.Gates.{GateHeld}
use Rattle.run_tool.specs.Executions.{gates_of}
use Rattle.run_tool.specs.Ready.{AreFirstGates}
use Rattle.tests_commands.proofs.tests.calls.kits_of.Given as goal

abbrev pub invariant-loop-p : goal.invariant-loop-p
invariant-loop-p g l = AreFirstGates l.p (gates_of (λ (g : GateHeld). Some g.ran) (λ (g : GateHeld). g.faults) l.kits.items)
