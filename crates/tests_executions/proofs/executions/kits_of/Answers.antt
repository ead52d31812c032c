use Rattle.std.proofs.Common.{◌≡◌, []}
use Rattle.sched_edges.specs.Gates.{GateHeld}
use Rattle.tests_executions.proofs.RunLemmas.{ok_of, chosen, no_kits_made, one_more_kit, all_kits_made}
use Rattle.tests_executions.proofs.executions.kits_of.Goals as goal

pub loop-p-init : goal.loop-p-init
loop-p-init g c = no_kits_made _ c.new-kits.ensures.items

pub loop-p-preserved : goal.loop-p-preserved
loop-p-preserved g c =
    one_more_kit c.loop-p.p _ _ _ _ c.loop-p.invariant
    (chosen _ _ c.expect.ensures _ _ _ c.push.ensures.items) c.new-in-loop-p.ensures
    (ok_of _ _ c.expect-gate.ensures (λ (gate : GateHeld). gate.ran ≡ []) c.new.ensures.ran)

pub returns : goal.returns
returns g c = all_kits_made _ _ _ c.loop-p.invariant c.loop-p-test.false
