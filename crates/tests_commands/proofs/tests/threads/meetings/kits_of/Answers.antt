use Rattle.std.proofs.Common.{◌++◌, ◌∷◌, [], None, ap, ◌∙◌, subst, arith}
use Rattle.run_tool.specs.Executions.{gates_of}
use Rattle.run_tool.specs.Ready.{AreFirstGates}
use Rattle.run_tool.proofs.ReadyLemmas.{no_gates, more_gates}
use Rattle.tests_commands.proofs.tests.threads.meetings.kits_of.Goals as goal

pub loop-p-init : goal.loop-p-init
loop-p-init g c = no_gates _ _ _ c.new-kits.ensures.items

pub loop-p-preserved : goal.loop-p-preserved
loop-p-preserved g c =
    let pushed = rw c.expect.ensures at c.push.ensures.items in
    more_gates _ _ c.loop-p.p _ _ _ c.loop-p.invariant (pushed ∙ ap (λ kit. c.loop-p.kits.items ++ kit ∷ []) c.new.ensures) tt

pub returns : goal.returns
returns g c =
    let past = c.loop-p-test.false in
    let within = c.loop-p.auto.p-end in
    subst (λ n. AreFirstGates n (gates_of (λ _. None) (λ n. n) c.loop-p.kits.items)) (omega (arith, past, within)) c.loop-p.invariant
