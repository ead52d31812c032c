use Rattle.std.proofs.Common.{◌++◌, ◌∷◌, [], None, ap, ◌∙◌, subst, arith}
use Rattle.run_tool.specs.Executions.{gates_of}
use Rattle.run_tool.specs.Ready.{AreFirstGates}
use Rattle.run_tool.proofs.ReadyLemmas.{no_gates, more_gates}
use Rattle.furnacelime.proofs.all_kits.Goals as goal

pub loop-init : goal.loop-init
loop-init c = no_gates _ _ _ c.new-kits.ensures.items

pub loop-preserved : goal.loop-preserved
loop-preserved c =
    more_gates _ _ c.loop.counter _ _ _ c.loop.invariant (c.in_ok-push.ensures.items ∙ ap (λ kit. c.loop.kits.items ++ kit ∷ []) c.new-in-loop.ensures) tt

pub returns : goal.returns
returns c =
    let past = c.loop-test.false in
    let within = c.loop.auto.counter-end in
    subst (λ n. AreFirstGates n (gates_of (λ _. None) (λ _. 0) c.loop.kits.items)) (omega (arith, past, within)) c.loop.invariant
