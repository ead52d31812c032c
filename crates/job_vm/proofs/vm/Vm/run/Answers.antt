use Rattle.std.proofs.Common.{◌∙◌, sym, ap, arith}
use Rattle.sched_edges.specs.JobMachine.{step}
use Rattle.job_vm.proofs.MachineLemmas.{alone_last, alone_more}
use Rattle.job_vm.proofs.vm.Vm.run.Goals as goal

pub returns-then-counter-before : goal.returns-then-counter-before
returns-then-counter-before c =
    c.step.ensures
    ∙ alone_last c.args.code.now c.loop-step._step c.args.to c.loop-step.self c.loop-step.invariant (omega arith)
    (ap (λ m. m.counter) (sym c.step.ensures) ∙ (sym c.counter.ensures ∙ (c.if-counter-before.true ∙ c.counter-before.ensures)))

pub loop-step-preserved : goal.loop-step-preserved
loop-step-preserved c =
    c.step.ensures ∙ (ap (step c.args.code.now) c.loop-step.invariant ∙ sym (alone_more c.args.code.now c.loop-step._step))
