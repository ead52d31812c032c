use Rattle.std.proofs.Common.{◌∙◌, sym}
use Rattle.job_vm.proofs.MachineLemmas.{step_within, step_past}
use Rattle.job_vm.proofs.vm.Vm.step.Goals as goal

pub returns-then-at-code : goal.returns-then-at-code
returns-then-at-code c = c.obey.ensures ∙ sym (step_within c.args.code.now c.args.self.now c.counter-at.result c.counter-at.ensures c.if-at-code.true)

pub returns-else-at-code : goal.returns-else-at-code
returns-else-at-code c = sym (step_past c.args.code.now c.args.self.now c.counter-at.result c.counter-at.ensures c.if-at-code.false)
