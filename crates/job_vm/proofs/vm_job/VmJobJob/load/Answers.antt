use Rattle.std.proofs.Common.{◌∙◌}
use Rattle.job_vm.proofs.MachineLemmas.{alone_start}
use Rattle.job_vm.proofs.vm_job.VmJobJob.load.Goals as goal

pub invariant_of-self-2 : goal.invariant_of-self-2
invariant_of-self-2 c = (c.requires.low, c.new-self-inside.ensures ∙ alone_start c.extend_from_slice.new.self.items c.args.scale)
