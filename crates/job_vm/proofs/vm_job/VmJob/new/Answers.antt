use Rattle.std.proofs.Common.{◌∙◌, arith}
use Rattle.job_vm.proofs.MachineLemmas.{alone_start}
use Rattle.job_vm.proofs.vm_job.VmJob.new.Goals as goal

pub invariant_of-result : goal.invariant_of-result
invariant_of-result c = (omega arith, c.new-2.ensures ∙ alone_start c.new.result.items 1)
