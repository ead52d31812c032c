use Rattle.std.proofs.Common.{◌/◌, ◌∙◌, sym}
use Rattle.std.proofs.lemmas.Bool.{eqb-true}
use Rattle.job_vm.proofs.MachineLemmas.{alone_none}
use Rattle.job_vm.proofs.vm_job.work_on.Goals as goal

pub returns-else-not-is_empty : goal.returns-else-not-is_empty
returns-else-not-is_empty c = c.requires.at ∙ alone_none c.args.code.now (c.args.from / c.args.scale) (c.args.to / c.args.scale)
    (eqb-true _ _ (sym c.if-not-is_empty.ensures))
