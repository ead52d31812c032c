use Rattle.std.proofs.Common.{◌≡◌, Some, None, ap, sym, ◌∙◌}
use Rattle.exec_book.proofs.JobLemmas.{without_job}
use Rattle.exec_book.proofs.jobs.JobStore.lay.Goals as goal

pub unreachable-requires : goal.unreachable-requires
unreachable-requires g c =
    let there = (c.requires c.in-Task.task c.in-Task.is).1 in
    let e : None ≡ Some there.0 = sym c.in-None.is ∙ there.1 in
    cc

pub returns-in_default : goal.returns-in_default
returns-in_default g c = ap (λ jobs. record c.args.self.now { jobs = jobs }) (sym (without_job c.args.self.now.jobs c.args.leaf c.args.job
    c.in_default.not-Task))
