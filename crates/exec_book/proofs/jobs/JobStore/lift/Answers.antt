use Rattle.std.proofs.Common.{None, ap, sym}
use Rattle.exec_book.proofs.JobLemmas.{without_job, was_none}
use Rattle.exec_book.proofs.jobs.JobStore.lift.Goals as goal

pub returns-in_default : goal.returns-in_default
returns-in_default g c = record {
  store = ap (λ jobs. record { jobs = jobs; handed = c.args.self.now.handed }) (sym (without_job c.args.self.now.jobs c.args.leaf None c.in_default.not-Task));
  job = was_none c.args.self.now.jobs.places c.args.leaf c.in_default.not-Task;
}

pub lift-job-requires : goal.lift-job-requires
lift-job-requires g c = rw (← c.self.view_is) at (c.requires.there c.in-Task.task c.in-Task.is)
