use Rattle.std.proofs.Common.{subst}
use Rattle.locked_book.specs.Found.{IsOutWith}
use Rattle.locked_book.proofs.rows.lock_out_at.Goals as goal

pub is_out_at-requires : goal.is_out_at-requires
is_out_at-requires g c = record { agreed = c.requires.agreed }

pub is_job_of-requires-clause-out : goal.is_job_of-requires-clause-out
is_job_of-requires-clause-out g c = rw c.lane.ensures (c.is_out_at.ensures c.if-is_out_at.true).out

pub is_job_of-requires-clause-agrees : goal.is_job_of-requires-clause-agrees
is_job_of-requires-clause-agrees g c = c.requires.agrees

pub returns-then-is_job_of : goal.returns-then-is_job_of
returns-then-is_job_of g c =
    subst (λ b. IsOutWith g.J.Job.id g.J.Job.used g.J.Job.made g.Q.PostLedger.made c.args.work.now.plan.now b c.args.seat.now c.args.row.now c.args.job.now
    c.args.ticks) c.deref-held.ensures
    (record { found = c.is_out_at.ensures c.if-is_out_at.true; own = c.is_job_of.ensures c.if-is_job_of.true })
