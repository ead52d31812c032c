use Rattle.std.proofs.Common.{sym, subst}
use Rattle.locked_book.specs.Found.{IsAgreed, IsOutWith}
use Rattle.locked_book.proofs.rows.halt_row.Goals as goal

pub lock_out_at-guard-requires-clause-agreed : goal.lock_out_at-guard-requires-clause-agreed
lock_out_at-guard-requires-clause-agreed g c = subst (λ p. IsAgreed p g.Q.PostLedger.set) (sym c.alone-work.ensures.plan) c.alone-work.ensures.agreed

pub lock_out_at-guard-requires-clause-agrees : goal.lock_out_at-guard-requires-clause-agrees
lock_out_at-guard-requires-clause-agrees g c = c.requires.agrees

pub halt_found-requires : goal.halt_found-requires
halt_found-requires g c = (
  c.alone-work.result.plan.now,
  c.args.row.now,
  subst (λ b. IsOutWith g.J.Job.id g.J.Job.used g.J.Job.made g.Q.PostLedger.made c.alone-work.result.plan.now b c.args.seat.now c.args.row.now c.args.job 0)
      (sym c.deref_mut-held.ensures.value) c.lock_out_at-guard.ensures,
)
