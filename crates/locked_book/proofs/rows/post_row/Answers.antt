use Rattle.std.proofs.Common.{sym, subst}
use Rattle.locked_book.specs.Found.{IsAgreed, IsOutWith}
use Rattle.locked_book.proofs.LookLemmas.{out_on, seat_of, worked_job}
use Rattle.locked_book.proofs.rows.post_row.Goals as goal
use Rattle.locked_book.proofs.rows.post_row.Goals.{After-deref_mut-held}

found : (g : _) (c : After-deref_mut-held g) → IsOutWith g.J.Job.id g.J.Job.used g.J.Job.made g.Q.PostLedger.made c.alone-work.result.plan.now
    c.deref_mut-held.result.now c.args.seat.now c.args.row.now c.args.job c.ticks_of.result
found g c = subst (λ b. IsOutWith g.J.Job.id g.J.Job.used g.J.Job.made g.Q.PostLedger.made c.alone-work.result.plan.now b c.args.seat.now c.args.row.now
    c.args.job c.ticks_of.result) (sym c.deref_mut-held.ensures.value) c.lock_out_at-guard.ensures

pub lock_out_at-guard-requires-clause-agreed : goal.lock_out_at-guard-requires-clause-agreed
lock_out_at-guard-requires-clause-agreed g c = subst (λ p. IsAgreed p g.Q.PostLedger.set) (sym c.alone-work.ensures.plan) c.alone-work.ensures.agreed

pub lock_out_at-guard-requires-clause-agrees : goal.lock_out_at-guard-requires-clause-agrees
lock_out_at-guard-requires-clause-agrees g c = c.requires.agrees

pub post-requires-clause-out : goal.post-requires-clause-out
post-requires-clause-out g c = out_on _ _ _ _ _ _ _ _ _ _ _ (found g (goal.at.post-requires-clause-out g c).After-deref_mut-held) c.lane-lane.ensures

pub post-requires-clause-seat : goal.post-requires-clause-seat
post-requires-clause-seat g c = seat_of _ _ _ _ _ _ _ _ _ _ _ (found g (goal.at.post-requires-clause-seat g c).After-deref_mut-held) c.lane-lane.ensures

pub post-requires-clause-job : goal.post-requires-clause-job
post-requires-clause-job g c = worked_job _ _ _ _ _ _ _ _ _ _ _ (found g (goal.at.post-requires-clause-job g c).After-deref_mut-held) c.lane-lane.ensures
    c.ticks_of.ensures

pub returns : goal.returns
returns g c = c.post.ensures.seat
