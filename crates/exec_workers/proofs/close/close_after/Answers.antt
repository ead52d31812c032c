use Rattle.std.proofs.Common.{sym, subst}
use Rattle.exec_workers.specs.Fronts.{StaysWithin}
use Rattle.locked_book.specs.Found.{IsClosableAfter}
use Rattle.exec_workers.proofs.CloseLemmas.{due_by_counts}
use Rattle.exec_workers.proofs.close.close_after.Goals as goal
use Rattle.exec_workers.proofs.close.close_after.Goals.{After-deref_mut-held}

found : (g : _) (c : After-deref_mut-held g) → IsClosableAfter g.J.Job.faults c.args.work.now.plan.now c.args.window c.deref_mut-held.result.now
    c.args.lanes.now c.args.posted.now c.args.counts.now
found g c =
    subst (λ b. IsClosableAfter g.J.Job.faults c.args.work.now.plan.now c.args.window b c.args.lanes.now c.args.posted.now c.args.counts.now)
    (sym c.deref_mut-held.ensures.value) c.lock_closable_after-guard.ensures

pub lock_closable_after-guard-requires-clause-agreed : goal.lock_closable_after-guard-requires-clause-agreed
lock_closable_after-guard-requires-clause-agreed g c = c.agree.ensures

pub lock_closable_after-guard-requires-clause-width : goal.lock_closable_after-guard-requires-clause-width
lock_closable_after-guard-requires-clause-width g c = c.requires.width

pub lock_closable_after-guard-requires-clause-lanes : goal.lock_closable_after-guard-requires-clause-lanes
lock_closable_after-guard-requires-clause-lanes g c = c.requires.lanes

pub lock_closable_after-guard-requires-clause-counts : goal.lock_closable_after-guard-requires-clause-counts
lock_closable_after-guard-requires-clause-counts g c = c.requires.counts

pub dismiss-requires : goal.dismiss-requires
dismiss-requires g c = (found g (goal.at.dismiss-requires g c).After-deref_mut-held).closable

pub returns-clause-closes : goal.returns-clause-closes
returns-clause-closes g c = c.dismiss.ensures.closes

pub returns-clause-within : goal.returns-clause-within
returns-clause-within g c =
    subst (λ w. StaysWithin w c.args.posted.now) (found g (goal.at.returns-clause-within g c).After-deref_mut-held).window_is c.dismiss.ensures.within

pub returns-clause-due : goal.returns-clause-due
returns-clause-due g c =
    let here = found g (goal.at.returns-clause-due g c).After-deref_mut-held in
    let whole = here.closable.whole in
    due_by_counts _ _ _ _ c.deref_mut-held.result.now.state c.args.lanes.now _ whole.plan here.window_is whole.counts here.due
