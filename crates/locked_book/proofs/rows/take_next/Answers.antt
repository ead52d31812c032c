use Rattle.std.proofs.Common.{false, sym, subst}
use Rattle.exec_book.specs.Looks.{SaysNext}
use Rattle.locked_book.specs.Found.{StandsAt}
use Rattle.locked_book.specs.Promises.{GivesRow}
use Rattle.locked_book.proofs.LookLemmas.{gives_row}
use Rattle.locked_book.proofs.rows.take_next.Goals as goal
use Rattle.locked_book.proofs.rows.take_next.Goals.{After-deref_mut-held}

found : (g : _) (c : After-deref_mut-held g) → StandsAt c.args.work.now.plan.now c.deref_mut-held.result.now c.args.seat.now false
found g c = subst (λ b. StandsAt c.args.work.now.plan.now b c.args.seat.now false) (sym c.deref_mut-held.ensures.value) c.lock_at-guard.ensures

pub lock_at-guard-requires : goal.lock_at-guard-requires
lock_at-guard-requires g c = record { agreed = c.requires.agreed }

pub take_next-next-requires-clause-lane : goal.take_next-next-requires-clause-lane
take_next-next-requires-clause-lane g c = rw c.lane-lane.ensures (found g (goal.at.take_next-next-requires-clause-lane g c).After-deref_mut-held).lane

pub take_next-next-requires-clause-free : goal.take_next-next-requires-clause-free
take_next-next-requires-clause-free g c = rw c.lane-lane.ensures (found g (goal.at.take_next-next-requires-clause-free g c).After-deref_mut-held).out_is

pub take_next-next-requires-clause-open : goal.take_next-next-requires-clause-open
take_next-next-requires-clause-open g c = (found g (goal.at.take_next-next-requires-clause-open g c).After-deref_mut-held).undismissed

pub returns : goal.returns
returns g c =
    let old = c.deref_mut-held.result.now in
    let at = found g (goal.at.returns g c).After-deref_mut-held in
    let says = subst (λ p. SaysNext g.J.Job.id g.J.Job.used g.J.Job.made g.Q.PostLedger.made old c.take_next-next.new.self p c.take_next-next.result)
    c.lane-lane.ensures c.take_next-next.ensures.says in
    subst (λ p. GivesRow g.J.Job.id g.J.Job.used g.J.Job.made g.Q.PostLedger.made p c.args.seat.now c.take_next-next.result) at.plan
    (gives_row g.J.Job.id g.J.Job.used g.J.Job.made g.Q.PostLedger.made c.args.seat.now old c.take_next-next.new.self c.take_next-next.result at.count says)
