use Rattle.std.proofs.Common.{◌≡◌, ap, ◌∙◌, sym, subst, length}
use Rattle.run_tree.specs.Plans.{PlanContents, IsPlan}
use Rattle.plan_rounds.proofs.RoundLemmas.{plan_lanes}
use Rattle.exec_book.specs.Looks.{LookMeans}
use Rattle.locked_book.specs.Found.{IsAgreed, IsToldAt}
use Rattle.locked_book.specs.Promises.{TakeGives}
use Rattle.locked_book.proofs.LookLemmas.{gives}
use Rattle.locked_book.proofs.rows.take_row.Goals as goal
use Rattle.locked_book.proofs.rows.take_row.Goals.{After-alone-work, After-deref_mut-held}

agreed : (g : _) (c : After-alone-work g) → IsAgreed c.alone-work.result.plan.now g.Q.PostLedger.set
agreed g c = subst (λ p. IsAgreed p g.Q.PostLedger.set) (sym c.alone-work.ensures.plan) c.alone-work.ensures.agreed

found : (g : _) (c : After-deref_mut-held g) → IsToldAt g.J.Job.faults c.alone-work.result.plan.now c.deref_mut-held.result.now c.args.seat.now
    c.args.counts.now
found g c = subst (λ b. IsToldAt g.J.Job.faults c.alone-work.result.plan.now b c.args.seat.now c.args.counts.now) (sym c.deref_mut-held.ensures.value)
    c.lock_told_at-guard.ensures

pub lock_told_at-guard-requires-clause-agreed : goal.lock_told_at-guard-requires-clause-agreed
lock_told_at-guard-requires-clause-agreed g c = agreed g (goal.at.lock_told_at-guard-requires-clause-agreed g c).After-alone-work

pub lock_told_at-guard-requires-clause-counts : goal.lock_told_at-guard-requires-clause-counts
lock_told_at-guard-requires-clause-counts g c = c.requires.counts ∙ ap (λ (p : PlanContents). length p.set.tasks) (sym c.alone-work.ensures.plan)

pub take-requires-clause-lane : goal.take-requires-clause-lane
take-requires-clause-lane g c = rw c.lane.ensures (found g (goal.at.take-requires-clause-lane g c).After-deref_mut-held).free.lane

pub take-requires-clause-free : goal.take-requires-clause-free
take-requires-clause-free g c = rw c.lane.ensures (found g (goal.at.take-requires-clause-free g c).After-deref_mut-held).free.out_is

pub take-requires-clause-open : goal.take-requires-clause-open
take-requires-clause-open g c = (found g (goal.at.take-requires-clause-open g c).After-deref_mut-held).free.undismissed

pub returns : goal.returns
returns g c =
    let old = c.deref_mut-held.result.now in
    let at = found g (goal.at.returns g c).After-deref_mut-held in
    let same : old.plan ≡ c.args.plan.now = at.free.plan ∙ c.alone-work.ensures.plan in
    let lawful : IsPlan old.plan = subst (λ p. IsPlan p) (sym same) c.know_lawful.ensures.lawful in
    let says = subst (λ p. LookMeans g.J.Job.id g.J.Job.used g.J.Job.made g.Q.PostLedger.made old c.take.new.self p c.take.result) c.lane.ensures
    c.take.ensures.says in
    subst (λ p. TakeGives g.J.Job.id g.J.Job.used g.J.Job.made g.J.Job.faults g.Q.PostLedger.made p c.args.seat.now c.args.counts.now c.take.result) same
    (gives g.J.Job.id g.J.Job.used g.J.Job.made g.J.Job.faults g.Q.PostLedger.made c.args.seat.now c.args.counts.now old c.take.new.self c.take.result
    lawful (at.free.reached.lanes ∙ plan_lanes old.plan lawful) at.free.count (c.requires.counts ∙ ap (λ (p : PlanContents). length p.set.tasks) (sym same))
    at.told says)
