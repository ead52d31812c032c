use Rattle.std.proofs.Common.{◌≡◌, true, false, refl, subst}
use Rattle.plan_rounds.specs.PlanRows.{plan_rows}
use Rattle.locked_book.specs.Promises.{IsNextRow, GivesRow}
use Rattle.locked_book.proofs.LookLemmas.{job_may_work}
use Rattle.exec_lanes.proofs.ServeLemmas.{served_none, served_row}
use Rattle.lane_worker.proofs.serving.follow.Goals as goal

pub work_on-requires : goal.work_on-requires
work_on-requires g c j there =
    let next : IsNextRow g.J.Job.id g.J.Job.used g.J.Job.made g.Q.PostLedger.made c.args.work.now.plan.now c.args.lane.now.seat c.in-Ready.row c.in-Ready.job =
    subst (λ l. GivesRow g.J.Job.id g.J.Job.used g.J.Job.made g.Q.PostLedger.made c.args.work.now.plan.now c.args.lane.now.seat l) c.in-Ready.is
    c.requires.gives in
    rw c.ticks_of.ensures (job_may_work _ _ _ _ _ c.know_lawful.ensures.lawful _ _ _ next j there)

pub returns-in-Done-clause-served : goal.returns-in-Done-clause-served
returns-in-Done-clause-served g c = served_none _ _ _ c.requires.fresh

pub returns-in-Done-2-clause-served : goal.returns-in-Done-2-clause-served
returns-in-Done-2-clause-served g c = served_none _ _ _ c.requires.fresh

pub returns-in_default-work_on-clause-served : goal.returns-in_default-work_on-clause-served
returns-in_default-work_on-clause-served g c =
    let next : IsNextRow g.J.Job.id g.J.Job.used g.J.Job.made g.Q.PostLedger.made c.args.work.now.plan.now c.args.lane.now.seat c.in-Ready.row c.in-Ready.job =
    subst (λ l. GivesRow g.J.Job.id g.J.Job.used g.J.Job.made g.Q.PostLedger.made c.args.work.now.plan.now c.args.lane.now.seat l) c.in-Ready.is
    c.requires.gives in
    let at = rw (← c.lane.view_is) at next.at in
    let none = rw (← c.lane.view_is) at c.requires.fresh in
    rw (← c.lane.view_is, c.post_and_take.ensures.seat) (served_row (plan_rows c.args.work.now.plan.now) c.args.counts.now _ c.in-Ready.row _ _ _ at
    c.in_default.ensures.ok c.in_default.ensures.count none)

pub post_and_take-requires-clause-agreed : goal.post_and_take-requires-clause-agreed
post_and_take-requires-clause-agreed g c = c.requires.agreed

pub take_next-requires : goal.take_next-requires
take_next-requires g c = record { agreed = c.requires.agreed }

pub same-lane : goal.same-lane
same-lane g c = refl

pub same-lane-in-Waits-next : goal.same-lane-in-Waits-next
same-lane-in-Waits-next g c = refl

pub same-lane-in-Done : goal.same-lane-in-Done
same-lane-in-Done g c = refl

pub same-lane-in-Done-2 : goal.same-lane-in-Done-2
same-lane-in-Done-2 g c = refl

pub returns-in-Err-clause-more : goal.returns-in-Err-clause-more
returns-in-Err-clause-more g c never = absurd (let e : false ≡ true = never in cc)

pub returns-in-Err-clause-gives : goal.returns-in-Err-clause-gives
returns-in-Err-clause-gives g c never = absurd (let e : false ≡ true = never in cc)

pub returns-in-Err-work_on-clause-more : goal.returns-in-Err-work_on-clause-more
returns-in-Err-work_on-clause-more g c never = absurd (let e : false ≡ true = never in cc)

pub returns-in-Err-work_on-clause-gives : goal.returns-in-Err-work_on-clause-gives
returns-in-Err-work_on-clause-gives g c never = absurd (let e : false ≡ true = never in cc)

pub returns-then-not-wait-clause-served : goal.returns-then-not-wait-clause-served
returns-then-not-wait-clause-served g c = served_none _ _ _ c.requires.fresh

pub returns-then-not-wait-clause-more : goal.returns-then-not-wait-clause-more
returns-then-not-wait-clause-more g c never = absurd (let e : false ≡ true = never in cc)

pub returns-then-not-wait-clause-gives : goal.returns-then-not-wait-clause-gives
returns-then-not-wait-clause-gives g c never = absurd (let e : false ≡ true = never in cc)

pub returns-in-Done-clause-more : goal.returns-in-Done-clause-more
returns-in-Done-clause-more g c never = absurd (let e : false ≡ true = never in cc)

pub returns-in-Done-clause-gives : goal.returns-in-Done-clause-gives
returns-in-Done-clause-gives g c never = absurd (let e : false ≡ true = never in cc)

pub returns-in-Done-2-clause-more : goal.returns-in-Done-2-clause-more
returns-in-Done-2-clause-more g c never = absurd (let e : false ≡ true = never in cc)

pub returns-in-Done-2-clause-gives : goal.returns-in-Done-2-clause-gives
returns-in-Done-2-clause-gives g c never = absurd (let e : false ≡ true = never in cc)

pub returns-else-not-wait-clause-served : goal.returns-else-not-wait-clause-served
returns-else-not-wait-clause-served g c = served_none _ _ _ c.requires.fresh

pub returns-else-not-wait-clause-more : goal.returns-else-not-wait-clause-more
returns-else-not-wait-clause-more g c _ = c.requires.fresh
