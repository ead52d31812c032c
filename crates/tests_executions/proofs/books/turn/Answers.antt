use Rattle.std.proofs.Common.{ap, refl}
use Rattle.sched_edges.specs.Jobs.{CountHeld}
use Rattle.plan_rounds.specs.PlanRows.{plan_rows}
use Rattle.exec_book.specs.Books.{BookContents}
use Rattle.plan_rounds.proofs.RoundLemmas.{plan_table}
use Rattle.tests_executions.proofs.WorkedJobs.{worked_fits, when_ok}
use Rattle.tests_executions.proofs.books.turn.Goals as goal

pub post-requires-clause-job : goal.post-requires-clause-job
post-requires-clause-job g c =
    let old : BookContents CountHeld = c.args.book.now in
    let now : BookContents CountHeld = c.take.new.self in
    let hands = c.in-Ready.ensures.says in
    let follows = c.log-follows.ensures.follows in
    let worked = when_ok c.work.result _ c.work.ensures.sure c.work.ensures.ok in
    worked_fits (plan_rows old.plan) (plan_rows now.plan) old.window now.window old.state now.state c.lane-p.result c.in-Ready.taken
    (ap (λ (b : BookContents CountHeld). plan_rows b.plan) hands.book) (plan_table now.plan c.plan-lawful.ensures.lawful) follows.reached
    (ap (λ (b : BookContents CountHeld). b.state) hands.book) c.assert_free.ensures.lane hands.legal
    _ _ _ g.Q.PostLedger.made c.in-Ready.given hands.ready c.in-Some.job c.work.new.self c.in-Some.is c.work.ensures.id refl worked
