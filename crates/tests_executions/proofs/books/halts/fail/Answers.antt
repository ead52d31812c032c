use Rattle.std.proofs.Common.{◌≡◌, true, ap, refl, ◌∙◌, eq-eqb}
use Rattle.sched_base.specs.Rows.{is_of_task}
use Rattle.sched_edges.specs.Jobs.{CountHeld}
use Rattle.plan_rounds.specs.PlanRows.{plan_rows}
use Rattle.exec_book.specs.Books.{BookContents}
use Rattle.plan_rounds.proofs.RoundLemmas.{plan_table}
use Rattle.tests_executions.proofs.WorkedJobs.{row_out, put_back_fits}
use Rattle.tests_executions.proofs.books.halts.fail.Goals as goal

pub handed-requires : goal.handed-requires
handed-requires g c =
    let old : BookContents CountHeld = c.args.book.now in
    let now : BookContents CountHeld = c.take.new.self in
    let hands = c.in-Ready.ensures.says in
    let follows = c.log-follows.ensures.follows in
    let t = c.in-Task.field-0.0 in
    let named : is_of_task t c.in-Ready.taken.leaf ≡ true = ap (is_of_task t) c.in-Task.is ∙ eq-eqb t t refl in (
      c.in-Ready.taken,
      t,
      row_out (plan_rows old.plan) (plan_rows now.plan) old.window now.window old.state now.state 0 c.in-Ready.taken
          (ap (λ (b : BookContents CountHeld). plan_rows b.plan) hands.book) (plan_table now.plan c.plan-lawful.ensures.lawful) follows.reached
          (ap (λ (b : BookContents CountHeld). b.state) hands.book) c.assert_free.ensures.lane hands.legal,
      named,
    )

pub halt-requires-clause-job : goal.halt-requires-clause-job
halt-requires-clause-job g c =
    let old : BookContents CountHeld = c.args.book.now in
    let now : BookContents CountHeld = c.take.new.self in
    let hands = c.in-Ready.ensures.says in
    let follows = c.log-follows.ensures.follows in
    put_back_fits (plan_rows old.plan) (plan_rows now.plan) old.window now.window old.state now.state 0 c.in-Ready.taken
    (ap (λ (b : BookContents CountHeld). plan_rows b.plan) hands.book) (plan_table now.plan c.plan-lawful.ensures.lawful) follows.reached
    (ap (λ (b : BookContents CountHeld). b.state) hands.book) c.assert_free.ensures.lane hands.legal
    _ _ _ g.Q.PostLedger.made c.in-Ready.job hands.ready
