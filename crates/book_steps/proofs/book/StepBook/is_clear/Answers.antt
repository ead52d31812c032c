use Rattle.std.proofs.Common.{◌≡◌, ◌<◌, ◌∙◌, length, sym, arith}
use Rattle.std.specs.Prelude.{slice_index}
use Rattle.std.proofs.lemmas.Bool.{eqb-true}
use Rattle.sched_base.specs.declared.rows.Leaf.TheVariants.{Task}
use Rattle.sched_base.specs.declared.rows.TaskId.{TaskId}
use Rattle.book_machine.specs.Machine.{EarlierPosted, least_posted, posted_at}
use Rattle.book_machine.proofs.LinkLemmas.{earlier_at_least}
use Rattle.plan_rounds.specs.PlanRows.{plan_rows}
use Rattle.plan_rounds.proofs.RoundLemmas.{names_task, plan_table}
use Rattle.book_steps.specs.Pending.{IsPending}
use Rattle.book_steps.proofs.BookLemmas.{is_task}
use Rattle.book_steps.proofs.TickCounts.{earlier_by_ticks}
use Rattle.book_steps.proofs.book.StepBook.is_clear.Goals.{After-know_lawful}
use Rattle.book_steps.proofs.book.StepBook.is_clear.Goals as goal

module _ (c : After-know_lawful) where
  next : IsPending (plan_rows c.self.inside.plan) c.args.p (posted_at c.self.inside.state c.args.p) c.args.next.now
  next = rw (← c.self.view_is) at c.requires.next

  named : (task : TaskId) → c.args.next.now.row.leaf ≡ Task task → task.0 < length c.self.inside.plan.set.tasks
  named task is = names_task c.self.inside.plan c.know_lawful.ensures.lawful c.args.p (posted_at c.self.inside.state c.args.p) task.0 c.args.next.now.row
      next.row (is_task c.args.next.now.row.leaf task is)

  -- its task has the ticks of its earlier rows
  by_ticks : (task : TaskId) → c.args.next.now.row.leaf ≡ Task task → slice_index c.self.inside.totals.items task.0 ≡ c.args.next.now.before
      → EarlierPosted (plan_rows c.self.inside.plan) c.self.inside.state.lanes c.args.p (posted_at c.self.inside.state c.args.p) c.args.next.now.row.leaf
  by_ticks task is same = earlier_by_ticks (plan_rows c.self.inside.plan) c.self.inside.window c.self.inside.state (plan_table c.self.inside.plan
      c.know_lawful.ensures.lawful) c.self.invariant.led.1.reached c.args.p c.args.next.now.row task next.row is
      (sym (c.self.invariant.totals.each task.0 (named task is)) ∙ same ∙ next.before task is)

  -- it has the least posted count
  by_least : posted_at c.args.self.now.state c.args.p ≡ least_posted c.args.self.now.state → EarlierPosted (plan_rows c.args.self.now.plan)
      c.args.self.now.state.lanes c.args.p (posted_at c.args.self.now.state c.args.p) c.args.next.now.row.leaf
  by_least same =
      let lanes : length c.args.self.now.state.lanes ≡ length (plan_rows c.args.self.now.plan) = rw (← c.self.view_is) c.self.invariant.led.1.reached.lanes in
      earlier_at_least (plan_rows c.args.self.now.plan) c.args.self.now.state c.args.p (posted_at c.args.self.now.state c.args.p) c.args.next.now.row.leaf
      lanes (omega (arith, same))

pub is_least-requires : goal.is_least-requires
is_least-requires c = c.requires.lane

pub is_least-requires-in-Idle : goal.is_least-requires-in-Idle
is_least-requires-in-Idle c = c.requires.lane

pub is_least-requires-in-Empty : goal.is_least-requires-in-Empty
is_least-requires-in-Empty c = c.requires.lane

pub total-requires : goal.total-requires
total-requires c =
    let r = (goal.at.total-requires c).After-know_lawful in
    rw (← c.self.view_is) (let low = named r c.in-Task.task c.in-Task.is in let many = c.self.invariant.totals.many in omega (arith, low, many))

pub returns-in-Task : goal.returns-in-Task
returns-in-Task c = λ on.
    let r = (goal.at.returns-in-Task c).After-know_lawful in
    let told : slice_index c.self.inside.totals.items c.in-Task.task.0 ≡ c.total.result = rw (← c.self.view_is) at (sym c.total.ensures) in
    rw (← c.self.view_is) (by_ticks r c.in-Task.task c.in-Task.is (told ∙ eqb-true c.total.result c.args.next.now.before on))

pub returns-in-Wait : goal.returns-in-Wait
returns-in-Wait c = λ on. by_least (goal.at.returns-in-Wait c).After-know_lawful (c.is_least.ensures on)

pub returns-in-Idle : goal.returns-in-Idle
returns-in-Idle c = λ on. by_least (goal.at.returns-in-Idle c).After-know_lawful (c.is_least-in-Idle.ensures on)

pub returns-in-Empty : goal.returns-in-Empty
returns-in-Empty c = λ on. by_least (goal.at.returns-in-Empty c).After-know_lawful (c.is_least-in-Empty.ensures on)
