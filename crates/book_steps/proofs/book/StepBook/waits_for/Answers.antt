use Rattle.std.proofs.Common.{◌≡◌, ◌<◌, ◌≤◌, ◌+◌, ℕ, inl, inr, Option, IfSome, length, subst, arith}
use Rattle.sched_base.specs.declared.rows.Leaf.TheVariants.{Task}
use Rattle.sched_base.specs.declared.rows.TaskId.{TaskId}
use Rattle.book_machine.specs.Machine.{EarlierPosted, IsWaitedFor, WaitsFor, least_posted, posted_at}
use Rattle.book_machine.proofs.Lanes.{least_le}
use Rattle.plan_rounds.specs.PlanRows.{plan_rows}
use Rattle.plan_rounds.proofs.RoundLemmas.{names_task, plan_lanes}
use Rattle.plan_rounds.proofs.RowLemmas.{IfNone-by, IfSome-by, waited_is_behind}
use Rattle.book_steps.specs.declared.ring.PendingRow.{PendingRow}
use Rattle.book_steps.specs.Pending.{IsPending, PendingKept}
use Rattle.book_steps.proofs.BookLemmas.{is_task}
use Rattle.book_steps.proofs.PendingLemmas.{computed_is}
use Rattle.book_steps.proofs.book.StepBook.waits_for.Goals.{After-know_lawful}
use Rattle.book_steps.proofs.book.StepBook.waits_for.Goals as goal

module _ (c : After-know_lawful) where
  pending : PendingKept c.self.inside.plan c.self.inside.window c.self.inside.state c.self.inside.pending
  pending = c.self.invariant.pending

  within : c.args.p < length c.self.inside.state.lanes
  within = rw (← c.self.view_is) at c.requires.lane

  inside : c.args.p < c.self.inside.plan.tree.processors
  inside =
      let low = within in
      let long = c.self.invariant.led.1.reached.lanes in
      let many = plan_lanes c.self.inside.plan c.know_lawful.ensures.lawful in
      omega (arith, low, long, many)

  low : least_posted c.self.inside.state ≤ posted_at c.self.inside.state c.args.p
  low = least_le c.self.inside.state.lanes c.args.p within

  -- in the window the next row is computed
  below : posted_at c.self.inside.state c.args.p < least_posted c.self.inside.state + c.self.inside.window → posted_at c.self.inside.state
      c.args.p < c.self.inside.pending.computed
  below near =
      let held = (rw (← c.self.view_is) at c.requires.held) near in
      let is = computed_is c.self.inside.plan c.know_lawful.ensures.lawful c.self.inside.window c.self.inside.state c.self.inside.pending pending in
      omega (arith, held, is)

  -- the task that its row names is one of the plan's
  named : (next : PendingRow) → IsPending (plan_rows c.self.inside.plan) c.args.p (posted_at c.self.inside.state c.args.p) next → (task : TaskId) →
      next.row.leaf ≡ Task task → task.0 < length c.self.inside.plan.set.tasks
  named next pends task is = names_task c.self.inside.plan c.know_lawful.ensures.lawful c.args.p (posted_at c.self.inside.state c.args.p) task.0 next.row
      pends.row (is_task next.row.leaf task is)

  -- the lane that is found is the one waited for
  waits_in : (next : PendingRow) → posted_at c.self.inside.state c.args.p < least_posted c.self.inside.state + c.self.inside.window →
      IsPending (plan_rows c.args.self.now.plan) c.args.p (posted_at c.args.self.now.state c.args.p) next
      → (round : ℕ) → round ≡ posted_at c.self.inside.state c.args.p → (found : Option ℕ) → IfSome found (λ q. IsWaitedFor (plan_rows c.args.self.now.plan)
      c.args.self.now.state.lanes c.args.p round next.row.leaf q)
      → IfSome found (λ q. WaitsFor (plan_rows c.args.self.now.plan) c.args.self.now.window c.args.self.now.state c.args.p q)
  waits_in next close is round posted found waited =
      let near : posted_at c.args.self.now.state c.args.p < least_posted c.args.self.now.state + c.args.self.now.window = rw (← c.self.view_is) close in
      let here : round ≡ posted_at c.args.self.now.state c.args.p = rw (← c.self.view_is) posted in
      IfSome-by found _ _ (λ q w. inr (
        near,
        (
          next.row,
          is.row,
          subst (λ n. IsWaitedFor (plan_rows c.args.self.now.plan) c.args.self.now.state.lanes c.args.p n next.row.leaf q) here w,
        ),
      )) waited

pub posted-round-requires : goal.posted-round-requires
posted-round-requires c = within (goal.at.posted-round-requires c).After-know_lawful

pub overflow_sub-round : goal.overflow_sub-round
overflow_sub-round c =
    let most = low (goal.at.overflow_sub-round c).After-know_lawful in
    let posted = c.posted-round.ensures in
    let least = c.least.ensures in
    omega (arith, most, posted, least)

pub lowest-requires-clause-some : goal.lowest-requires-clause-some
lowest-requires-clause-some c =
    let inside = within (goal.at.lowest-requires-clause-some c).After-know_lawful in
    omega (arith, inside)

pub lowest-requires-clause-few : goal.lowest-requires-clause-few
lowest-requires-clause-few c =
    let long = c.self.invariant.led.1.reached.lanes in
    let many = plan_lanes c.self.inside.plan c.know_lawful.ensures.lawful in
    let few = c.know_lawful.ensures.lawful.sized.few_processors in
    omega (arith, long, many, few)

pub returns-then-round-least-clause-some : goal.returns-then-round-least-clause-some
returns-then-round-least-clause-some c =
    let most = low (goal.at.returns-then-round-least-clause-some c).After-know_lawful in
    let posted = c.posted-round.ensures in
    let least = c.least.ensures in
    let window = c.from.ensures in
    let far = c.if-round-least.true in
    rw (← c.self.view_is) (inl (omega (arith, most, posted, least, window, far), c.lowest.ensures))

pub returns-then-round-least-clause-behind : goal.returns-then-round-least-clause-behind
returns-then-round-least-clause-behind c =
    let most = low (goal.at.returns-then-round-least-clause-behind c).After-know_lawful in
    let posted = c.posted-round.ensures in
    let least = c.least.ensures in
    let window = c.from.ensures in
    let far = c.if-round-least.true in
    rw (← c.self.view_is) (waited_is_behind (plan_rows c.self.inside.plan) c.self.inside.window c.self.inside.state c.args.p c.lowest.result
    c.self.invariant.some_window (inl (omega (arith, most, posted, least, window, far), c.lowest.ensures)))

pub next_row-next-requires-clause-lane : goal.next_row-next-requires-clause-lane
next_row-next-requires-clause-lane c = c.requires.lane

pub next_row-next-requires-clause-held : goal.next_row-next-requires-clause-held
next_row-next-requires-clause-held c =
    let most = low (goal.at.next_row-next-requires-clause-held c).After-know_lawful in
    let posted = c.posted-round.ensures in
    let least = c.least.ensures in
    let window = c.from.ensures in
    let near = c.if-round-least.false in
    let close : posted_at c.self.inside.state c.args.p < least_posted c.self.inside.state + c.self.inside.window = omega (
      arith,
      most,
      posted,
      least,
      window,
      near,
    ) in
    c.requires.held (rw (← c.self.view_is) close)

pub is_clear-requires-clause-lane : goal.is_clear-requires-clause-lane
is_clear-requires-clause-lane c = c.requires.lane

pub is_clear-requires-clause-next : goal.is_clear-requires-clause-next
is_clear-requires-clause-next c = c.next_row-next.ensures

pub lowest_with-requires : goal.lowest_with-requires
lowest_with-requires c =
    let r = (goal.at.lowest_with-requires c).After-know_lawful in
    let most = low r in
    let posted = c.posted-round.ensures in
    let least = c.least.ensures in
    let window = c.from.ensures in
    let near = c.if-round-least.false in
    let held = below r (omega (arith, most, posted, least, window, near)) in
    let is = computed_is c.self.inside.plan c.know_lawful.ensures.lawful c.self.inside.window c.self.inside.state c.self.inside.pending (pending r) in
    record {
      round = rw (← c.self.view_is) (omega (arith, held, posted, is));
      task = λ task is. rw (← c.self.view_is) (named r c.next_row-next.result.now (rw (← c.self.view_is) at c.next_row-next.ensures) task is);
    }

pub returns-then-is_clear-clause-none : goal.returns-then-is_clear-clause-none
returns-then-is_clear-clause-none c =
    let r = (goal.at.returns-then-is_clear-clause-none c).After-know_lawful in
    let most = low r in
    let posted = c.posted-round.ensures in
    let least = c.least.ensures in
    let window = c.from.ensures in
    let near = c.if-round-least.false in
    let close : posted_at c.self.inside.state c.args.p < least_posted c.self.inside.state + c.self.inside.window = omega (
      arith,
      most,
      posted,
      least,
      window,
      near,
    ) in
    record {
      in_window = rw (← c.self.view_is) close;
      next = (c.next_row-next.result.now.row, c.next_row-next.ensures.row, c.is_clear.ensures c.if-is_clear.true);
    }

pub returns-else-is_clear-clause-some : goal.returns-else-is_clear-clause-some
returns-else-is_clear-clause-some c =
    let r = (goal.at.returns-else-is_clear-clause-some c).After-know_lawful in
    let most = low r in
    let posted = c.posted-round.ensures in
    let least = c.least.ensures in
    let window = c.from.ensures in
    let near = c.if-round-least.false in
    let close : posted_at c.self.inside.state c.args.p < least_posted c.self.inside.state + c.self.inside.window = omega (
      arith,
      most,
      posted,
      least,
      window,
      near,
    ) in
    waits_in r c.next_row-next.result.now close c.next_row-next.ensures c.posted-round.result posted c.lowest_with.result c.lowest_with.ensures.some

pub returns-else-is_clear-clause-behind : goal.returns-else-is_clear-clause-behind
returns-else-is_clear-clause-behind c =
    let r = (goal.at.returns-else-is_clear-clause-behind c).After-know_lawful in
    let most = low r in
    let posted = c.posted-round.ensures in
    let least = c.least.ensures in
    let window = c.from.ensures in
    let near = c.if-round-least.false in
    let close : posted_at c.self.inside.state c.args.p < least_posted c.self.inside.state + c.self.inside.window = omega (
      arith,
      most,
      posted,
      least,
      window,
      near,
    ) in
    let some : 1 ≤ c.args.self.now.window = rw (← c.self.view_is) c.self.invariant.some_window in
    IfSome-by c.lowest_with.result _ _ (λ q. waited_is_behind (plan_rows c.args.self.now.plan) c.args.self.now.window c.args.self.now.state c.args.p q some)
    (waits_in r c.next_row-next.result.now close c.next_row-next.ensures c.posted-round.result posted c.lowest_with.result c.lowest_with.ensures.some)

pub returns-else-is_clear-clause-none : goal.returns-else-is_clear-clause-none
returns-else-is_clear-clause-none c =
    let r = (goal.at.returns-else-is_clear-clause-none c).After-know_lawful in
    let most = low r in
    let posted = c.posted-round.ensures in
    let least = c.least.ensures in
    let window = c.from.ensures in
    let near = c.if-round-least.false in
    let close : posted_at c.self.inside.state c.args.p < least_posted c.self.inside.state + c.self.inside.window = omega (
      arith,
      most,
      posted,
      least,
      window,
      near,
    ) in
    let here : c.posted-round.result ≡ posted_at c.args.self.now.state c.args.p = rw (← c.self.view_is) posted in
    IfNone-by c.lowest_with.result _ _ (λ earlier. record {
      in_window = rw (← c.self.view_is) close;
      next = (
        c.next_row-next.result.now.row,
        c.next_row-next.ensures.row,
        subst (λ n. EarlierPosted (plan_rows c.args.self.now.plan) c.args.self.now.state.lanes c.args.p n c.next_row-next.result.now.row.leaf) here earlier,
      );
    }) c.lowest_with.ensures.none
