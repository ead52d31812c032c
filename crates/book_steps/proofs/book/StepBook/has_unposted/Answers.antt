use Rattle.std.proofs.Common.{◌≡◌, ◌<◌, ◌≤◌, length, arith}
use Rattle.book_machine.proofs.Lanes.{least_le}
use Rattle.plan_rounds.proofs.RoundLemmas.{plan_lanes}
use Rattle.book_steps.specs.Pending.{PendingKept, last_of}
use Rattle.book_steps.proofs.PendingLemmas.{computed_is, last_within, none_unposted, row_is_early, row_of_pending, rows_held}
use Rattle.book_steps.proofs.book.StepBook.has_unposted.Goals.{After-know_lawful}
use Rattle.book_steps.proofs.book.StepBook.has_unposted.Goals as goal

module _ (c : After-know_lawful) where
  pending : PendingKept c.self.inside.plan c.self.inside.window c.self.inside.state c.self.inside.pending
  pending = c.self.invariant.pending

  within : c.args.q < length c.self.inside.state.lanes
  within = rw (← c.self.view_is) at c.requires.processor

  inside : c.args.q < c.self.inside.plan.tree.processors
  inside =
      let low = within in
      let long = c.self.invariant.led.1.reached.lanes in
      let many = plan_lanes c.self.inside.plan c.know_lawful.ensures.lawful in
      omega (arith, low, long, many)

  most : c.args.round ≤ c.self.inside.pending.computed
  most =
      let low = rw (← c.self.view_is) at c.requires.round in
      let is = computed_is c.self.inside.plan c.know_lawful.ensures.lawful c.self.inside.window c.self.inside.state c.self.inside.pending pending in
      omega (arith, low, is)

pub posted-requires : goal.posted-requires
posted-requires c = within (goal.at.posted-requires c).After-know_lawful

pub overflow_sub-posted : goal.overflow_sub-posted
overflow_sub-posted c =
    let r = (goal.at.overflow_sub-posted c).After-know_lawful in
    let low = least_le c.self.inside.state.lanes c.args.q (within r) in
    let posted = c.posted.ensures in
    let least = c.least-least.ensures in
    omega (arith, low, posted, least)

pub last-requires : goal.last-requires
last-requires c = λ task is.
    let r = (goal.at.last-requires c).After-know_lawful in
    let named : task.0 < length c.self.inside.plan.set.tasks = rw (← c.self.view_is) at (c.requires.task task is) in
    last_within c.self.inside.plan c.know_lawful.ensures.lawful c.self.inside.window c.self.inside.state c.self.inside.pending (pending r) c.args.q task.0
    (inside r) named

pub has-requires : goal.has-requires
has-requires c = λ i low.
    let r = (goal.at.has-requires c).After-know_lawful in
    let least = c.least-least.ensures in
    let last = c.min-last.ensures in
    let count = c.saturating_sub.ensures in
    rows_held c.self.inside.plan c.know_lawful.ensures.lawful c.self.inside.window c.self.inside.state c.self.inside.pending (pending r) c.args.q
    c.args.round c.args.leaf (inside r) (within r) (most r) i (omega (arith, low, least, last, count))

pub returns-clause-some : goal.returns-clause-some
returns-clause-some c = λ yes.
    let r = (goal.at.returns-clause-some c).After-know_lawful in
    let (i, next, past, low, at, is) = c.has.ensures.some yes in
    let posted = c.posted.ensures in
    let least = c.least-least.ensures in
    let last = c.min-last.ensures in
    let count = c.saturating_sub.ensures in
    rw (← c.self.view_is) (row_of_pending c.self.inside.plan c.know_lawful.ensures.lawful c.self.inside.window c.self.inside.state c.self.inside.pending
    (pending r) c.args.q c.args.round c.args.leaf (inside r) (within r) (most r)
    i next (omega (arith, past, posted, least)) (omega (arith, low, least, last, count)) at is)

pub returns-clause-none : goal.returns-clause-none
returns-clause-none c = λ no.
    let r = (goal.at.returns-clause-none c).After-know_lawful in
    let posted = c.posted.ensures in
    let least = c.least-least.ensures in
    let last = c.min-last.ensures in
    let count = c.saturating_sub.ensures in
    let told : c.last.result ≡ last_of c.self.inside.pending.last (length c.self.inside.pending.given) c.self.inside.pending.computed c.args.q c.args.leaf =
    c.last.ensures in
    rw (← c.self.view_is) (none_unposted c.self.inside.plan c.know_lawful.ensures.lawful c.self.inside.window c.self.inside.state c.self.inside.pending
    (pending r) c.args.q c.args.round c.args.leaf (inside r) (within r) (most r)
    (λ i next past low at is.
    let early = row_is_early c.self.inside.plan c.know_lawful.ensures.lawful c.self.inside.window c.self.inside.state c.self.inside.pending (pending r)
    c.args.q c.args.round c.args.leaf (inside r) (within r) (most r) i next low at is in
    c.has.ensures.none no i next (omega (arith, past, posted, least)) (omega (arith, low, least, last, count, told, early)) at is))
