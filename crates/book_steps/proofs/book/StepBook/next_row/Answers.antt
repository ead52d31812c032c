use Rattle.std.proofs.Common.{◌≡◌, ◌<◌, ◌≤◌, length, arith}
use Rattle.book_machine.specs.Machine.{least_posted, posted_at}
use Rattle.book_machine.proofs.Lanes.{least_le}
use Rattle.plan_rounds.proofs.RoundLemmas.{plan_lanes}
use Rattle.book_steps.specs.Pending.{PendingKept}
use Rattle.book_steps.proofs.PendingLemmas.{computed_is, next_held, next_is}
use Rattle.book_steps.proofs.book.StepBook.next_row.Goals.{After-know_lawful}
use Rattle.book_steps.proofs.book.StepBook.next_row.Goals as goal

module _ (c : After-know_lawful) where
  pending : PendingKept c.self.inside.plan c.self.inside.window c.self.inside.state c.self.inside.pending
  pending = c.self.invariant.pending

  within : c.args.p < length c.self.inside.state.lanes
  within = rw (← c.self.view_is) at c.requires.lane

  inside : c.args.p < c.self.inside.plan.tree.processors
  inside =
      let low = within in
      let long = c.self.invariant.led.1.reached.lanes in
      let many = plan_lanes c.self.inside.plan c.know_lawful.ensures.lawful in
      omega (arith, low, long, many)

  below : posted_at c.self.inside.state c.args.p < c.self.inside.pending.computed
  below =
      let low = rw (← c.self.view_is) at c.requires.held in
      let is = computed_is c.self.inside.plan c.know_lawful.ensures.lawful c.self.inside.window c.self.inside.state c.self.inside.pending pending in
      omega (arith, low, is)

  low : least_posted c.self.inside.state ≤ posted_at c.self.inside.state c.args.p
  low = least_le c.self.inside.state.lanes c.args.p within

pub posted-requires : goal.posted-requires
posted-requires c = within (goal.at.posted-requires c).After-know_lawful

pub overflow_sub-posted : goal.overflow_sub-posted
overflow_sub-posted c =
    let most = low (goal.at.overflow_sub-posted c).After-know_lawful in
    let posted = c.posted.ensures in
    let least = c.least.ensures in
    omega (arith, most, posted, least)

pub row-requires : goal.row-requires
row-requires c =
    let r = (goal.at.row-requires c).After-know_lawful in
    let posted : c.posted.result ≡ posted_at c.self.inside.state c.args.p = c.posted.ensures in
    let least : c.least.result ≡ least_posted c.self.inside.state = c.least.ensures in
    rw (posted, least) (next_held c.self.inside.plan c.know_lawful.ensures.lawful c.self.inside.window c.self.inside.state c.self.inside.pending (pending r)
    c.args.p (inside r) (below r) (within r))

pub returns : goal.returns
returns c =
    let r = (goal.at.returns c).After-know_lawful in
    let posted : c.posted.result ≡ posted_at c.self.inside.state c.args.p = c.posted.ensures in
    let least : c.least.result ≡ least_posted c.self.inside.state = c.least.ensures in
    rw (← c.self.view_is) (next_is c.self.inside.plan c.know_lawful.ensures.lawful c.self.inside.window c.self.inside.state c.self.inside.pending
    (pending r) c.args.p (inside r) (below r) (within r) c.row.result.now
    (rw (posted, least) at c.row.ensures))
