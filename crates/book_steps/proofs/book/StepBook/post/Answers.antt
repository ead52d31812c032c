use Rattle.std.proofs.Common.{◌≡◌, ◌<◌, ◌+◌, ◌-◌, ◌∙◌, false, refl, sym, ap, subst, arith, length}
use Rattle.sched_base.specs.Tables.{RowAt}
use Rattle.book_machine.specs.declared.machine.LaneState.{LaneState}
use Rattle.book_machine.specs.declared.events.Event.TheVariants.{Post}
use Rattle.book_machine.specs.Machine.{State, IsOut, after, least_posted, posted_at}
use Rattle.book_machine.proofs.Lanes.{out_within}
use Rattle.book_machine.proofs.PostedTicks.{ticks_of-fits}
use Rattle.plan_rounds.specs.PlanRows.{plan_rows}
use Rattle.plan_rounds.specs.Parts.{processor}
use Rattle.plan_rounds.proofs.RoundLemmas.{names_task, plan_lanes, plan_table}
use Rattle.book_steps.specs.declared.ring.PendingRow.{PendingRow}
use Rattle.book_steps.specs.Books.{AreFaults, BookKept}
use Rattle.book_steps.specs.Turns.{with_ticks}
use Rattle.book_steps.specs.Pending.{IsPending, PendingContents, PendingKept}
use Rattle.book_steps.proofs.BookLemmas.{AreFaults-out, AreTotals-post, IsLed-next, is_task}
use Rattle.book_steps.proofs.PendingLemmas.{PendingKept-go, PendingKept-stay, computed_is}
use Rattle.book_steps.proofs.book.StepBook.post.Goals.{After-know_lawful}
use Rattle.book_steps.proofs.book.StepBook.post.Goals as goal

module _ (c : After-know_lawful) where
  pending : PendingKept c.self.inside.plan c.self.inside.window c.self.inside.state c.self.inside.pending
  pending = c.self.invariant.pending

  out : IsOut c.self.inside.state c.args.p
  out = rw (← c.self.view_is) at c.requires

  within : c.args.p < length c.self.inside.state.lanes
  within = out_within c.self.inside.state.lanes c.args.p out

  inside : c.args.p < c.self.inside.plan.tree.processors
  inside =
      let low = within in
      let long = c.self.invariant.led.1.reached.lanes in
      let many = plan_lanes c.self.inside.plan c.know_lawful.ensures.lawful in
      omega (arith, low, long, many)

  below : posted_at c.self.inside.state c.args.p < c.self.inside.pending.computed
  below =
      let low = pending.kept.out c.args.p out in
      let seen = pending.kept.rounds.count in
      let is = pending.computed in
      omega (arith, low, seen, is)

pub next_row-requires-clause-lane : goal.next_row-requires-clause-lane
next_row-requires-clause-lane c = let low = within (goal.at.next_row-requires-clause-lane c).After-know_lawful in rw (← c.self.view_is) low

pub next_row-requires-clause-held : goal.next_row-requires-clause-held
next_row-requires-clause-held c =
    let r = (goal.at.next_row-requires-clause-held c).After-know_lawful in
    let low = below r in
    let is = computed_is c.self.inside.plan c.know_lawful.ensures.lawful c.self.inside.window c.self.inside.state c.self.inside.pending (pending r) in
    rw (← c.self.view_is) (omega (arith, low, is))

-- the row is the processor's next one
at : (c : After-know_lawful) (next : PendingRow) → IsPending (plan_rows c.args.self.now.plan) c.args.p (posted_at c.args.self.now.state c.args.p) next
    → RowAt (plan_rows c.self.inside.plan) c.args.p (posted_at c.self.inside.state c.args.p) next.row
at c next is = (rw (← c.self.view_is) at is).row

pub add_ticks-requires-clause-task : goal.add_ticks-requires-clause-task
add_ticks-requires-clause-task c task is =
    let r = (goal.at.add_ticks-requires-clause-task c).After-know_lawful in
    let row = c.next_row.result.now.row in
    let there = at r c.next_row.result.now c.next_row.ensures in
    let named = names_task c.self.inside.plan c.know_lawful.ensures.lawful c.args.p (posted_at c.self.inside.state c.args.p) task.0 row there
    (is_task row.leaf task is) in
    let many = c.self.invariant.totals.many in
    omega (arith, named, many)

pub add_ticks-requires-clause-forward : goal.add_ticks-requires-clause-forward
add_ticks-requires-clause-forward c =
    let r = (goal.at.add_ticks-requires-clause-forward c).After-know_lawful in
    let row = c.next_row.result.now.row in
    let there = at r c.next_row.result.now c.next_row.ensures in
    let up = ((plan_table c.self.inside.plan c.know_lawful.ensures.lawful).forward c.args.p (posted_at c.self.inside.state c.args.p) row there).0 in
    omega (arith, up)

pub add_ticks-requires-clause-fits : goal.add_ticks-requires-clause-fits
add_ticks-requires-clause-fits c task is =
    let r = (goal.at.add_ticks-requires-clause-fits c).After-know_lawful in
    let row = c.next_row.result.now.row in
    let there = at r c.next_row.result.now c.next_row.ensures in
    let plan = c.self.inside.plan in
    let lawful = c.know_lawful.ensures.lawful in
    let named = names_task plan lawful c.args.p (posted_at c.self.inside.state c.args.p) task.0 row there (is_task row.leaf task is) in
    let so_far = c.self.invariant.totals.each task.0 named in
    let fits = ticks_of-fits (plan_rows plan) c.self.inside.window c.self.inside.state (plan_table plan lawful) c.self.invariant.led.1.reached task.0
    c.args.p row (out r, there) (is_task row.leaf task is) in
    omega (arith, so_far, fits)

pub post-requires : goal.post-requires
post-requires c = out (goal.at.post-requires c).After-know_lawful

-- what a post keeps beside the pending rows
module _ (c : After-know_lawful) (next : PendingRow) (is : IsPending (plan_rows c.args.self.now.plan) c.args.p (posted_at c.args.self.now.state c.args.p)
    next) where
  abbrev posted_state : State
  posted_state = after c.self.inside.state (Post (processor c.args.p))

  -- with these rows pending it is a book's
  kept : (pending : PendingContents) → pending.computed ≡ c.self.inside.pending.computed → PendingKept c.self.inside.plan c.self.inside.window posted_state
      pending
      → BookKept c.self.inside.plan c.self.inside.window posted_state pending
      (with_ticks c.self.inside.totals.items next.row.leaf (next.row.end - next.row.start)) c.self.inside.faults.items
  kept pending same rows =
      let q = c.args.p in
      let plan = c.self.inside.plan in
      let s = c.self.inside.state in
      record {
        compiled = c.self.invariant.compiled;
        some_window = c.self.invariant.some_window;
        small_window = c.self.invariant.small_window;
        pending = rows;
        led = IsLed-next plan c.know_lawful.ensures.lawful c.self.inside.window s c.self.invariant.led (Post (processor q)) (out c);
        totals = AreTotals-post plan s c.self.inside.totals.items q next.row (within c) (at c next is) c.self.invariant.totals;
        faults = subst (λ n. AreFaults posted_state n c.self.inside.faults.items) (sym same)
            (AreFaults-out s c.self.inside.pending.computed q (record { posted = posted_at s q + 1; out = false }) c.self.inside.faults.items (out c)
            (within c) c.self.invariant.faults);
      }

pub invariant_of-self : goal.invariant_of-self
invariant_of-self c =
    let r = (goal.at.invariant_of-self c).After-know_lawful in
    let q = c.args.p in
    let s = c.self.inside.state in
    let lane : LaneState = record { posted = posted_at s q + 1; out = false } in
    let before : c.least-least.result ≡ least_posted s = c.least-least.ensures in
    let now : c.least.result ≡ least_posted (posted_state r c.next_row.result.now c.next_row.ensures) = c.least.ensures ∙ ap least_posted c.post.ensures in
    let moved = c.if-least.true in
    rw (c.post.ensures, c.add_ticks.ensures, c.let_go.ensures) (kept r c.next_row.result.now c.next_row.ensures _ refl
    (PendingKept-go c.self.inside.plan c.know_lawful.ensures.lawful c.self.inside.window s q lane s.halted c.self.inside.pending (pending r) (within r)
    (below r) refl refl (omega (arith, before, now, moved))))

pub invariant_of-self-else-least : goal.invariant_of-self-else-least
invariant_of-self-else-least c =
    let r = (goal.at.invariant_of-self-else-least c).After-know_lawful in
    let q = c.args.p in
    let s = c.self.inside.state in
    let lane : LaneState = record { posted = posted_at s q + 1; out = false } in
    let before : c.least-least.result ≡ least_posted s = c.least-least.ensures in
    let now : c.least.result ≡ least_posted (posted_state r c.next_row.result.now c.next_row.ensures) = c.least.ensures ∙ ap least_posted c.post.ensures in
    let stays = c.if-least.false in
    rw (c.post.ensures, c.add_ticks.ensures) (kept r c.next_row.result.now c.next_row.ensures _ refl
    (PendingKept-stay c.self.inside.plan c.know_lawful.ensures.lawful c.self.inside.window s q lane s.halted c.self.inside.pending (pending r) (within r)
    (below r) refl refl (omega (arith, before, now, stays))))
