use Rattle.std.proofs.Common.{◌<◌, true, refl, arith, length}
use Rattle.sched_base.proofs.TableLemmas.{row_within}
use Rattle.book_machine.specs.declared.machine.LaneState.{LaneState}
use Rattle.book_machine.specs.declared.events.Event.TheVariants.{Take}
use Rattle.book_machine.specs.Machine.{posted_at, HasTakeable, MayTake}
use Rattle.plan_rounds.specs.PlanRows.{plan_rows}
use Rattle.plan_rounds.specs.Parts.{processor}
use Rattle.plan_rounds.proofs.RoundLemmas.{plan_lanes, plan_table}
use Rattle.plan_rounds.proofs.RowLemmas.{ready_may_take}
use Rattle.book_steps.specs.declared.ring.PendingRow.{PendingRow}
use Rattle.book_steps.specs.Pending.{IsPending, PendingKept}
use Rattle.book_steps.proofs.BookLemmas.{AreFaults-running, AreTotals-same, IsLed-next}
use Rattle.book_steps.proofs.PendingLemmas.{PendingKept-same, computed_is}
use Rattle.book_steps.proofs.book.StepBook.hand_out.Goals.{After-know_lawful}
use Rattle.book_steps.proofs.book.StepBook.hand_out.Goals as goal

module _ (c : After-know_lawful) where
  pending : PendingKept c.self.inside.plan c.self.inside.window c.self.inside.state c.self.inside.pending
  pending = c.self.invariant.pending

  ready : HasTakeable (plan_rows c.self.inside.plan) c.self.inside.window c.self.inside.state c.args.p
  ready = rw (← c.self.view_is) at c.requires.ready

  below : posted_at c.self.inside.state c.args.p < c.self.inside.pending.computed
  below =
      let low = rw (← c.self.view_is) at c.requires.held in
      let is = computed_is c.self.inside.plan c.know_lawful.ensures.lawful c.self.inside.window c.self.inside.state c.self.inside.pending pending in
      omega (arith, low, is)

  in_all : c.args.p < length (plan_rows c.self.inside.plan)
  in_all = (row_within (plan_rows c.self.inside.plan) (plan_table c.self.inside.plan c.know_lawful.ensures.lawful) c.args.p (posted_at c.self.inside.state
      c.args.p) ready.next.0 ready.next.1).0

  within : c.args.p < length c.self.inside.state.lanes
  within = let low = in_all in let many = c.self.invariant.led.1.reached.lanes in omega (arith, low, many)

  inside : c.args.p < c.self.inside.plan.tree.processors
  inside = let low = in_all in let many = plan_lanes c.self.inside.plan c.know_lawful.ensures.lawful in omega (arith, low, many)

pub next_row-requires-clause-lane : goal.next_row-requires-clause-lane
next_row-requires-clause-lane c = let low = within (goal.at.next_row-requires-clause-lane c).After-know_lawful in rw (← c.self.view_is) low

pub next_row-requires-clause-held : goal.next_row-requires-clause-held
next_row-requires-clause-held c = c.requires.held

-- the next row may be taken
may : (c : After-know_lawful) (next : PendingRow) → IsPending (plan_rows c.args.self.now.plan) c.args.p (posted_at c.args.self.now.state c.args.p) next
    → MayTake (plan_rows c.self.inside.plan) c.self.inside.window c.self.inside.state c.args.p next.row
may c next is =
    let there = (rw (← c.self.view_is) at is).row in
    ready_may_take (plan_rows c.self.inside.plan) c.self.inside.window c.self.inside.state c.args.p next.row (rw (← c.self.view_is) at c.requires.running)
    (rw (← c.self.view_is) at c.requires.free) there (ready c)

pub hand_out-requires-clause-lane : goal.hand_out-requires-clause-lane
hand_out-requires-clause-lane c = within (goal.at.hand_out-requires-clause-lane c).After-know_lawful

pub hand_out-requires-clause-counted : goal.hand_out-requires-clause-counted
hand_out-requires-clause-counted c =
    let low = below (goal.at.hand_out-requires-clause-counted c).After-know_lawful in
    let counted = c.self.invariant.pending.counted in
    omega (arith, low, counted)

pub invariant_of-self : goal.invariant_of-self
invariant_of-self c =
    let r = (goal.at.invariant_of-self c).After-know_lawful in
    let legal = may r c.next_row.result.now c.next_row.ensures in
    let q = c.args.p in
    let plan = c.self.inside.plan in
    let lawful = c.know_lawful.ensures.lawful in
    let s = c.self.inside.state in
    let lane : LaneState = record { posted = posted_at s q; out = true } in
    rw c.hand_out.ensures (record {
      compiled = c.self.invariant.compiled;
      some_window = c.self.invariant.some_window;
      small_window = c.self.invariant.small_window;
      pending = PendingKept-same plan lawful c.self.inside.window s q lane s.halted c.self.inside.pending (pending r) (within r) refl (λ _. below r);
      led = IsLed-next plan lawful c.self.inside.window s c.self.invariant.led (Take (processor q)) (c.next_row.result.now.row, legal);
      totals = AreTotals-same plan s c.self.inside.totals.items q lane s.halted (within r) refl c.self.invariant.totals;
      faults = AreFaults-running s c.self.inside.pending.computed q lane c.self.inside.faults.items legal.running c.self.invariant.faults;
    })

pub returns : goal.returns
returns c =
    let r = (goal.at.returns c).After-know_lawful in
    let legal = may r c.next_row.result.now c.next_row.ensures in
    record {
      legal = rw (← c.self.view_is) legal;
      book = rw (← c.self.view_is) (rw c.hand_out.ensures refl);
    }
