use Rattle.std.proofs.Common.{◌≡◌, ◌<◌, ◌+◌, ◌∙◌, Bool, true, false, refl, ap, subst, sym, length}
use Rattle.sched_base.specs.Tables.{rounds_in}
use Rattle.book_machine.specs.Machine.{lane_at, least_posted, posted_at, WaitsFor}
use Rattle.plan_rounds.specs.PlanRows.{plan_rows}
use Rattle.plan_rounds.proofs.RowLemmas.{waiting_may_not}
use Rattle.book_steps.specs.Books.{BookHeld}
use Rattle.book_steps.specs.Turns.{Hands}
use Rattle.book_steps.proofs.book.StepBook.take.Goals as goal

not_halted : (halted told : Bool) → (halted ≡ true → told ≡ true) → told ≡ false → halted ≡ false
not_halted true told is other = absurd (let e : true ≡ false = sym (is refl) ∙ other in cc)
not_halted false told is other = refl

pub waits_for-requires-clause-lane : goal.waits_for-requires-clause-lane
waits_for-requires-clause-lane c = subst (λ (b : BookHeld). c.args.p < length b.state.lanes) (sym c.compute_for.ensures.book) c.requires.lane

pub waits_for-requires-clause-held : goal.waits_for-requires-clause-held
waits_for-requires-clause-held c in_window =
    let new : BookHeld = c.compute_for.new.self in
    let same = c.compute_for.ensures.book in
    subst (λ n. n < rounds_in new.table.lanes) (sym (ap (λ (b : BookHeld). posted_at b.state c.args.p) same))
    (c.compute_for.ensures.held c.if-not-compute_for.false (subst (λ (b : BookHeld). posted_at b.state c.args.p < least_posted b.state + b.window) same
    in_window))

pub hand_out-row-requires-clause-free : goal.hand_out-row-requires-clause-free
hand_out-row-requires-clause-free c = ap (λ (b : BookHeld). (lane_at b.state.lanes c.args.p).out) c.compute_for.ensures.book ∙ c.requires.free

pub hand_out-row-requires-clause-ready : goal.hand_out-row-requires-clause-ready
hand_out-row-requires-clause-ready c = c.in_default.ensures.none

pub hand_out-row-requires-clause-held : goal.hand_out-row-requires-clause-held
hand_out-row-requires-clause-held c =
    let new : BookHeld = c.compute_for.new.self in
    let same = c.compute_for.ensures.book in
    subst (λ n. n < rounds_in new.table.lanes) (sym (ap (λ (b : BookHeld). posted_at b.state c.args.p) same))
    (c.compute_for.ensures.held c.if-not-compute_for.false (subst (λ (b : BookHeld). posted_at b.state c.args.p < least_posted b.state + b.window) same
    c.in_default.ensures.none.in_window))

pub hand_out-row-requires-clause-running : goal.hand_out-row-requires-clause-running
hand_out-row-requires-clause-running c = ap (λ (b : BookHeld). b.state.halted) c.compute_for.ensures.book ∙ not_halted c.args.self.now.state.halted
    c.halted.result c.halted.ensures.1 c.if-halted.false

-- the computed round changes nothing that a look at the lane tells
pub returns-in-Some : goal.returns-in-Some
returns-in-Some c =
    let old : BookHeld = c.args.self.now in
    let new : BookHeld = c.compute_for.new.self in
    let p = c.args.p in
    let lane = c.in-Some.lane in
    let same : new ≡ record old { table = new.table } = c.compute_for.ensures.book in
    let reason : WaitsFor (plan_rows old.plan) old.window old.state p lane = subst (λ (b : BookHeld). WaitsFor (plan_rows b.plan) b.window b.state p lane)
    same c.in-Some.ensures.some in
    record {
      running = not_halted old.state.halted c.halted.result c.halted.ensures.1 c.if-halted.false;
      left = c.is_done.ensures.left c.if-is_done.false;
      not_legal = λ legal. waiting_may_not (plan_rows old.plan) old.window old.state p lane legal.0 reason legal.1;
      reason = reason;
      behind = subst (λ (b : BookHeld). posted_at b.state lane < posted_at b.state p) same c.in-Some.ensures.behind;
      held = c.compute_for.ensures.held c.if-not-compute_for.false;
      book = same;
    }

-- the computed round changes nothing that the row handed out rests on
pub returns : goal.returns
returns c =
    let old : BookHeld = c.args.self.now in
    let new : BookHeld = c.compute_for.new.self in
    let same : new ≡ record old { table = new.table } = c.compute_for.ensures.book in
    let hands : Hands (record old { table = new.table }) c.hand_out-row.new.self c.args.p c.hand_out-row.result =
    subst (λ (b : BookHeld). Hands b c.hand_out-row.new.self c.args.p c.hand_out-row.result) same c.hand_out-row.ensures in
    record { legal = hands.legal; book = hands.book }

pub returns-then-halted : goal.returns-then-halted
returns-then-halted c = (c.halted.ensures.0 c.if-halted.true, refl)

pub returns-then-is_done : goal.returns-then-is_done
returns-then-is_done c = (
  not_halted c.args.self.now.state.halted c.halted.result c.halted.ensures.1 c.if-halted.false,
  c.is_done.ensures.done
      c.if-is_done.true,
  refl,
)

pub compute_for-requires-clause-left : goal.compute_for-requires-clause-left
compute_for-requires-clause-left c = c.is_done.ensures.left c.if-is_done.false

pub returns-then-not-compute_for : goal.returns-then-not-compute_for
returns-then-not-compute_for c = c.compute_for.ensures.full c.if-not-compute_for.true
