use Rattle.std.proofs.Common.{◌≡◌, ◌<◌, ◌+◌, ◌∙◌, Bool, true, false, refl, ap, subst, sym, length, arith}
use Rattle.sched_base.specs.Tables.{Table, rounds_in}
use Rattle.book_machine.specs.Machine.{lane_at, least_posted, posted_at, HasTakeable}
use Rattle.plan_rounds.specs.PlanRows.{plan_rows}
use Rattle.exec_book.specs.Books.{BookContents}
use Rattle.exec_book.specs.Looks.{Computes, Hands, StandsStill}
use Rattle.exec_book.proofs.book.Book.take_next.Goals as goal

not_halted : (halted told : Bool) → (halted ≡ true → told ≡ true) → told ≡ false → halted ≡ false
not_halted true told is other = absurd (let e : true ≡ false = sym (is refl) ∙ other in cc)
not_halted false told is other = refl

pub compute_for-requires-clause-lane : goal.compute_for-requires-clause-lane
compute_for-requires-clause-lane g c = c.requires.lane

pub compute_for-requires-clause-open : goal.compute_for-requires-clause-open
compute_for-requires-clause-open g c = c.requires.open

pub may_go-requires-clause-lane : goal.may_go-requires-clause-lane
may_go-requires-clause-lane g c = subst (λ (b : BookContents g.row.J.Denot). c.args.p < length b.state.lanes) (sym c.compute_for.ensures.book) c.requires.lane

pub may_go-requires-clause-open : goal.may_go-requires-clause-open
may_go-requires-clause-open g c none = c.requires.open (sym (ap (λ (b : BookContents g.row.J.Denot). b.side) c.compute_for.ensures.book) ∙ none)

pub may_go-requires-clause-held : goal.may_go-requires-clause-held
may_go-requires-clause-held g c in_window =
    let new : BookContents g.row.J.Denot = c.compute_for.new.self in
    let same = c.compute_for.ensures.book in
    subst (λ n. n < rounds_in new.table.lanes) (sym (ap (λ (b : BookContents g.row.J.Denot). posted_at b.state c.args.p) same))
    (c.compute_for.ensures.held (subst (λ (b : BookContents g.row.J.Denot). posted_at b.state c.args.p < least_posted b.state + b.window) same in_window))

pub hand_out-job-requires-clause-free : goal.hand_out-job-requires-clause-free
hand_out-job-requires-clause-free g c = ap (λ (b : BookContents g.row.J.Denot). (lane_at b.state.lanes c.args.p).out) c.compute_for.ensures.book
    ∙ c.requires.free

pub hand_out-job-requires-clause-ready : goal.hand_out-job-requires-clause-ready
hand_out-job-requires-clause-ready g c = c.may_go.ensures.0 c.if-may_go.true

pub hand_out-job-requires-clause-held : goal.hand_out-job-requires-clause-held
hand_out-job-requires-clause-held g c =
    let new : BookContents g.row.J.Denot = c.compute_for.new.self in
    let same = c.compute_for.ensures.book in
    subst (λ n. n < rounds_in new.table.lanes) (sym (ap (λ (b : BookContents g.row.J.Denot). posted_at b.state c.args.p) same))
    (c.compute_for.ensures.held (subst (λ (b : BookContents g.row.J.Denot). posted_at b.state c.args.p < least_posted b.state + b.window) same
    (c.may_go.ensures.0 c.if-may_go.true).in_window))

pub hand_out-job-requires-clause-open : goal.hand_out-job-requires-clause-open
hand_out-job-requires-clause-open g c none = c.requires.open (sym (ap (λ (b : BookContents g.row.J.Denot). b.side) c.compute_for.ensures.book) ∙ none)

pub returns-then-may_go-clause-rounds : goal.returns-then-may_go-clause-rounds
returns-then-may_go-clause-rounds g c =
    let same = c.hand_out-job.ensures.table in
    record {
      wanted = λ wants. ap (λ (t : Table). rounds_in t.lanes) same ∙ c.compute_for.ensures.rounds.wanted wants;
      unwanted = λ other. same ∙ c.compute_for.ensures.rounds.unwanted other;
    }

-- the computed round changes nothing that the row handed out rests on
pub returns-then-may_go-clause-says : goal.returns-then-may_go-clause-says
returns-then-may_go-clause-says g c =
    let old : BookContents g.row.J.Denot = c.args.self.now in
    let new : BookContents g.row.J.Denot = c.compute_for.new.self in
    let same : new ≡ record old { table = new.table } = c.compute_for.ensures.book in
    let hands : Hands g.J.Job.id g.J.Job.used g.J.Job.made g.Q.PostLedger.made (record old { table = new.table }) c.hand_out-job.new.self c.args.p
    c.hand_out-job.result.0 c.hand_out-job.result.1 =
    subst (λ (b : BookContents g.row.J.Denot). Hands g.J.Job.id g.J.Job.used g.J.Job.made g.Q.PostLedger.made b c.hand_out-job.new.self c.args.p
    c.hand_out-job.result.0 c.hand_out-job.result.1)
    same c.hand_out-job.ensures.hands in
    record { legal = hands.legal; ready = hands.ready; own = hands.own; book = hands.book }

pub is_done-requires : goal.is_done-requires
is_done-requires g c = c.requires.lane

pub returns-then-halted-clause-says : goal.returns-then-halted-clause-says
returns-then-halted-clause-says g c = (c.halted.ensures.0 c.if-halted.true, refl)

pub returns-then-halted-clause-rounds : goal.returns-then-halted-clause-rounds
returns-then-halted-clause-rounds g c =
    let halted = c.halted.ensures.0 c.if-halted.true in
    record { wanted = λ wants. absurd (let e : true ≡ false = sym halted ∙ wants.running in cc); unwanted = λ _. refl }

pub returns-then-is_done-clause-says : goal.returns-then-is_done-clause-says
returns-then-is_done-clause-says g c = (
  not_halted c.args.self.now.state.halted c.halted.result c.halted.ensures.1 c.if-halted.false,
  c.is_done.ensures.done
      c.if-is_done.true,
  refl,
)

pub returns-then-is_done-clause-rounds : goal.returns-then-is_done-clause-rounds
returns-then-is_done-clause-rounds g c =
    let all = c.is_done.ensures.done c.if-is_done.true in
    record { wanted = λ wants. absurd (let left = wants.left in omega (arith, all, left)); unwanted = λ _. refl }

pub compute_for-requires-clause-running : goal.compute_for-requires-clause-running
compute_for-requires-clause-running g c = not_halted c.args.self.now.state.halted c.halted.result c.halted.ensures.1 c.if-halted.false

pub compute_for-requires-clause-left : goal.compute_for-requires-clause-left
compute_for-requires-clause-left g c = c.is_done.ensures.left c.if-is_done.false

pub hand_out-job-requires-clause-running : goal.hand_out-job-requires-clause-running
hand_out-job-requires-clause-running g c = ap (λ (b : BookContents g.row.J.Denot). b.state.halted) c.compute_for.ensures.book
    ∙ not_halted c.args.self.now.state.halted c.halted.result c.halted.ensures.1 c.if-halted.false

pub mark-requires : goal.mark-requires
mark-requires g c = subst (λ (b : BookContents g.row.J.Denot). c.args.p < length b.state.lanes) (sym c.compute_for.ensures.book) c.requires.lane

pub returns-clause-rounds : goal.returns-clause-rounds
returns-clause-rounds g c =
    let same = c.mark.ensures in
    subst (λ (b : BookContents g.row.J.Denot). Computes c.args.self.now b c.args.p) (sym same) c.compute_for.ensures.rounds

-- the computed round changes nothing that a look at the lane tells
pub returns-clause-says : goal.returns-clause-says
returns-clause-says g c =
    let old : BookContents g.row.J.Denot = c.args.self.now in
    let new : BookContents g.row.J.Denot = c.compute_for.new.self in
    let p = c.args.p in
    let same : new ≡ record old { table = new.table } = c.compute_for.ensures.book in
    subst (λ (b : BookContents g.row.J.Denot). StandsStill old b p) (sym c.mark.ensures) (record {
      running = not_halted old.state.halted c.halted.result c.halted.ensures.1 c.if-halted.false;
      left = c.is_done.ensures.left c.if-is_done.false;
      not_legal = λ legal.
          let due : HasTakeable (plan_rows old.plan) old.window old.state p =
          record { in_window = legal.1.in_window; next = (legal.0, legal.1.is_next, legal.1.earlier) } in
          let told : c.may_go.result ≡ true = c.may_go.ensures.1 (subst (λ (b : BookContents g.row.J.Denot). HasTakeable (plan_rows b.plan) b.window b.state
          p) (sym same) due) in
          absurd (let e : true ≡ false = sym told ∙ c.if-may_go.false in cc);
      held = c.compute_for.ensures.held;
      book = same;
    })
