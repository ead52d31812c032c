use Rattle.run_tree.specs.Plans.{PlanContents}
use Rattle.run_tree.specs.Tree.{Tree}
use Rattle.exec_lanes.proofs.ErrorLemmas.{untrue}
use Rattle.std.proofs.Common.{rules, ◌≡◌, ◌∙◌, length, arith, ap, sym, subst, Bool, true, false, not, refl}
use Rattle.sched_base.specs.Tables.{Table, RowAt, rounds_in}
use Rattle.book_machine.specs.declared.machine.LaneState.{LaneState}
use Rattle.book_machine.specs.Machine.{posted_at}
use Rattle.plan_rounds.specs.PlanRows.{plan_rows}
use Rattle.plan_rounds.proofs.RoundLemmas.{plan_lanes}
use Rattle.locked_book.proofs.FoundLemmas.{out_row}
use Rattle.locked_book.proofs.found.is_out_at.Goals as goal

is_true : (b : Bool) → not b ≡ false → b ≡ true
is_true true e = refl
is_true false e = absurd (let is : true ≡ false = e in cc)

pub is_of_run-requires : goal.is_of_run-requires
is_of_run-requires g c = record { agreed = c.requires.agreed }

pub lane-lane-requires : goal.lane-lane-requires
lane-lane-requires g c =
    let lanes = c.is_of_run.ensures.lanes ∙ ap (λ (p : PlanContents). p.tree.processors) c.is_of_run.ensures.plan in
    let all = c.processors.ensures.value ∙ ap (λ (t : Tree). t.processors) c.tree.ensures.value in
    let below = c.if-p-processors.false in
    omega (arith, lanes, all, below)

pub table-requires : goal.table-requires
table-requires g c = c.is_of_run.ensures.open c.if-not-is_of_run.false

pub row-requires-clause-processor : goal.row-requires-clause-processor
row-requires-clause-processor g c =
    let held : length c.table.result.now.lanes ≡ length c.args.book.now.table.lanes = ap (λ (t : Table). length t.lanes) c.table.ensures.value in
    let first = c.table.ensures.first.same_lanes in
    let all = plan_lanes c.args.book.now.plan c.is_of_run.ensures.lawful in
    let same = c.is_of_run.ensures.plan in
    let wide = ap (λ (p : PlanContents). p.tree.processors) same in
    let processors = c.processors.ensures.value ∙ ap (λ (t : Tree). t.processors) c.tree.ensures.value in
    let below = c.if-p-processors.false in
    omega (arith, held, first, all, wide, processors, below)

pub row-requires-clause-round : goal.row-requires-clause-round
row-requires-clause-round g c =
    let lane = sym c.lane-lane.ensures in
    let held = ap (λ (t : Table). rounds_in t.lanes) c.table.ensures.value in
    let out = c.table.ensures.out c.lane-p.result (ap (λ (l : LaneState). l.out) lane ∙ is_true c.lane-lane.result.out c.if-not-lane.false) in
    let posted = ap (λ (l : LaneState). l.posted) lane in
    omega (arith, held, out, posted)

pub returns-then-not-is_of_run : goal.returns-then-not-is_of_run
returns-then-not-is_of_run g c = untrue

pub returns-then-not-lane : goal.returns-then-not-lane
returns-then-not-lane g c = untrue

pub returns : goal.returns
returns g c same =
    let here = sym c.lane-lane.ensures in
    record {
      plan = c.is_of_run.ensures.plan;
      undismissed = c.is_of_run.ensures.open c.if-not-is_of_run.false;
      count = ap (λ k. posted_at c.args.book.now.state k) (sym c.lane-p.ensures) ∙ ap (λ (l : LaneState). l.posted) here ∙ c.if-lane-posted.false
          ∙ c.posted.ensures;
      out = out_row c.args.book.now.table.lanes (plan_rows c.args.book.now.plan) c.args.book.now.state c.lane-p.result c.args.seat.now.lane
          c.lane-lane.result c.row.result c.args.row.now c.table.ensures.first c.lane-p.ensures c.lane-lane.ensures
          (is_true c.lane-lane.result.out c.if-not-lane.false) (subst (λ (t : Table). RowAt t.lanes c.lane-p.result c.lane-lane.result.posted c.row.result)
          c.table.ensures.value c.row.ensures.value) (search rules);
    }
