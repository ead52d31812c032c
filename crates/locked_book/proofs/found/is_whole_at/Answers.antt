use Rattle.exec_lanes.proofs.ErrorLemmas.{untrue}
use Rattle.std.proofs.Common.{◌≡◌, ◌<◌, ◌∙◌, ℕ, length, ap, sym, arith, below_more}
use Rattle.run_tree.specs.Tree.{Tree}
use Rattle.run_tree.specs.Plans.{PlanContents}
use Rattle.book_machine.specs.declared.machine.LaneState.{LaneState}
use Rattle.locked_book.proofs.FoundLemmas.{counts_are, none_out}
use Rattle.locked_book.proofs.found.is_whole_at.Goals.{After-loop-p}
use Rattle.locked_book.proofs.found.is_whole_at.Goals as goal

pub loop-p-preserved : goal.loop-p-preserved
loop-p-preserved g c =
    let lane = sym c.lane-lane.ensures in
    below_more _ _ c.loop-p.invariant (ap (λ (l : LaneState). l.out) lane ∙ c.if-lane.false, ap (λ (l : LaneState). l.posted) lane ∙ c.if-lane-posted.false)

module _ (g : _) (c : After-loop-p g) where
  wide : length c.args.book.now.state.lanes ≡ c.args.plan.now.tree.processors
  wide = c.is_of_run.ensures.lanes ∙ ap (λ (p : PlanContents). p.tree.processors) c.is_of_run.ensures.plan

  passed : (q : ℕ) → q < length c.args.book.now.state.lanes → q < c.loop-p.p
  passed q within =
      let all = c.processors-p-end.ensures.value ∙ ap (λ (t : Tree). t.processors) c.tree.ensures.value in
      let lanes = wide in
      let end = c.loop-p-test.false in
      omega (arith, within, all, lanes, end)

pub returns : goal.returns
returns g c _ =
    let after = (goal.at.returns g c).After-loop-p in
    record {
      plan = c.is_of_run.ensures.plan;
      undismissed = c.is_of_run.ensures.open c.if-not-is_of_run.false;
      none_out = none_out c.args.book.now.state (λ q within. (c.loop-p.invariant q (passed g after q within)).0);
      counts = counts_are c.args.book.now.state.lanes c.args.posted.now (wide g after ∙ sym c.requires.lanes)
          (λ q within. (c.loop-p.invariant q (passed g after q within)).1);
    }

pub is_of_run-requires : goal.is_of_run-requires
is_of_run-requires g c = record { agreed = c.requires.agreed }

pub returns-then-not-is_of_run : goal.returns-then-not-is_of_run
returns-then-not-is_of_run g c = untrue

pub loop-p-init : goal.loop-p-init
loop-p-init g c q below = absurd (omega (arith, below))

pub lane-lane-requires : goal.lane-lane-requires
lane-lane-requires g c =
    let lanes = c.is_of_run.ensures.lanes ∙ ap (λ (p : PlanContents). p.tree.processors) c.is_of_run.ensures.plan in
    let all = c.processors-p-end.ensures.value ∙ ap (λ (t : Tree). t.processors) c.tree.ensures.value in
    let below = c.loop-p-test.true in
    omega (arith, lanes, all, below)

pub returns-then-lane : goal.returns-then-lane
returns-then-lane g c = untrue
