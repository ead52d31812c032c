use Rattle.std.proofs.Common.{ap, ◌∙◌, arith}
use Rattle.run_tree.specs.Plans.{PlanContents}
use Rattle.run_tree.specs.Tree.{Tree}
use Rattle.exec_lanes.proofs.ErrorLemmas.{untrue}
use Rattle.locked_book.proofs.found.stands_at.Goals as goal

pub is_of_run-requires : goal.is_of_run-requires
is_of_run-requires g c = record { agreed = c.requires.agreed }

pub lane-lane-requires : goal.lane-lane-requires
lane-lane-requires g c =
    let lanes = c.is_of_run.ensures.lanes ∙ ap (λ (p : PlanContents). p.tree.processors) c.is_of_run.ensures.plan in
    let all = c.processors.ensures.value ∙ ap (λ (t : Tree). t.processors) c.tree.ensures.value in
    let own = c.lane.ensures in
    let again = c.lane-2.ensures in
    let below = c.if-lane-processors.false in
    omega (arith, lanes, all, own, again, below)

pub returns-then-not-is_of_run : goal.returns-then-not-is_of_run
returns-then-not-is_of_run g c = untrue
