use Rattle.std.proofs.Common.{ap, ◌∙◌, arith, length}
use Rattle.std.specs.Prelude.{slice_get}
use Rattle.sched_base.specs.Sets.{SetContents}
use Rattle.sched_edges.specs.Jobs.{CountHeld, JobPlaces}
use Rattle.run_tree.specs.Plans.{PlanContents}
use Rattle.tests_executions.proofs.books.halts.dismiss.Goals as goal

pub assert_closing-requires : goal.assert_closing-requires
assert_closing-requires g c = λ t below.
    let many = c.count.ensures.value ∙ ap (λ (s : SetContents). length s.tasks) c.set.ensures.value ∙ ap (λ (p : PlanContents). length p.set.tasks)
    c.plan-2.ensures.value in
    let job = c.dismiss-closing.ensures.home t (omega (arith, below, many)) in
    (job.0, ap (λ (j : JobPlaces CountHeld). slice_get j.places t) c.dismiss-closing.ensures.jobs ∙ job.1)
