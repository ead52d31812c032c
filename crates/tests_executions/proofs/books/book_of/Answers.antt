use Rattle.std.proofs.Common.{ap, arith, length, refl, ◌∙◌, sym}
use Rattle.sched_base.specs.Sets.{SetContents}
use Rattle.run_tree.specs.Plans.{PlanContents}
use Rattle.tests_executions.proofs.books.book_of.Goals as goal

pub new-requires-clause-jobs : goal.new-requires-clause-jobs
new-requires-clause-jobs g c = λ t task. (
  record { id = t; used = 0 },
  c.jobs_of-jobs.ensures t (
      let same = rw c.expect-plan.ensures at c.copy.ensures in
      let many = c.count.ensures.value ∙ ap (λ (s : SetContents). length s.tasks) c.set.ensures.value ∙ ap (λ (p : PlanContents). length p.set.tasks)
      (sym same) in
      omega (arith, task, many)
      ),
  record { own = refl; worked = refl; agrees = rw c.requires.made refl },
)
