use Rattle.std.proofs.Common.{◌≡◌, ◌≤◌, ◌*◌, ℕ, ap, ◌∙◌, arith, length}
use Rattle.sched_base.specs.Sets.{SetContents}
use Rattle.sched_base.specs.Tables.{row_limit}
use Rattle.run_tree.specs.Tree.{Tree}
use Rattle.run_tree.specs.Plans.{PlanContents, rounds_of}
use Rattle.tests_executions.proofs.RunLemmas.{ok_of, ready}
use Rattle.tests_executions.proofs.executions.many_workers.run_on.Goals as goal

pub run_jobs-requires-clause-ready : goal.run_jobs-requires-clause-ready
run_jobs-requires-clause-ready g c = λ _ _.
    let p : PlanContents = c.args.plan.now in
    let wide = c.processors.ensures.value ∙ ap (λ (t : Tree). t.processors) c.tree.ensures.value in
    let many = c.count.ensures.value ∙ ap (λ (s : SetContents). length s.tasks) c.set.ensures.value in
    ready 24 25 _ _ _ _ c.requires.compiled
    (ok_of _ _ c.expect-rounds.ensures (λ (count : ℕ). (count ≡ rounds_of p) × (count * p.tree.processors ≤ row_limit)) c.count_rounds.ensures.count)
    (omega arith) (omega arith) (omega (arith, wide)) (omega (arith, many)) c.requires.kits
