use Rattle.std.proofs.Common.{ap, length, subst, sym, ◌∙◌}
use Rattle.run_tree.specs.Plans.{PlanContents}
use Rattle.locked_book.specs.Found.{IsClosable}
use Rattle.exec_workers.proofs.close.lock_closable.Goals as goal

pub is_whole_at-requires-clause-agreed : goal.is_whole_at-requires-clause-agreed
is_whole_at-requires-clause-agreed g c = c.requires.agreed

pub is_whole_at-requires-clause-lanes : goal.is_whole_at-requires-clause-lanes
is_whole_at-requires-clause-lanes g c = c.requires.lanes

pub faults_are-requires-clause-open : goal.faults_are-requires-clause-open
faults_are-requires-clause-open g c = (c.is_whole_at.ensures c.if-is_whole_at.true).undismissed

pub faults_are-requires-clause-each : goal.faults_are-requires-clause-each
faults_are-requires-clause-each g c = c.requires.counts ∙ ap (λ (p : PlanContents). length p.set.tasks) (sym (c.is_whole_at.ensures c.if-is_whole_at.true).plan)

pub returns-then-faults_are : goal.returns-then-faults_are
returns-then-faults_are g c = subst (λ b. IsClosable g.J.Job.faults c.args.work.now.plan.now b c.args.posted.now c.args.counts.now) c.deref-held.ensures
    (record { whole = c.is_whole_at.ensures c.if-is_whole_at.true; told = c.faults_are.ensures.0 c.if-faults_are.true })
