use Rattle.std.proofs.Common.{false, ap, length, subst, sym, ◌∙◌}
use Rattle.run_tree.specs.Plans.{PlanContents}
use Rattle.locked_book.specs.Found.{IsToldAt, StandsAt}
use Rattle.locked_book.proofs.rows.lock_told_at.Goals as goal
use Rattle.locked_book.proofs.rows.lock_told_at.Goals.{After-deref-held}

found : (g : _) (c : After-deref-held g) → StandsAt c.args.work.now.plan.now c.deref-held.result.now c.args.seat.now false
found g c = subst (λ b. StandsAt c.args.work.now.plan.now b c.args.seat.now false) (sym c.deref-held.ensures) c.lock_at-guard.ensures

pub lock_at-guard-requires : goal.lock_at-guard-requires
lock_at-guard-requires g c = record { agreed = c.requires.agreed }

pub is_halted_or_told-requires-clause-open : goal.is_halted_or_told-requires-clause-open
is_halted_or_told-requires-clause-open g c = (found g (goal.at.is_halted_or_told-requires-clause-open g c).After-deref-held).undismissed

pub is_halted_or_told-requires-clause-counts : goal.is_halted_or_told-requires-clause-counts
is_halted_or_told-requires-clause-counts g c =
    c.requires.counts ∙ ap (λ (p : PlanContents). length p.set.tasks)
    (sym (found g (goal.at.is_halted_or_told-requires-clause-counts g c).After-deref-held).plan)

pub returns-then-is_halted_or_told : goal.returns-then-is_halted_or_told
returns-then-is_halted_or_told g c = subst (λ b. IsToldAt g.J.Job.faults c.args.work.now.plan.now b c.args.seat.now c.args.counts.now) c.deref-held.ensures
    (record { free = found g (goal.at.returns-then-is_halted_or_told g c).After-deref-held; told = c.is_halted_or_told.ensures c.if-is_halted_or_told.true })
