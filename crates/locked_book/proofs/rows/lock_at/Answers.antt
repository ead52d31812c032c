use Rattle.std.proofs.Common.{subst}
use Rattle.locked_book.specs.Found.{StandsAt}
use Rattle.locked_book.proofs.rows.lock_at.Goals as goal

pub stands_at-requires : goal.stands_at-requires
stands_at-requires g c = record { agreed = c.requires.agreed }

pub returns-then-stands_at : goal.returns-then-stands_at
returns-then-stands_at g c = subst (λ b. StandsAt c.args.work.now.plan.now b c.args.seat.now c.args.out) c.deref-held.ensures
    (c.stands_at.ensures c.if-stands_at.true)
