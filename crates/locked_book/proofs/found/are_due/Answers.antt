use Rattle.std.proofs.Common.{ℕ, ◌<◌, arith, subst, sym}
use Rattle.locked_book.proofs.found.are_due.Goals as goal

nothing : (n : ℕ) → n < 0 → ⊥
nothing n low = omega (arith, low)

pub loop-p-init : goal.loop-p-init
loop-p-init g c = λ q low. absurd (nothing q low)

pub bounds-lanes-p : goal.bounds-lanes-p
bounds-lanes-p g c = subst (λ n. c.loop-p.p < n) (sym c.requires.width) c.loop-p-test.true

pub is_due-requires-clause-lane : goal.is_due-requires-clause-lane
is_due-requires-clause-lane g c = subst (λ n. c.loop-p.p < n) (sym c.requires.lanes) c.loop-p-test.true

pub is_due-requires-clause-open : goal.is_due-requires-clause-open
is_due-requires-clause-open g c = c.requires.open
