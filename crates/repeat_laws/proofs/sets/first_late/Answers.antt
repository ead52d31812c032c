use Rattle.std.proofs.Common.{◌≡◌, arith}
use Rattle.repeat_laws.proofs.Repeating.{all_by_number}
use Rattle.repeat_laws.proofs.sets.first_late.Goals as goal

pub returns-clause-none : goal.returns-clause-none
returns-clause-none c = all_by_number (λ t. t.offset ≡ 0) c.args.tasks.now
    (λ k below. let past = c.loop-i-test.false in c.loop-i.invariant k (omega (arith, below, past)))
