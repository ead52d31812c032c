use Rattle.std.proofs.Common.{refl, arith}
use Rattle.trace_writer.proofs.DigitLemmas.{raised_of_len}
use Rattle.trace_writer.proofs.digits.raise_of.Goals as goal

pub returns-in-25-clause-raised : goal.returns-in-25-clause-raised
returns-in-25-clause-raised c n long few = raised_of_len c.args.len 0 7 n _ c.in-25.is refl refl few (omega (arith, few)) (omega (arith, few))
    (λ some. omega (arith, long))

pub returns-in-26-clause-raised : goal.returns-in-26-clause-raised
returns-in-26-clause-raised c n long few = raised_of_len c.args.len 1 6 n _ c.in-26.is refl refl few (omega (arith, few)) (omega (arith, few))
    (λ some. omega (arith, long))

pub returns-in-27-clause-raised : goal.returns-in-27-clause-raised
returns-in-27-clause-raised c n long few = raised_of_len c.args.len 2 5 n _ c.in-27.is refl refl few (omega (arith, few)) (omega (arith, few))
    (λ some. omega (arith, long))

pub returns-in-28-clause-raised : goal.returns-in-28-clause-raised
returns-in-28-clause-raised c n long few = raised_of_len c.args.len 3 4 n _ c.in-28.is refl refl few (omega (arith, few)) (omega (arith, few))
    (λ some. omega (arith, long))

pub returns-in-29-clause-raised : goal.returns-in-29-clause-raised
returns-in-29-clause-raised c n long few = raised_of_len c.args.len 4 3 n _ c.in-29.is refl refl few (omega (arith, few)) (omega (arith, few))
    (λ some. omega (arith, long))

pub returns-in-30-clause-raised : goal.returns-in-30-clause-raised
returns-in-30-clause-raised c n long few = raised_of_len c.args.len 5 2 n _ c.in-30.is refl refl few (omega (arith, few)) (omega (arith, few))
    (λ some. omega (arith, long))

pub returns-in-31-clause-raised : goal.returns-in-31-clause-raised
returns-in-31-clause-raised c n long few = raised_of_len c.args.len 6 1 n _ c.in-31.is refl refl few (omega (arith, few)) (omega (arith, few))
    (λ some. omega (arith, long))

pub returns-in-32-clause-raised : goal.returns-in-32-clause-raised
returns-in-32-clause-raised c n long few = raised_of_len c.args.len 7 0 n _ c.in-32.is refl refl few (omega (arith, few)) (omega (arith, few))
    (λ some. omega (arith, long))
