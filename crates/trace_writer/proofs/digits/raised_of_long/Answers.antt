use Rattle.std.proofs.Common.{refl, arith}
use Rattle.trace_writer.proofs.DigitLemmas.{raised_is}
use Rattle.trace_writer.proofs.digits.raised_of_long.Goals as goal

pub returns-in-0-to-99999 : goal.returns-in-0-to-99999
returns-in-0-to-99999 c = raised_is 4 3 c.args.number _ refl refl (omega arith) (omega arith) (omega arith) (λ some. omega (arith, some))

pub returns-in-100000-to-999999 : goal.returns-in-100000-to-999999
returns-in-100000-to-999999 c = raised_is 5 2 c.args.number _ refl refl (omega arith) (omega arith) (omega arith) (λ some. omega (arith, some))

pub returns-in-1000000-to-9999999 : goal.returns-in-1000000-to-9999999
returns-in-1000000-to-9999999 c = raised_is 6 1 c.args.number _ refl refl (omega arith) (omega arith) (omega arith) (λ some. omega (arith, some))

pub returns-in_default : goal.returns-in_default
returns-in_default c = raised_is 7 0 c.args.number _ refl (omega arith) (omega arith) (omega arith) (omega arith) (λ some. omega (arith, some))
