use Rattle.std.proofs.Common.{refl, arith}
use Rattle.trace_writer.proofs.DigitLemmas.{raised_is}
use Rattle.trace_writer.proofs.digits.raised_of_short.Goals as goal

pub returns-in-0-to-9 : goal.returns-in-0-to-9
returns-in-0-to-9 c = raised_is 0 7 c.args.number _ refl refl (omega arith) (omega arith) (omega arith) (λ some. omega (arith, some))

pub returns-in-10-to-99 : goal.returns-in-10-to-99
returns-in-10-to-99 c = raised_is 1 6 c.args.number _ refl refl (omega arith) (omega arith) (omega arith) (λ some. omega (arith, some))

pub returns-in-100-to-999 : goal.returns-in-100-to-999
returns-in-100-to-999 c = raised_is 2 5 c.args.number _ refl refl (omega arith) (omega arith) (omega arith) (λ some. omega (arith, some))

pub returns-in_default : goal.returns-in_default
returns-in_default c = raised_is 3 4 c.args.number _ refl refl (omega arith) (omega arith) (omega arith) (λ some. omega (arith, some))
