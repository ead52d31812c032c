use Rattle.std.proofs.Common.{◌*◌, sym, ap}
use Rattle.std.proofs.Math.Nat.{mul-div_assoc, mul_assoc, div-mul_cancel}
use Rattle.rate_scale.proofs.rates.rate.Goals as goal

pub returns-clause-value : goal.returns-clause-value
returns-clause-value c = rw (c.from.ensures, c.from-2.ensures) (sym (mul-div_assoc c.args.period c.args.work c.requires.divides))

pub returns-clause-exact : goal.returns-clause-exact
returns-clause-exact c = rw (c.from.ensures, c.from-2.ensures, mul_assoc) (ap (λ n. c.args.work * n) (div-mul_cancel c.args.period c.requires.divides))
