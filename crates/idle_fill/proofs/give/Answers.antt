use Rattle.std.proofs.Common.{arith}
use Rattle.idle_fill.proofs.FillLemmas.{given_none}
use Rattle.idle_fill.proofs.give.Goals as goal

pub returns-else-rate-gt0 : goal.returns-else-rate-gt0
returns-else-rate-gt0 c = given_none c.args.packing.now c.args.s c.args.rate c.requires.none (omega arith)
