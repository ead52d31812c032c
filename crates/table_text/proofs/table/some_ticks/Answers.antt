use Rattle.std.proofs.Common.{◌≤◌, ◌*◌, arith}
use Rattle.std.proofs.Math.Nat.{mul-pos}
use Rattle.table_text.proofs.table.some_ticks.Goals as goal

pub returns-clause-some : goal.returns-clause-some
returns-clause-some c =
    let some : 1 ≤ c.args.set.now.horizon * c.args.scale = mul-pos c.know_lawful.ensures.lawful.some_horizon c.requires.some_scale in
    let is = c.ticks_of.ensures in
    omega (arith, some, is)
