use Rattle.std.proofs.Common.{rules, length, ◌<◌, ◌^◌, arith}
use Rattle.mode_join.proofs.ModeLemmas.{few_modes}
use Rattle.mode_join.proofs.modes.Modes.count.Goals as goal

pub overflow_cast-result : goal.overflow_cast-result
overflow_cast-result c =
    let are = c.self.invariant.0 in
    let few = few_modes c.self.inside.processors are.some_processors c.self.inside.modes.items are.each in
    let rows = are.few_rows in
    let short : length c.self.inside.modes.items < 2 ^ 32 = omega (arith, few, rows) in
    search rules
