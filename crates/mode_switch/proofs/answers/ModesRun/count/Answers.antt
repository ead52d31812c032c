use Rattle.std.proofs.Common.{rules, length, ◌<◌, ◌^◌, arith}
use Rattle.mode_switch.proofs.answers.ModesRun.count.Goals as goal

pub overflow_cast-result : goal.overflow_cast-result
overflow_cast-result c =
    let few = c.self.invariant in
    let short : length c.self.inside.runs.items < 2 ^ 32 = omega (arith, few) in
    search rules
