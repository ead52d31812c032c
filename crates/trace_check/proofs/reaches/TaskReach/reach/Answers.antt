use Rattle.std.proofs.Common.{◌<◌, ◌∙◌, max, length, ap, arith}
use Rattle.trace_check.proofs.EndsLemmas.{reach_kept}
use Rattle.trace_check.proofs.reaches.TaskReach.reach.Goals as goal

pub returns-then-k-len : goal.returns-then-k-len
returns-then-k-len c =
    let within : c.args.k < length c.args.self.now.ends = omega (arith, c.if-k-len.true, c.len.ensures) in
    c.max.ensures ∙ (ap (max c.args.before) c.get.ensures ∙ reach_kept c.args.rows.now c.args.task c.args.self.now c.args.k c.args.before c.requires.ends
    within c.requires.before)
