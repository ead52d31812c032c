use Rattle.std.proofs.Common.{arith}
use Rattle.release_calendar.proofs.EndLemmas.{end_near}
use Rattle.release_calendar.proofs.next_ends.member_end.Goals as goal

pub overflow_cast-result : goal.overflow_cast-result
overflow_cast-result c =
    let e = c.from.ensures in
    let ne = c.if-end-from.false in
    let known = c.requires.known c.args.m.0 c.requires.member (λ s. omega (arith, e, ne, s)) in
    let near = end_near c.args.plan.now c.requires.plan c.args.m.0 c.args.at c.requires.member c.requires.at in
    omega (arith, known, near)
