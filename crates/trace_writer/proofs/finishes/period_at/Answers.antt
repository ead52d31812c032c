use Rattle.std.proofs.Common.{◌≤◌, ◌≡◌, ◌-◌, ◌/◌, refl, arith}
use Rattle.trace_writer.proofs.FinishLemmas.{period_before}
use Rattle.trace_writer.proofs.finishes.period_at.Goals as goal

pub returns-then-scale-eq0 : goal.returns-then-scale-eq0
returns-then-scale-eq0 c = λ first. absurd (omega (arith, first))

pub returns : goal.returns
returns c = λ first.
    let some : 1 ≤ c.args.scale = omega (arith, c.if-scale-eq0.false) in
    let is : c.saturating_sub.result / c.from-2.result ≡ (c.args.tick / c.args.scale - c.args.task.now.offset) / c.args.task.now.period =
    rw (c.saturating_sub.ensures, c.from.ensures, c.from-2.ensures) refl in
    period_before c.args.scale c.args.tick _ c.args.task.now c.requires.some some is first
