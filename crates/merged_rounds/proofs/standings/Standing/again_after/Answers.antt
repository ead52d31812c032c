use Rattle.std.proofs.Common.{◌≡◌, ℕ, ◌-◌, arith, subst}
use Rattle.merged_rounds.specs.Standings.{StandsAlike}
use Rattle.merged_rounds.proofs.standings.Standing.again_after.Goals as goal

pub returns-then-now-self : goal.returns-then-now-self
returns-then-now-self c =
    let tick = c.args.source.now.tick in
    let seen = c.args.self.now.tick in
    let now = c.now-now.ensures in
    let later = c.if-now-self.true in
    let e : seen ≡ tick - (c.now-now.result - seen) = omega (arith, now, later) in
    subst (λ (n : ℕ). StandsAlike c.args.plan.now n tick) e (c.in_ok-again.ensures c.if-again.true)
