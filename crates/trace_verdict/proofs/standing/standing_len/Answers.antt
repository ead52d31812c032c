use Rattle.std.proofs.Common.{◌≡◌, None, true, take, arith, subst, sym}
use Rattle.trace_verdict.specs.Standing.{stand}
use Rattle.sched_base.specs.declared.rows.Leaf.TheVariants as leaves
use Rattle.trace_verdict.proofs.StandingLemmas.{stands_front, stand_no_more}
use Rattle.trace_verdict.proofs.standing.standing_len.Goals as goal

pub returns-then-not-comes_after-clause-stands : goal.returns-then-not-comes_after-clause-stands
returns-then-not-comes_after-clause-stands c = stands_front c.args.rows.now c.loop-i.i c.loop-i.last c.loop-i.invariant

pub returns-clause-stands : goal.returns-clause-stands
returns-clause-stands c =
    let all : c.loop-i.i ≡ c.len.result = omega (arith, c.loop-i-test.false, c.loop-i.auto.i-end, c.len.ensures, c.len-i-end.ensures) in
    subst (λ n. stand None (take n c.args.rows.now) ≡ true) all (stands_front c.args.rows.now c.loop-i.i c.loop-i.last c.loop-i.invariant)

pub returns-then-not-comes_after-clause-stops : goal.returns-then-not-comes_after-clause-stops
returns-then-not-comes_after-clause-stops c = λ less.
    stand_no_more c.args.rows.now c.loop-i.i c.loop-i.last c.get-row.result
    (record { processor = 0; start = 0; end = 0; leaf = leaves.Task (record { 0 = 0 }) }) less c.get-row.ensures (sym c.if-not-comes_after.ensures)
    c.loop-i.invariant
