use Rattle.std.proofs.Common.{◌≡◌, ◌<◌, ◌∙◌, length, take, subst, sym, ap, arith}
use Rattle.std.proofs.Math.Seq.{take-length}
use Rattle.trace_check.specs.Reaches.{HaveEnds}
use Rattle.trace_check.proofs.EndsLemmas.{rows_step}
use Rattle.trace_check.proofs.reaches.add_rows.Goals as goal

pub loop-i-init : goal.loop-i-init
loop-i-init c = (c.requires, λ scale tasks p. p)

pub add_row-requires : goal.add_row-requires
add_row-requires c = (take c.loop-i.i c.args.rows.now, c.loop-i.invariant.0)

pub loop-i-preserved : goal.loop-i-preserved
loop-i-preserved c =
    let within : c.loop-i.i < length c.args.rows.now = omega (arith, c.loop-i-test.true, c.len-i-end.ensures) in (
      subst (λ rows. HaveEnds rows c.add_row.new.reaches) (sym (rows_step c.args.rows.now c.loop-i.i c.get.result within c.get.ensures))
          (c.in_ok-add_row.ensures.ends (take c.loop-i.i c.args.rows.now) c.loop-i.invariant.0),
      (λ scale tasks p. c.in_ok-add_row.ensures.periods scale tasks (c.loop-i.invariant.1 scale tasks p)),
    )

pub returns-clause-periods : goal.returns-clause-periods
returns-clause-periods c = c.loop-i.invariant.1

pub returns-clause-ends : goal.returns-clause-ends
returns-clause-ends c =
    let all : c.loop-i.i ≡ length c.args.rows.now = omega (arith, c.loop-i-test.false, c.loop-i.auto.i-end, c.len-i-end.ensures) in
    subst (λ rows. HaveEnds rows c.loop-i.reaches) (ap (λ n. take n c.args.rows.now) all ∙ take-length c.args.rows.now) c.loop-i.invariant.0
