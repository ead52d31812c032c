use Rattle.std.proofs.Common.{◌≡◌, ◌<◌, arith}
use Rattle.sched_edges.proofs.Wrote.{number_written, wrote_number}
use Rattle.tree_text.specs.Text.{level_text}
use Rattle.sched_edges.proofs.CauseLemmas.{cause_cut}
use Rattle.tree_text.proofs.PieceLemmas.{numbers_done}
use Rattle.tree_text.proofs.text.write_levels.Goals as goal

pub returns-in_err-write_level-clause-wrote : goal.returns-in_err-write_level-clause-wrote
returns-in_err-write_level-clause-wrote g c =
    let count = rw c.tree.ensures.value at c.levels-level-end.ensures.value in
    let within : c.loop-level.level < c.args.plan.now.tree.levels = omega (arith, count, c.loop-level-test.true) in
    wrote_number (level_text c.args.plan.now) c.args.plan.now.tree.levels c.loop-level.level _ _ _ _ _ within c.loop-level.invariant.0
    c.in_err-write_level.ensures.wrote c.from_residual.ensures.0

pub loop-level-preserved : goal.loop-level-preserved
loop-level-preserved g c =
    let before = c.loop-level.invariant.1 in
    let later = c.write_level.ensures.cause.later in (
      number_written (level_text c.args.plan.now) c.loop-level.level _ _ _ c.loop-level.invariant.0 c.in_ok-write_level.ensures.wrote.ok,
      omega (arith, before, later),
    )

pub returns-in_err-write_level-clause-cause : goal.returns-in_err-write_level-clause-cause
returns-in_err-write_level-clause-cause g c = cause_cut _ _ _ _ _ c.loop-level.invariant.1 c.in_err-write_level.ensures.cause

pub returns-clause-wrote : goal.returns-clause-wrote
returns-clause-wrote g c =
    let count = rw c.tree.ensures.value at c.levels-level-end.ensures.value in
    let all : c.loop-level.level ≡ c.args.plan.now.tree.levels = omega (arith, count, c.loop-level-test.false, c.loop-level.auto.level-end) in
    numbers_done (level_text c.args.plan.now) c.args.plan.now.tree.levels c.loop-level.level _ _ _ all c.loop-level.invariant.0

pub returns-clause-cause : goal.returns-clause-cause
returns-clause-cause g c = record { later = c.loop-level.invariant.1; failed = tt }
