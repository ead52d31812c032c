use Rattle.std.proofs.Common.{◌≡◌, arith}
use Rattle.sched_edges.proofs.Wrote.{number_written, wrote_number}
use Rattle.tree_text.specs.Text.{idle_line}
use Rattle.sched_edges.proofs.CauseLemmas.{cause_cut}
use Rattle.tree_text.proofs.PieceLemmas.{numbers_done}
use Rattle.tree_text.proofs.idles.write_rates.Goals as goal

pub returns-in_err-write_all-clause-wrote : goal.returns-in_err-write_all-clause-wrote
returns-in_err-write_all-clause-wrote g c =
    let wrote = rw (c.as_slice.ensures.bytes, c.numbers_line-line.ensures, c.idle_rate.ensures, c.from.ensures) at c.in_err-write_all.ensures.wrote in
    wrote_number (idle_line c.args.tree.now) c.args.count c.loop-k.k _ _ _ _ _ c.loop-k-test.true c.loop-k.invariant.0 wrote c.from_residual.ensures.0

pub loop-k-preserved : goal.loop-k-preserved
loop-k-preserved g c =
    let now = rw (c.as_slice.ensures.bytes, c.numbers_line-line.ensures, c.idle_rate.ensures, c.from.ensures) at c.in_ok-write_all.ensures.wrote.ok in
    let before = c.loop-k.invariant.1 in
    let later = c.write_all.ensures.cause.later in
    (number_written (idle_line c.args.tree.now) c.loop-k.k _ _ _ c.loop-k.invariant.0 now, omega (arith, before, later))

pub returns-in_err-write_all-clause-cause : goal.returns-in_err-write_all-clause-cause
returns-in_err-write_all-clause-cause g c = cause_cut _ _ _ _ _ c.loop-k.invariant.1 c.in_err-write_all.ensures.cause

pub returns-clause-wrote : goal.returns-clause-wrote
returns-clause-wrote g c =
    let all : c.loop-k.k ≡ c.args.count = omega (arith, c.loop-k-test.false, c.loop-k.auto.k-end) in
    numbers_done (idle_line c.args.tree.now) c.args.count c.loop-k.k _ _ _ all c.loop-k.invariant.0

pub returns-clause-cause : goal.returns-clause-cause
returns-clause-cause g c = record { later = c.loop-k.invariant.1; failed = tt }
