use Rattle.std.proofs.Common.{ℕ, ◌<◌, ◌≡◌, length, arith, le_refl, le_trans}
use Rattle.sched_base.specs.Tables.{lane_of}
use Rattle.sched_edges.proofs.Wrote.{number_written, wrote_number}
use Rattle.table_text.specs.Lines.{processor_line}
use Rattle.sched_edges.proofs.CauseLemmas.{cause_cut, took_none}
use Rattle.table_text.proofs.lanes.write_processor_lines.Goals as goal

pub loop-p-init : goal.loop-p-init
loop-p-init g c = (took_none _, le_refl _)

pub returns-in_err-write_all-clause-wrote : goal.returns-in_err-write_all-clause-wrote
returns-in_err-write_all-clause-wrote g c =
    let lanes = c.args.rows.now.lanes in
    let many = c.processors-p-end.ensures in
    let below : c.loop-p.p < length lanes = omega (arith, many, c.loop-p-test.true) in
    let wrote = rw (c.as_slice.ensures.bytes, c.processor_line-line.ensures, c.count.ensures) at c.in_err-write_all.ensures.wrote in
    wrote_number (λ (p : ℕ). processor_line p (length (lane_of lanes p))) (length lanes) c.loop-p.p _ _ _ _ _ below c.loop-p.invariant.0 wrote
    c.from_residual.ensures.0

pub loop-p-preserved : goal.loop-p-preserved
loop-p-preserved g c =
    let lanes = c.args.rows.now.lanes in
    let wrote = rw (c.as_slice.ensures.bytes, c.processor_line-line.ensures, c.count.ensures) at c.in_ok-write_all.ensures.wrote in (
      number_written (λ (p : ℕ). processor_line p (length (lane_of lanes p))) c.loop-p.p _ _ _ c.loop-p.invariant.0 wrote.ok,
      le_trans c.loop-p.invariant.1
          c.write_all.ensures.cause.later,
    )

pub returns-clause-wrote : goal.returns-clause-wrote
returns-clause-wrote g c =
    let many = c.processors-p-end.ensures in
    let all : c.loop-p.p ≡ length c.args.rows.now.lanes = omega (arith, c.loop-p-test.false, c.loop-p.auto.p-end, many) in
    record { ok = rw all at c.loop-p.invariant.0; err = tt }

pub returns-in_err-write_all-clause-cause : goal.returns-in_err-write_all-clause-cause
returns-in_err-write_all-clause-cause g c = cause_cut _ _ _ _ _ c.loop-p.invariant.1 c.in_err-write_all.ensures.cause

pub returns-clause-cause : goal.returns-clause-cause
returns-clause-cause g c = record { later = c.loop-p.invariant.1; failed = tt }
