use Rattle.std.proofs.Common.{ℕ, ◌≡◌, ◌<◌, arith, le_refl, le_trans}
use Rattle.std.specs.List.{concat}
use Rattle.sched_edges.proofs.Wrote.{number_written, wrote_number}
use Rattle.trace_draw.proofs.Parts.{lane_lines}
use Rattle.sched_edges.proofs.CauseLemmas.{cause_cut, took_none}
use Rattle.trace_draw.proofs.head.write_lanes.Goals as goal

pub loop-processor-init : goal.loop-processor-init
loop-processor-init g c = (took_none _, le_refl _)

pub returns-in_err-write_lines-clause-wrote : goal.returns-in_err-write_lines-clause-wrote
returns-in_err-write_lines-clause-wrote g c =
    let p = c.loop-processor.processor in
    let below : p < c.args.set.now.processors = omega (arith, c.loop-processor-test.true, c.processors-processor-end.ensures.value) in
    let wrote = rw c.lane_lines.ensures at c.in_err-write_lines.ensures.wrote in
    wrote_number (λ (n : ℕ). concat (lane_lines n)) c.args.set.now.processors p _ _ _ _ _ below c.loop-processor.invariant.0 wrote c.from_residual.ensures.0

pub loop-processor-preserved : goal.loop-processor-preserved
loop-processor-preserved g c =
    let p = c.loop-processor.processor in
    let wrote = rw c.lane_lines.ensures at c.in_ok-write_lines.ensures.wrote in (
      number_written (λ (n : ℕ). concat (lane_lines n)) p _ _ _ c.loop-processor.invariant.0 wrote.ok,
      le_trans c.loop-processor.invariant.1
          c.write_lines.ensures.cause.later,
    )

pub returns-clause-wrote : goal.returns-clause-wrote
returns-clause-wrote g c =
    let all : c.loop-processor.processor ≡ c.args.set.now.processors = omega (
      arith,
      c.loop-processor-test.false,
      c.loop-processor.auto.processor-end,
      c.processors-processor-end.ensures.value,
    ) in
    record { ok = rw all at c.loop-processor.invariant.0; err = tt }

pub returns-in_err-write_lines-clause-cause : goal.returns-in_err-write_lines-clause-cause
returns-in_err-write_lines-clause-cause g c = cause_cut _ _ _ _ _ c.loop-processor.invariant.1 c.in_err-write_lines.ensures.cause

pub returns-clause-cause : goal.returns-clause-cause
returns-clause-cause g c = record { later = c.loop-processor.invariant.1; failed = tt }
