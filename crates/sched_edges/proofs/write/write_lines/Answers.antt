use Rattle.std.proofs.Common.{List, ℕ, arith}
use Rattle.std.proofs.lemmas.List.Concat.{concat_is}
use Rattle.std.specs.Io.KnownBytes.{Appends}
use Rattle.sched_edges.proofs.Wrote.{item_written, wrote_item}
use Rattle.sched_edges.proofs.write.write_lines.Goals as goal

pub returns-in_err-write_all-clause-wrote : goal.returns-in_err-write_all-clause-wrote
returns-in_err-write_all-clause-wrote g c =
    let wrote = rw c.as_slice.ensures.bytes at c.in_err-write_all.ensures.wrote in
    let before = rw concat_is at c.loop-line.invariant.0 in
    rw concat_is (wrote_item (λ (line : List ℕ). line) c.args.lines.now c.loop-line.line-index c.line-item.result _ _ _ _ _ c.loop-line-test.true
    c.line-item.is before wrote c.from_residual.ensures.0)

pub loop-line-preserved : goal.loop-line-preserved
loop-line-preserved g c =
    let now : Appends (g.W.Sink.taken c.loop-line.sink) (g.W.Sink.taken c.write_all.new.sink) c.line-item.result = rw (← c.as_slice.ensures.bytes)
    c.in_ok-write_all.ensures.wrote.ok in
    let before = rw concat_is at c.loop-line.invariant.0 in
    let later = c.write_all.ensures.cause.later in (
      rw concat_is (item_written (λ (line : List ℕ). line) c.args.lines.now c.loop-line.line-index c.line-item.result _ _ _ c.loop-line-test.true
          c.line-item.is before now),
      omega arith,
    )
