use Rattle.std.proofs.Common.{◌≤◌, length, arith, le_refl, le_trans}
use Rattle.std.specs.List.{enumerate_from}
use Rattle.std.proofs.lemmas.List.{take_all}
use Rattle.std.proofs.lemmas.List.FromFn.{length-enumerate_from}
use Rattle.sched_edges.proofs.CauseLemmas.{cause_cut, took_none}
use Rattle.trace_writer.specs.Parts.{line_of_met}
use Rattle.trace_writer.proofs.PageLemmas.{page_written, page_failed}
use Rattle.trace_writer.proofs.mets.write_mets_of_task.Goals as goal

pub loop-next-init : goal.loop-next-init
loop-next-init g c = (took_none _, le_refl _, omega arith)

pub returns-in_err-write_all-clause-wrote : goal.returns-in_err-write_all-clause-wrote
returns-in_err-write_all-clause-wrote g c =
    let wrote = rw c.as_slice.ensures at c.in_err-write_all.ensures.wrote in
    page_failed (line_of_met c.args.name.now) (enumerate_from 0 c.args.ends.now) c.loop-next.next c.fill-next.result c.fill-next.new.page _ _ _ _ _
    c.fill-next.ensures.text c.loop-next.invariant.0 wrote c.from_residual.ensures.0

pub loop-next-preserved : goal.loop-next-preserved
loop-next-preserved g c =
    let wrote = rw c.as_slice.ensures at c.in_ok-write_all.ensures.wrote in (
      page_written (line_of_met c.args.name.now) (enumerate_from 0 c.args.ends.now) c.loop-next.next c.fill-next.result c.fill-next.new.page _ _ _
          c.fill-next.ensures.text c.loop-next.invariant.0 wrote.ok,
      le_trans c.loop-next.invariant.1 c.write_all.ensures.cause.later,
      c.fill-next.ensures.within,
    )

pub returns-clause-wrote : goal.returns-clause-wrote
returns-clause-wrote g c =
    let ends = c.args.ends.now in
    let past : length (enumerate_from 0 ends) ≤ c.loop-next.next = omega (arith, length-enumerate_from 0 ends, c.loop-next-test.false) in
    record { ok = rw (take_all c.loop-next.next (enumerate_from 0 ends) past) at c.loop-next.invariant.0; err = tt }

pub returns-in_err-write_all-clause-cause : goal.returns-in_err-write_all-clause-cause
returns-in_err-write_all-clause-cause g c = cause_cut _ _ _ _ _ c.loop-next.invariant.1 c.in_err-write_all.ensures.cause

pub returns-clause-cause : goal.returns-clause-cause
returns-clause-cause g c = record { later = c.loop-next.invariant.1; failed = tt }
