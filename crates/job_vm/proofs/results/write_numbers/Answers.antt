use Rattle.sched_edges.proofs.CauseLemmas.{cause_cut, took_none}
use Rattle.std.proofs.Common.{◌∷◌, get_or, le_refl, le_trans}
use Rattle.std.specs.Prelude.{decimal}
use Rattle.std.proofs.lemmas.List.{get_or_default}
use Rattle.sched_edges.proofs.Wrote.{item_written, wrote_item}
use Rattle.job_vm.proofs.results.write_numbers.Goals as goal

pub returns-in_err-write_all-clause-wrote : goal.returns-in_err-write_all-clause-wrote
returns-in_err-write_all-clause-wrote g c =
    let numbers = c.args.numbers.now in
    let i = c.loop-number.number-index in
    let line = rw (c.as_slice.ensures.bytes, c.word_of.ensures) at c.in_err-write_all.ensures.wrote in
    wrote_item (λ n. 32 ∷ decimal n) numbers i (get_or numbers i 0) _ _ _ _ c.from_residual.result c.loop-number-test.true
    (get_or_default numbers i 0 (get_or numbers i 0) c.loop-number-test.true) c.loop-number.invariant.0 line c.from_residual.ensures.0

pub returns-in_err-write_all-clause-cause : goal.returns-in_err-write_all-clause-cause
returns-in_err-write_all-clause-cause g c = cause_cut _ _ _ _ _ c.loop-number.invariant.1 c.in_err-write_all.ensures.cause

pub returns-clause-cause : goal.returns-clause-cause
returns-clause-cause g c = record { later = c.loop-number.invariant.1; failed = tt }

pub loop-number-init : goal.loop-number-init
loop-number-init g c = (took_none _, le_refl _)

pub loop-number-preserved : goal.loop-number-preserved
loop-number-preserved g c =
    let numbers = c.args.numbers.now in
    let i = c.loop-number.number-index in
    let line = rw (c.as_slice.ensures.bytes, c.word_of.ensures) at c.in_ok-write_all.ensures.wrote in (
      item_written (λ n. 32 ∷ decimal n) numbers i (get_or numbers i 0) _ _ _ c.loop-number-test.true (get_or_default numbers i 0 (get_or numbers i 0)
          c.loop-number-test.true) c.loop-number.invariant.0 line.ok,
      le_trans c.loop-number.invariant.1 c.write_all.ensures.cause.later,
    )
