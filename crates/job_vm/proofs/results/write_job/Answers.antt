use Rattle.sched_edges.proofs.CauseLemmas.{cause_cut}
use Rattle.std.proofs.Common.{[], ◌∷◌, le_refl}
use Rattle.sched_edges.proofs.Wrote.{wrote_then, wrote_cut}
use Rattle.job_vm.proofs.ResultsLemmas.{job_line_is}
use Rattle.job_vm.proofs.results.write_job.Goals as goal

pub returns-in_err-write_all-clause-wrote : goal.returns-in_err-write_all-clause-wrote
returns-in_err-write_all-clause-wrote g c =
    let start = rw (c.as_slice.ensures.bytes, c.start_of_line.ensures) at c.in_err-write_all.ensures.wrote in
    rw job_line_is (wrote_cut _ _ _ _ _ c.from_residual.result start c.from_residual.ensures.0)

pub returns-in_err-write_numbers-clause-wrote : goal.returns-in_err-write_numbers-clause-wrote
returns-in_err-write_numbers-clause-wrote g c =
    let start = rw (c.as_slice.ensures.bytes, c.start_of_line.ensures) at c.in_ok-write_all.ensures.wrote in
    let numbers = wrote_cut _ _ _ (10 ∷ []) _ c.from_residual-in_err-write_numbers.result c.in_err-write_numbers.ensures.wrote
    c.from_residual-in_err-write_numbers.ensures.0 in
    rw job_line_is (wrote_then _ _ _ _ _ _ c.from_residual-in_err-write_numbers.result start numbers)

pub returns-clause-wrote : goal.returns-clause-wrote
returns-clause-wrote g c =
    let start = rw (c.as_slice.ensures.bytes, c.start_of_line.ensures) at c.in_ok-write_all.ensures.wrote in
    let end = wrote_then _ _ _ _ (10 ∷ []) _ c.write_all-2.result c.in_ok-write_numbers.ensures.wrote c.write_all-2.ensures.wrote in
    rw job_line_is (wrote_then _ _ _ _ _ _ c.write_all-2.result start end)

pub returns-in_err-write_all-clause-cause : goal.returns-in_err-write_all-clause-cause
returns-in_err-write_all-clause-cause g c = cause_cut _ _ _ _ _ (le_refl _) c.in_err-write_all.ensures.cause

pub returns-in_err-write_numbers-clause-cause : goal.returns-in_err-write_numbers-clause-cause
returns-in_err-write_numbers-clause-cause g c = cause_cut _ _ _ _ _ c.in_ok-write_all.ensures.cause.later c.in_err-write_numbers.ensures.cause
