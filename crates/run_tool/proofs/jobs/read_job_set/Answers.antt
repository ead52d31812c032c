use Rattle.std.proofs.Common.{ℕ, ◌≤◌, length, subst, sym}
use Rattle.std.proofs.lemmas.Result.{IfOk-from_err}
use Rattle.mode_switch.proofs.RunLemmas.{told_fault}
use Rattle.run_tool.proofs.JobInputLemmas.{rest_is, no_set, stray_program, set_read}
use Rattle.run_tool.proofs.jobs.read_job_set.Goals as goal

pub slice_bounds-read_set-count : goal.slice_bounds-read_set-count
slice_bounds-read_set-count c = subst (λ (n : ℕ). n ≤ length c.args.bytes.now) (sym c.set_start.ensures) c.requires.within

pub returns-in_err-set-clause-read : goal.returns-in_err-set-clause-read
returns-in_err-set-clause-read c = IfOk-from_err _ _ c.from_residual.ensures.0

pub returns-in_err-set-clause-refused : goal.returns-in_err-set-clause-refused
returns-in_err-set-clause-refused c =
    told_fault _ _ _ c.from_residual.ensures.1
    (no_set c.args.bytes.now _ c.args.text.now c.requires.text (rest_is c.args.bytes.now c.args.text.now c.set_start.result c.set_start.ensures)
    c.in_err-set.field-0.0 c.in_err-set.ensures)

pub returns-in-Some-clause-refused : goal.returns-in-Some-clause-refused
returns-in-Some-clause-refused c =
    stray_program c.args.bytes.now _ c.args.text.now c.requires.text
    (rest_is c.args.bytes.now c.args.text.now c.set_start.result c.set_start.ensures) c.in_ok-set.set c.in-Some.line c.in_ok-set.ensures
    (sym c.in-Some.ensures)

pub returns-in-None-clause-read : goal.returns-in-None-clause-read
returns-in-None-clause-read c =
    set_read c.args.bytes.now _ c.args.text.now c.requires.text
    (rest_is c.args.bytes.now c.args.text.now c.set_start.result c.set_start.ensures) c.in_ok-set.set c.in_ok-set.ensures (sym c.in-None.ensures)
