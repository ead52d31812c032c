use Rattle.std.proofs.Common.{List, ℕ, ◌≤◌, Err, length, ap, subst, sym}
use Rattle.std.proofs.lemmas.Result.{IfOk-from_err, IfOk-weaker, IfErr-weaker}
use Rattle.mode_switch.proofs.RunLemmas.{told_fault}
use Rattle.run_tool.specs.JobInput.{RefusesJobText}
use Rattle.run_tool.specs.JobPrograms.{ReadsJobs}
use Rattle.pure_commands.specs.Commands.{set_limit}
use Rattle.run_tool.proofs.JobInputLemmas.{untaken_jobs, unread_jobs, jobs_read}
use Rattle.run_tool.proofs.jobs.read_job_input.Goals as goal

pub returns-in_err-bytes-clause-read : goal.returns-in_err-bytes-clause-read
returns-in_err-bytes-clause-read g c = IfOk-from_err _ _ c.from_residual.ensures.0

pub returns-in_err-bytes-clause-refusal : goal.returns-in_err-bytes-clause-refusal
returns-in_err-bytes-clause-refusal g c =
    let taken = c.in_err-bytes.ensures in
    told_fault _ _ _ c.from_residual.ensures.1
    (untaken_jobs _ _ _ _ _ c.in_err-bytes.field-0.0 (λ count is. taken.too_long count (ap Err is)) (λ is. taken.read (ap Err is))
    (λ is. taken.unfinished (ap Err is)))

pub read_job_text-requires : goal.read_job_text-requires
read_job_text-requires g c = subst (λ (b : List ℕ). length b ≤ set_limit) (sym c.as_slice.ensures) c.in_ok-bytes.ensures.all.within

pub returns-clause-read : goal.returns-clause-read
returns-clause-read g c =
    IfOk-weaker c.read_job_text.result _ _
    (λ read reads. jobs_read _ _ _ c.in_ok-bytes.bytes read.0 read.1 c.in_ok-bytes.ensures.all
    (subst (λ (b : List ℕ). ReadsJobs b read.0 read.1) c.as_slice.ensures reads)) c.read_job_text.ensures.read

pub returns-clause-refusal : goal.returns-clause-refusal
returns-clause-refusal g c =
    IfErr-weaker c.read_job_text.result _ _
    (λ r refused. unread_jobs _ _ _ _ _ c.in_ok-bytes.bytes r c.in_ok-bytes.ensures.all
    (subst (λ (b : List ℕ). RefusesJobText b r) c.as_slice.ensures refused)) c.read_job_text.ensures.refused
