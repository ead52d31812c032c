-- Where memory was refused.
use Rattle.std.proofs.Common.{◌≡◌, ℕ, List, Option, Result, Ok, Err, refl}
use Rattle.std.specs.Result.{IsErrAnd}
use Rattle.sched_base.specs.declared.rows.Row.{Row}
use Rattle.run_tree.specs.Plans.{PlanContents}
use Rattle.exec_book.specs.Jobs.{Made}
use Rattle.exec_lanes.specs.declared.answers.Executed.{Executed}
use Rattle.exec_lanes.specs.declared.answers.ExecFault.{ExecFault}
use Rattle.exec_lanes.specs.declared.answers.ExecFault.TheVariants as fault
use Rattle.exec_lanes.specs.declared.kits.Kit.{Kit}
use Rattle.exec_workers.specs.Runs.{Outcome}

-- where memory was refused the gates and the jobs are as they were
pub outcome_refused : {G J : Type 0} (ran : G → Option (List Row)) (gate_faults : G → ℕ) (id used : J → ℕ) (made : J → Made) (job_faults : J → ℕ)
    (p : PlanContents) (window : ℕ) (kits : List (Kit G)) (places places' : List (Option J)) (result : Result Executed ExecFault)
    → IsErrAnd result (λ e. e ≡ fault.NoMemory) → places' ≡ places → Outcome ran gate_faults id used made job_faults p window kits kits places places' result
outcome_refused ran gate_faults id used made job_faults p window kits places places' (Ok e) refused same = absurd refused
outcome_refused ran gate_faults id used made job_faults p window kits places places' (Err (fault.Gate q r n)) refused same = absurd (let e = refused in cc)
outcome_refused ran gate_faults id used made job_faults p window kits places places' (Err (fault.Job t q r n)) refused same = absurd (let e = refused in cc)
outcome_refused ran gate_faults id used made job_faults p window kits places places' (Err fault.NoMemory) refused same = (refl, same)
