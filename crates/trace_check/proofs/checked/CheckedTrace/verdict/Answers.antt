use Rattle.std.proofs.Common.{◌≡◌, ◌*◌, subst}
use Rattle.sched_base.specs.Valid.{IsValid}
use Rattle.trace_verdict.specs.declared.faults.Verdict.TheVariants.{Valid}
use Rattle.trace_verdict.specs.Faults.{IsVerdict}
use Rattle.trace_verdict.proofs.VerdictLemmas.{verdict_valid}
use Rattle.trace_check.specs.Traces.{Trace}
use Rattle.trace_check.proofs.checked.CheckedTrace.verdict.Goals as goal

pub returns-clause-verdict : goal.returns-clause-verdict
returns-clause-verdict c = subst (λ (t : Trace). IsVerdict t.set t.scale t.rows c.self.inside.judged.verdict) c.self.view_is c.self.invariant.judged

pub returns-clause-valid : goal.returns-clause-valid
returns-clause-valid c =
    let i = c.self.inside in
    let h = verdict_valid i.set i.scale i.rows i.judged.verdict c.self.invariant.trace.each c.self.invariant.judged in
    let P : Trace → Type 0 = λ t. (i.judged.verdict ≡ Valid → IsValid t.set t.scale (t.set.horizon * t.scale) (t.set.horizon * t.scale) t.rows)
    × (IsValid t.set t.scale (t.set.horizon * t.scale) (t.set.horizon * t.scale) t.rows → i.judged.verdict ≡ Valid) in
    let here : P (record { set = i.set; scale = i.scale; rows = i.rows }) = (h.0, h.1) in
    let there : P c.args.self.now = subst P c.self.view_is here in
    there
