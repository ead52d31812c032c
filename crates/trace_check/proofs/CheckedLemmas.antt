-- What a judged trace keeps of its tasks.
use Rattle.std.proofs.Common.{ℕ, ◌*◌, ◌<◌, ◌≡◌, List, length, get_or, refl, sym, ◌∙◌, subst, arith}
use Rattle.std.proofs.lemmas.List.{get_or_default}
use Rattle.sched_base.specs.Valid.{IsValid}
use Rattle.trace_verdict.specs.declared.faults.Verdict.{Verdict}
use Rattle.trace_verdict.specs.declared.findings.Findings.{Findings}
use Rattle.trace_verdict.specs.Findings.{found_at, IsToldOfTask}
use Rattle.trace_verdict.proofs.VerdictLemmas.{verdict_valid}
use Rattle.trace_check.specs.Traces.{Trace, IsJudged}

-- where the rows are a valid schedule, something was found of each task
pub found_in_trace : (t now : Trace) (found : List Findings) (verdict : Verdict) (j n : ℕ) → t ≡ now → IsJudged t found verdict → j < length now.set.tasks
    → IsValid now.set now.scale (now.set.horizon * now.scale) (now.set.horizon * now.scale) now.rows → n ≡ length found → j < n
found_in_trace t now found verdict j n same k h v is =
    let within : j < length t.set.tasks = subst (λ w. j < length w.set.tasks) (sym same) h in
    let P : Trace → Type 0 = λ w. IsValid w.set w.scale (w.set.horizon * w.scale) (w.set.horizon * w.scale) w.rows in
    let valid : P t = subst P (sym same) v in
    let all = k.all ((verdict_valid t.set t.scale t.rows verdict k.trace.each k.judged).1 valid) in
    omega (arith, within, all, is)

-- and it is what its rows tell
pub told_of_trace : (t now : Trace) (found : List Findings) (verdict : Verdict) (j : ℕ) (f : Findings) → t ≡ now → IsJudged t found verdict →
    j < length now.set.tasks
    → IsValid now.set now.scale (now.set.horizon * now.scale) (now.set.horizon * now.scale) now.rows → f ≡ get_or found j f → IsToldOfTask now.set now.scale
    now.rows j f
told_of_trace t now found verdict j f same k h v e =
    let within : j < length found = found_in_trace t now found verdict j (length found) same k h v refl in
    let at : found_at found j ≡ f = sym (e ∙ get_or_default found j f _ within) in
    subst (λ w. IsToldOfTask w.set w.scale w.rows j f) same (subst (IsToldOfTask t.set t.scale t.rows j) at (k.told j within))
