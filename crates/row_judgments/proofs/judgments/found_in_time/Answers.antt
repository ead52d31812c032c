use Rattle.std.proofs.Common.{None, Some, length, Option, arith}
use Rattle.std.specs.Prelude.{IfSome}
use Rattle.std.proofs.lemmas.Result.{IfOk-weaker}
use Rattle.trace_verdict.specs.Orders.{processor_key}
use Rattle.trace_verdict.specs.Searches.{IsFirstHit}
use Rattle.trace_verdict.proofs.StandingLemmas.{hit_standing}
use Rattle.trace_verdict.proofs.VerdictLemmas.{no_verdict}
use Rattle.row_judgments.proofs.judgments.found_in_time.Goals as goal

if_some : {X : Type 0} (o : Option X) (P Q : X → Type 0) → ((x : X) → P x → Q x) → IfSome o P → IfSome o Q
if_some None P Q f h = tt
if_some (Some x) P Q f h = f x h

pub returns-in-Some-clause-valid : goal.returns-in-Some-clause-valid
returns-in-Some-clause-valid c =
    let s = c.args.set.now in
    let l = c.args.scale in
    let rows = c.args.rows.now in
    let hit : IsFirstHit processor_key rows (length rows) = hit_standing s rows c.requires.trace.each c.in-Some.ensures.stands in
    IfOk-weaker c.timed_findings.result _ _ (λ o h. if_some o _ _ (λ v t.
    no_verdict s l rows (length rows) (length rows) (length rows) (length s.tasks) c.in-Some.ensures.fit hit t.apart (omega arith) (omega arith)
    (omega arith) t.supplied (omega arith)) h) c.timed_findings.ensures
