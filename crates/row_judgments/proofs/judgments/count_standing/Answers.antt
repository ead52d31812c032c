use Rattle.std.proofs.Common.{◌<◌, ◌^◌, ◌∙◌, length, ap, subst}
use Rattle.std.specs.List.{AllByRecursion}
use Rattle.std.proofs.lemmas.List.{length-map}
use Rattle.trace_verdict.specs.Faults.{IsTraceRow}
use Rattle.trace_verdict.specs.RowLists.{row_for}
use Rattle.row_judgments.proofs.judgments.count_standing.Goals as goal

pub count_short-requires-clause-each : goal.count_short-requires-clause-each
count_short-requires-clause-each c = subst (AllByRecursion (IsTraceRow c.args.set.now)) c.in-Some.ensures c.requires.trace.each

pub count_short-requires-clause-few : goal.count_short-requires-clause-few
count_short-requires-clause-few c = subst (λ n. n < 2 ^ 32) (ap length c.in-Some.ensures ∙ length-map c.in-Some.short.now row_for) c.requires.trace.few
