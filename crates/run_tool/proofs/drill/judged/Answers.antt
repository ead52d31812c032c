use Rattle.std.proofs.Common.{◌≡◌, ◌∙◌, false, true, List, length, ap, sym, subst}
use Rattle.std.proofs.lemmas.Result.{IfOk-from_err}
use Rattle.sched_base.specs.Sets.{SetContents}
use Rattle.sched_base.specs.declared.rows.Row.{Row}
use Rattle.row_totals.proofs.NameLemmas.{lanes_among}
use Rattle.sched_base.specs.Tables.{IsTable}
use Rattle.run_tree.specs.Plans.{stop_of}
use Rattle.plan_rounds.specs.PlanRows.{plan_rows}
use Rattle.merged_rows.specs.Merging.{merged_lanes}
use Rattle.trace_check.specs.RoundTrip.{trace_again}
use Rattle.run_tool.proofs.DrillLemmas.{trace_valid}
use Rattle.run_tool.proofs.drill.judged.Goals as goal

pub unreachable-requires : goal.unreachable-requires
unreachable-requires c =
    let p = c.args.plan.now in
    let table : IsTable (plan_rows p) = subst (λ (lanes : List (List Row)). IsTable lanes) c.requires.lanes c.rounds-is_table.ensures.lawful in
    let is : c.in_ok-trace.trace ≡ trace_again p.set p.tree.scale (merged_lanes (plan_rows p)) =
    c.in_ok-trace.ensures.trace ∙ (λ i. trace_again (c.set.ensures.value i) (c.scale.ensures.value i) (merged_lanes (c.requires.lanes i))) in
    let bad : false ≡ true =
    c.in-None.ensures.valid (trace_valid c.in_ok-trace.trace p.set p.tree.scale (plan_rows p) is
    (c.merged_law.ensures p.set p.tree.scale (stop_of p) (stop_of p) (plan_rows p) table c.requires.valid)) in
    cc

pub of_table-requires-clause-processors : goal.of_table-requires-clause-processors
of_table-requires-clause-processors c =
    ap (λ (lanes : List (List Row)). length lanes) c.requires.lanes ∙ c.table_law.ensures.processors c.args.plan.now c.set.ensures.lawful
    ∙ ap (λ (s : SetContents). s.processors) (sym c.set.ensures.value)

pub of_table-requires-clause-names : goal.of_table-requires-clause-names
of_table-requires-clause-names c =
    rw (c.set.ensures.value, c.requires.lanes) (lanes_among _ _ (c.table_law.ensures.lanes c.args.plan.now c.set.ensures.lawful))

pub of_table-requires-clause-few : goal.of_table-requires-clause-few
of_table-requires-clause-few c = c.requires.few

pub returns-in_err-trace-clause-told : goal.returns-in_err-trace-clause-told
returns-in_err-trace-clause-told c = IfOk-from_err _ _ c.from_residual.ensures.0

pub returns-in_err-trace-clause-judged : goal.returns-in_err-trace-clause-judged
returns-in_err-trace-clause-judged c = IfOk-from_err _ _ c.from_residual.ensures.0
