use Rattle.std.proofs.Common.{List, sym, subst, ◌∙◌}
use Rattle.std.specs.List.{AllByRecursion}
use Rattle.row_totals.proofs.NameLemmas.{lanes_among}
use Rattle.sched_base.specs.declared.rows.Row.{Row}
use Rattle.sched_base.specs.Lanes.{NamesOneOf}
use Rattle.sched_base.specs.Sets.{SetContents}
use Rattle.pure_commands.proofs.TraceLemmas.{on_time_unless}
use Rattle.pure_commands.proofs.trace.write_rows.Goals as goal

pub write_trace-requires-clause-on_time : goal.write_trace-requires-clause-on_time
write_trace-requires-clause-on_time g c = on_time_unless c.args.met _ (sym c.wants_met.ensures ∙ c.if-wants_met.false)

pub write_trace-requires-clause-names : goal.write_trace-requires-clause-names
write_trace-requires-clause-names g c =
    let lanes = c.args.table.now.lanes in
    let name = λ (s : SetContents). AllByRecursion (λ (rows : List Row). AllByRecursion (λ (r : Row). NamesOneOf s.tasks r.leaf) rows) lanes in
    let names : name c.args.plan.now.set = rw c.requires.lanes (c.table_law.ensures.lanes c.args.plan.now c.set-set.ensures.lawful) in
    lanes_among _ _ (subst name (sym c.set-set.ensures.value) names)

pub write_met-requires-clause-names : goal.write_met-requires-clause-names
write_met-requires-clause-names g c =
    let lanes = c.args.table.now.lanes in
    let name = λ (s : SetContents). AllByRecursion (λ (rows : List Row). AllByRecursion (λ (r : Row). NamesOneOf s.tasks r.leaf) rows) lanes in
    let names : name c.args.plan.now.set = rw c.requires.lanes (c.table_law.ensures.lanes c.args.plan.now c.set-set.ensures.lawful) in
    lanes_among _ _ (subst name (sym c.set-set.ensures.value) names)
