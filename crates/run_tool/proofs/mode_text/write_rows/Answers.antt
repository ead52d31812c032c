use Rattle.std.proofs.Common.{List, length, refl, ap, sym, subst, ◌∙◌}
use Rattle.sched_base.specs.Sets.{SetContents}
use Rattle.sched_base.specs.declared.rows.Row.{Row}
use Rattle.row_totals.proofs.NameLemmas.{lanes_among}
use Rattle.run_tree.specs.Plans.{rounds_of}
use Rattle.trace_format.specs.Conditions.{AreOnTime}
use Rattle.run_tool.proofs.CrewEndLemmas.{few_rows}
use Rattle.run_tool.proofs.mode_text.write_rows.Goals as goal

pub write_trace-requires-clause-on_time : goal.write_trace-requires-clause-on_time
write_trace-requires-clause-on_time g c = subst (λ (s : SetContents). AreOnTime s.tasks) (sym c.set.ensures.value) c.requires.on_time

pub write_trace-requires-clause-processors : goal.write_trace-requires-clause-processors
write_trace-requires-clause-processors g c =
    ap (λ (lanes : List (List Row)). length lanes) c.requires.lanes ∙ c.table_law.ensures.processors c.args.plan.now c.set.ensures.lawful
    ∙ ap (λ (s : SetContents). s.processors) (sym c.set.ensures.value)

pub write_trace-requires-clause-names : goal.write_trace-requires-clause-names
write_trace-requires-clause-names g c =
    rw (c.set.ensures.value, c.requires.lanes) (lanes_among _ _ (c.table_law.ensures.lanes c.args.plan.now c.set.ensures.lawful))

pub write_trace-requires-clause-few : goal.write_trace-requires-clause-few
write_trace-requires-clause-few g c =
    few_rows c.args.plan.now c.set.ensures.lawful c.args.table.now.lanes c.requires.lanes (rounds_of c.args.plan.now) refl c.requires.few

pub write_trace-requires-clause-totals : goal.write_trace-requires-clause-totals
write_trace-requires-clause-totals g c = rw (c.set.ensures.value, c.requires.lanes) c.requires.totals

pub returns-clause-wrote : goal.returns-clause-wrote
returns-clause-wrote g c = rw (c.set.ensures.value, c.scale.ensures.value, c.requires.lanes) at c.write_trace.ensures.wrote

pub returns-clause-cause : goal.returns-clause-cause
returns-clause-cause g c = c.write_trace.ensures.cause
