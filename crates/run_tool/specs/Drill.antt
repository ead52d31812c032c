-- The set of a drill, and its text.
use Rattle.std.specs.Prelude.{ℕ, List, [], ◌∷◌, length, codes}
use Rattle.std.specs.List.{concat}
use Rattle.sched_base.specs.Sets.{SetContents}
use Rattle.sched_base.specs.Scale.{IsScale}
use Rattle.sched_edges.specs.Lines.{word_line, number_line}
use Rattle.run_tree.specs.Plans.{rounds_of}
use Rattle.plan_rounds.specs.PlanRows.{plan_rows}
use Rattle.merged_rows.specs.Merging.{merged_lanes}
use Rattle.trace_check.specs.Traces.{Trace}
use Rattle.trace_check.specs.RoundTrip.{trace_again}
use Rattle.stat_report.specs.Report.{preemptions, migrations, IsValidTrace}
use Rattle.task_gen.specs.Words.{words_of_number}
use Rattle.task_gen.specs.Drill.{made_from}
use Rattle.run_tool.specs.declared.summary.Summary.{Summary}
use Rattle.pure_commands.specs.SetTexts.{plan_of}

-- the set that a number draws
unfoldable pub drilled : ℕ → SetContents
drilled number = made_from (words_of_number number)

-- what reading the trace text of its schedule gives
abbrev pub drill_trace : ℕ → ℕ → Trace
drill_trace number scale = trace_again (drilled number) scale (merged_lanes (plan_rows (plan_of (drilled number) scale)))

-- the set of a drill has this scale, and the trace is valid
pub record IsDrill (number scale : ℕ) : Type 0 where
  pub is_scale : IsScale (drilled number).tasks scale
  pub valid : IsValidTrace (drill_trace number scale)

-- what is told of a drill of so many rounds and this trace: the counts are those of the report
abbrev pub summary_by : ℕ → ℕ → Trace → Summary
summary_by number rounds t = record {
  number = number;
  tasks = length t.set.tasks;
  scale = t.scale;
  rounds = rounds;
  rows = length t.rows;
  preemptions = preemptions t.set t.scale t.rows;
  migrations = migrations t.set t.scale t.rows;
}

-- the lines of a summary
abbrev pub summary_lines : Summary → List (List ℕ)
summary_lines told =
    number_line (codes "drill") told.number
    ∷ (number_line (codes "tasks") told.tasks
    ∷ (number_line (codes "scale") told.scale
    ∷ (number_line (codes "rounds") told.rounds
    ∷ (number_line (codes "rows") told.rows
    ∷ (number_line (codes "preemptions") told.preemptions
    ∷ (number_line (codes "migrations") told.migrations
    ∷ (word_line (codes "verdict valid") ∷ [])))))))

-- the text of a drill whose set has this scale
unfoldable pub drill_text : ℕ → ℕ → List ℕ
drill_text number scale = concat (summary_lines (summary_by number (rounds_of (plan_of (drilled number) scale)) (drill_trace number scale)))
