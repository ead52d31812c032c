use Rattle.std.proofs.Common.{ℕ, false, List, ap, ◌∙◌, ◌≡◌}
use Rattle.sched_base.specs.declared.rows.Row.{Row}
use Rattle.sched_base.specs.Lanes.{lanes_of}
use Rattle.sched_base.specs.Sets.{SetContents}
use Rattle.sched_base.specs.Tables.{all_rows}
use Rattle.trace_format.specs.Text.{trace_text}
use Rattle.merged_rows.proofs.PushLemmas.{all_merged}
use Rattle.wrap_sched.specs.Merged.{AreMergedOf}
use Rattle.wrap_sched.specs.Wrapped.{wrapped}
use Rattle.pure_commands.specs.SetTexts.{version_of, text_of, wrapped_rows}
use Rattle.pure_commands.proofs.wrap.write_wrapped_rows.Goals as goal

-- the text of merged rows
merged_text : (s : SetContents) (scale : ℕ) (lanes : List (List Row)) → AreMergedOf scale s lanes → trace_text (version_of false s.tasks) s scale
    (all_rows lanes) ≡ text_of wrapped_rows s scale
merged_text s scale lanes is = ap (trace_text (version_of false s.tasks) s scale) (ap all_rows is ∙ all_merged (lanes_of s.processors (wrapped scale s)))

pub returns-clause-wrote : goal.returns-clause-wrote
returns-clause-wrote g c = rw (← merged_text c.args.set.now c.args.scale c.args.rows.now.lanes c.requires.rows) c.write_merged_rows.ensures.wrote
