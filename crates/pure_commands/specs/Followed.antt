-- What `follow` writes of the text that `tree` writes.
use Rattle.std.specs.Prelude.{ℕ, ◌≤◌, false, List}
use Rattle.sched_base.specs.Scale.{Fits}
use Rattle.sched_base.specs.Sets.{SetContents}
use Rattle.sched_base.specs.Tables.{row_limit}
use Rattle.trace_format.specs.Conditions.{AreOnTime}
use Rattle.tree_text.specs.Text.{tree_text}
use Rattle.exit_status.specs.declared.Status.TheVariants.{Done}
use Rattle.pure_commands.specs.Commands.{ReadsSet, plan_of, rows_of, schedule_rows, text_of, Writes, of_tree}

-- of a set without offsets that fits and whose schedule has room, `follow` of what `tree` writes is what `trace` writes
abbrev pub FollowsAsTraced : Type 0
FollowsAsTraced =
    (bytes : List ℕ) (s : SetContents) (scale : ℕ) → ReadsSet bytes s scale → Fits scale s → AreOnTime s.tasks
    → rows_of (plan_of s scale) ≤ row_limit → Writes of_tree (tree_text (plan_of s scale)) Done (text_of (schedule_rows false) s scale)
