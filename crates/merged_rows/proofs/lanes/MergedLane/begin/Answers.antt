use Rattle.std.proofs.Common.{◌∙◌, ap, sym}
use Rattle.merged_rows.specs.Columns.{last_mark}
use Rattle.merged_rows.specs.Forms.{begun_in}
use Rattle.merged_rows.proofs.ColumnLemmas.{mark_pushed}
use Rattle.merged_rows.proofs.lanes.MergedLane.begin.Goals as goal

pub invariant_of-self-2 : goal.invariant_of-self-2
invariant_of-self-2 c =
    c.shown_mark-self-inside.ensures ∙ sym (mark_pushed (begun_in c.self.inside.rows) c.args.start c.args.leaf) ∙ ap last_mark (sym c.in_ok-push.ensures.pushed)
