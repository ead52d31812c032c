use Rattle.std.proofs.Common.{◌∙◌, ap, length, sym}
use Rattle.merged_rows.specs.Columns.{MergedContents}
use Rattle.merged_rows.proofs.ColumnLemmas.{length-lanes_up_to}
use Rattle.merged_rows.proofs.merging.MergedRows.know_begun.Goals as goal

pub returns-clause-many : goal.returns-clause-many
returns-clause-many c =
    ap (λ (m : MergedContents). length m.begun) (sym c.self.view_is) ∙ sym (length-lanes_up_to 0 c.self.inside.end c.self.inside.lanes.items)
    ∙ ap (λ (m : MergedContents). length m.lanes) c.self.view_is
