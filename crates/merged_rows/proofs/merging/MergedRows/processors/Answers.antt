use Rattle.std.proofs.Common.{◌∙◌, ap, sym, length}
use Rattle.merged_rows.specs.Columns.{MergedContents}
use Rattle.merged_rows.proofs.ColumnLemmas.{length-lanes_up_to}
use Rattle.merged_rows.proofs.merging.MergedRows.processors.Goals as goal

pub returns : goal.returns
returns c =
    let lanes = c.self.inside.lanes in
    c.len.ensures ∙ lanes.ok.0 ∙ sym (length-lanes_up_to 0 c.self.inside.end lanes.items) ∙ ap (λ (m : MergedContents). length m.lanes) c.self.view_is
