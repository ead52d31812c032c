use Rattle.std.proofs.Common.{◌∙◌, ap, length}
use Rattle.merged_rows.proofs.lanes.MergedLane.count.Goals as goal

pub returns : goal.returns
returns c = c.count.ensures ∙ ap length c.self.view_is
