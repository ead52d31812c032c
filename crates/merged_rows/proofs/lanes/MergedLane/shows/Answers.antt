use Rattle.std.proofs.Common.{◌∙◌, ◌+◌, ap, eqb}
use Rattle.merged_rows.specs.Columns.{shows_last}
use Rattle.merged_rows.specs.Forms.{begun_in}
use Rattle.merged_rows.specs.Merging.{shown}
use Rattle.merged_rows.proofs.ColumnLemmas.{shows_by_mark}
use Rattle.merged_rows.proofs.lanes.MergedLane.shows.Goals as goal

pub returns : goal.returns
returns c =
    ap (λ n. eqb c.self.inside.last n) c.shown_mark.ensures ∙ ap (λ n. eqb n (shown c.args.leaf + 1)) c.self.invariant
    ∙ shows_by_mark (begun_in c.self.inside.rows) c.args.leaf ∙ ap (λ lane. shows_last lane c.args.leaf) c.self.view_is
