use Rattle.std.proofs.Common.{◌≡◌, ◌∙◌, ap, length, arith}
use Rattle.std.specs.Prelude.{slice_get}
use Rattle.sched_base.specs.Tables.{lane_of}
use Rattle.merged_rows.proofs.ColumnLemmas.{length-rows_up_to, seen_lane, seen_many}
use Rattle.merged_rows.proofs.merging.MergedRows.row.Goals as goal

pub index-requires : goal.index-requires
index-requires c =
    let lanes = c.self.inside.lanes in
    let many : length c.args.self.now.lanes ≡ length lanes.items = seen_many c.args.self.now c.self.inside.end lanes.items c.self.view_is in
    let ok = lanes.ok.0 in
    let here = c.requires.processor in
    omega (arith, many, ok, here)

pub row-requires : goal.row-requires
row-requires c =
    let lane = c.index.result.now in
    let end = c.self.inside.end in
    let same : length (lane_of c.args.self.now.lanes c.args.p) ≡ length lane =
    ap length (seen_lane c.args.self.now end c.self.inside.lanes.items c.args.p lane c.self.view_is c.requires.processor c.index.ensures)
    ∙ length-rows_up_to c.args.p end lane in
    let row = c.requires.row in
    omega (arith, same, row)

pub returns : goal.returns
returns c =
    ap (λ rows. slice_get rows c.args.i)
    (seen_lane c.args.self.now c.self.inside.end c.self.inside.lanes.items c.args.p c.index.result.now c.self.view_is c.requires.processor c.index.ensures)
    ∙ c.row.ensures
