use Rattle.std.proofs.Common.{◌≡◌, ◌∙◌, ap, sym, length, arith}
use Rattle.merged_rows.proofs.ColumnLemmas.{length-rows_up_to, seen_lane, seen_many}
use Rattle.merged_rows.proofs.merging.MergedRows.count.Goals as goal

pub index-requires : goal.index-requires
index-requires c =
    let lanes = c.self.inside.lanes in
    let many : length c.args.self.now.lanes ≡ length lanes.items = seen_many c.args.self.now c.self.inside.end lanes.items c.self.view_is in
    let ok = lanes.ok.0 in
    omega (arith, many, ok, c.requires)

pub returns : goal.returns
returns c =
    let lane = c.index.result.now in
    let end = c.self.inside.end in
    c.count.ensures ∙ sym (length-rows_up_to c.args.p end lane)
    ∙ ap length (sym (seen_lane c.args.self.now end c.self.inside.lanes.items c.args.p lane c.self.view_is c.requires c.index.ensures))
