use Rattle.std.proofs.Common.{◌<◌, length, sym, arith}
use Rattle.merged_rows.proofs.ColumnLemmas.{going_none, get_or-going, going_more}
use Rattle.merged_rows.proofs.merging.show_told.Goals as goal

pub loop-p-init : goal.loop-p-init
loop-p-init c = sym (going_none c.args.lanes.now c.args.start)

pub loop-p-preserved : goal.loop-p-preserved
loop-p-preserved c =
    let lanes = c.args.lanes.now in
    let lane = c.index-lanes-p.result in
    let within : c.loop-p.p < length lanes = omega (arith, c.requires, c.loop-p-test.true) in
    rw (c.in_ok-go_on.ensures.shown, c.loop-p.invariant, get_or-going lanes c.args.start c.args.told.now c.loop-p.p lane within)
    (going_more lanes c.args.start c.args.told.now c.loop-p.p lane _ within c.loop-p-test.true)
