use Rattle.std.proofs.Common.{◌<◌, length, sym, arith}
use Rattle.merged_rows.proofs.ColumnLemmas.{showing_none, get_or-showing, showing_more}
use Rattle.merged_rows.proofs.merging.show_each.Goals as goal

pub loop-p-init : goal.loop-p-init
loop-p-init c = sym (showing_none c.args.lanes.now c.args.start)

pub loop-p-preserved : goal.loop-p-preserved
loop-p-preserved c =
    let lanes = c.args.lanes.now in
    let lane = c.index-lanes-p.result in
    let within : c.loop-p.p < length lanes = omega (arith, c.requires, c.loop-p-test.true) in
    rw (c.in_ok-show.ensures.shown, c.loop-p.invariant, get_or-showing lanes c.args.start c.args.rows.now c.loop-p.p lane within)
    (showing_more lanes c.args.start c.args.rows.now c.loop-p.p lane _ within c.loop-p-test.true)
