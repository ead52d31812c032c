use Rattle.std.proofs.Common.{ap, map}
use Rattle.merged_rows.proofs.ColumnLemmas.{new_row}
use Rattle.merged_rows.proofs.FormLemmas.{moved_all, moved_more}
use Rattle.merged_rows.proofs.growth.moved.Goals as goal

pub loop-row-init : goal.loop-row-init
loop-row-init g c = ap (map g.T.RowForm.begun) c.in_ok-moved.ensures.items

pub loop-row-preserved : goal.loop-row-preserved
loop-row-preserved g c =
    moved_more g.F.RowForm.begun g.T.RowForm.begun c.args.rows.now c.loop-row.moved.items c.push_row.new.rows.items c.loop-row.row-index c.row-item.result
    c.in-Some-packed.same c.start.result
    c.leaf.result c.loop-row-test.true c.row-item.is c.start.ensures c.leaf.ensures c.in-Some-packed.ensures c.in_ok-push_row.ensures.pushed
    c.loop-row.invariant

pub returns : goal.returns
returns g c =
    moved_all g.F.RowForm.begun g.T.RowForm.begun c.args.rows.now c.loop-row.moved.items c.push_row-2.new.rows.items c.loop-row.row-index c.in-Some.last
    (new_row c.args.start c.args.leaf)
    c.loop-row-test.false c.in_ok-push_row-2.ensures.pushed c.in-Some.ensures c.loop-row.invariant
