use Rattle.std.proofs.Common.{◌++◌, subst, sym}
use Rattle.trace_check.specs.WholeRows.{AreRowsOf}
use Rattle.trace_check.proofs.WholeRowLemmas.{rows_behind, last_rows}
use Rattle.trace_check.proofs.row_reader.RowReader.take_last.Goals as goal

pub take_from-requires : goal.take_from-requires
take_from-requires c =
    let tasks = c.args.set.now.tasks in
    let done = c.args.self.now.rows in
    let sums = c.args.self.now.totals.items in
    let (whole, so) = c.requires in
    let (feed, grown) = c.in_ok-end_line.ensures.kept in
    (whole ++ feed, subst (λ t. AreRowsOf tasks (whole ++ feed) done sums t) (sym grown) (rows_behind tasks whole c.args.window.now.ahead done sums feed so))

pub returns : goal.returns
returns c =
    let (feed, grown) = c.in_ok-end_line.ensures.kept in
    let (gone, split) = c.in_ok-stop.ensures.split in
    λ whole so. last_rows c.args.set.now.tasks whole c.args.window.now.ahead feed c.end_line.new.self.ahead gone c.take_from.new.window.ahead
    c.args.self.now.rows c.take_from.new.self.rows
    c.args.self.now.totals.items c.take_from.new.self.totals.items c.in_ok-stop.stop so grown c.in_ok-end_line.ensures.lines c.in_ok-end_line.ensures.ended
    c.in_ok-stop.ensures.read split c.in_ok-stop.ensures.stop
