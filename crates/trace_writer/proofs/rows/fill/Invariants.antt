use Rattle.std.proofs.Common.{◌≤◌, length}
use Rattle.row_totals.specs.Sums.{NamesAmong}
use Rattle.trace_writer.specs.Parts.{IsPage}
use Rattle.trace_writer.proofs.rows.fill.Given as goal

abbrev pub invariant-lines : goal.invariant-lines
invariant-lines g l =
    IsPage l.set.tasks (g.R.ShownRows.left l.rows l.p l.first) (g.R.ShownRows.left l.rows l.p l.place) l.lines l.page
    × NamesAmong (length l.set.tasks) (g.R.ShownRows.left l.rows l.p l.place)
    × (length l.page ≤ 3840)

abbrev pub decreases-lines : goal.decreases-lines
decreases-lines g l = length (g.R.ShownRows.left l.rows l.p l.place)
