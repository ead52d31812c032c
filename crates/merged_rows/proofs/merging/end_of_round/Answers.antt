use Rattle.std.proofs.Common.{sym}
use Rattle.merged_rows.proofs.ColumnLemmas.{end_by_last}
use Rattle.merged_rows.proofs.merging.end_of_round.Goals as goal

pub returns-in-Some : goal.returns-in-Some
returns-in-Some c = end_by_last c.args.rows.now c.args.before c.in-Some.row.now (sym c.in-Some.ensures.value)
