use Rattle.sched_base.specs.Tables.{lane_of}
use Rattle.trace_writer.proofs.ShownLemmas.{row_at}
use Rattle.trace_writer.proofs.shown.MergedRowsShownRows.next_row.Goals as goal

pub returns-clause-first : goal.returns-clause-first
returns-clause-first c = row_at (lane_of c.args.self.now.lanes c.args.p) c.args.place c.row.result c.row.ensures
