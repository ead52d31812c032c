use Rattle.row_totals.proofs.NameLemmas.{lanes_among}
use Rattle.tests_schedules.proofs.sets.drawn.trace_of.Goals as goal

pub of_table-requires-clause-names : goal.of_table-requires-clause-names
of_table-requires-clause-names g c =
    let lanes = rw c.expect-table.ensures at c.table_of.ensures.lanes in
    rw (c.set.ensures.value, lanes) (lanes_among _ _ (c.table_law.ensures.lanes _ c.set.ensures.lawful))
