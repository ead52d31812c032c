use Rattle.std.proofs.Common.{◌≡◌, ◌+◌, [], ◌∷◌}
use Rattle.tests_schedules.specs.LongTables.{steady_rows}
use Rattle.tests_schedules.proofs.traces.writing.long_table.Given as goal

abbrev pub invariant-loop-k : goal.invariant-loop-k
invariant-loop-k l = (l.table.lanes ≡ steady_rows l.k ∷ []) × (l.table.room + l.k ≡ l.rounds)
