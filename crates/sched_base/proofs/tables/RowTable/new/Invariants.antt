use Rattle.std.proofs.Common.{◌≡◌, length}
use Rattle.sched_base.specs.Tables.{AreFilled, HaveRoom}
use Rattle.sched_base.proofs.tables.RowTable.new.Given as goal

abbrev pub invariant-loop-p : goal.invariant-loop-p
invariant-loop-p l = record {
  count : length l.lanes.items ≡ l._p;
  blank : AreFilled 0 l.lanes.items;
  reserved : HaveRoom l.rounds l.lanes.items;
}
