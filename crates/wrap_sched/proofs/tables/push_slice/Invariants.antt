use Rattle.std.proofs.Common.{◌≡◌, ◌+◌, ◌++◌, List}
use Rattle.sched_base.specs.Tables.{rounds_in}
use Rattle.sched_base.specs.declared.rows.Row.{Row}
use Rattle.sched_base.specs.Lanes.{lanes_of}
use Rattle.wrap_sched.proofs.TableLemmas.{IsReached, rows_up_to}
use Rattle.wrap_sched.proofs.tables.push_slice.Given as goal

abbrev pub invariant-loop-round : goal.invariant-loop-round
invariant-loop-round l = record {
  reached : IsReached l.slices.set.now l.slices.scale l.x l.y l.round-index l.table.lanes;
  lanes : (done : List Row) → l.initial.table.lanes ≡ lanes_of l.slices.set.now.processors done → l.table.lanes ≡ lanes_of l.slices.set.now.processors
      (done ++ rows_up_to l.slices.set.now l.slices.scale l.x l.y l.round-index);
  count : rounds_in l.table.lanes ≡ rounds_in l.initial.table.lanes + l.round-index;
  room : l.table.room + l.round-index ≡ l.initial.table.room;
}
