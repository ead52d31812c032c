use Rattle.std.proofs.Common.{◌≡◌, ◌<◌, ◌≤◌, ◌-◌, ◌+◌, ◌*◌, ◌++◌, List, filter, length, true}
use Rattle.std.specs.List.{flat_map, range_with_len}
use Rattle.sched_base.specs.Tables.{end_of, rounds_in}
use Rattle.sched_base.specs.declared.rows.Row.{Row}
use Rattle.sched_base.specs.Lanes.{lanes_of}
use Rattle.wrap_sched.specs.Spans.{spans}
use Rattle.wrap_sched.specs.Wrapped.{is_point, slice_rows, wrapped, wrapped_rounds}
use Rattle.wrap_sched.proofs.tables.push_slices.Given as goal

abbrev pub invariant-slices : goal.invariant-slices
invariant-slices l = record {
  at : l.x < l.slices.set.now.horizon → is_point l.slices.set.now.tasks l.x ≡ true;
  within : l.x ≤ l.slices.set.now.horizon;
  rows : (done : List Row) × (l.table.lanes ≡ lanes_of l.slices.set.now.processors done)
      × (done ++ flat_map (slice_rows l.slices.scale l.slices.set.now.tasks l.slices.set.now.processors) (spans (filter (is_point l.slices.set.now.tasks)
      (range_with_len l.x (l.slices.set.now.horizon - l.x))) l.slices.set.now.horizon) ≡ wrapped l.slices.scale l.set);
  end : end_of l.table.lanes ≡ l.x * l.slices.scale;
  whole : length l.table.lanes ≡ l.slices.set.now.processors;
  room : l.table.room ≡ length l.slices.pattern.items * length (filter (is_point l.slices.set.now.tasks) (range_with_len l.x (l.slices.set.now.horizon - l.x)));
  count : rounds_in l.table.lanes + l.table.room ≡ wrapped_rounds l.slices.scale l.set;
}

abbrev pub decreases-slices : goal.decreases-slices
decreases-slices l = l.slices.set.now.horizon - l.x
