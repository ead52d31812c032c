-- A task's walk in numbers of 64 bits.
use Rattle.trace_verdict.specs.declared.short_walks.ShortNear.{ShortNear}
use Rattle.trace_verdict.specs.declared.short_walks.ShortWalk.{ShortWalk}
use Rattle.trace_verdict.specs.declared.task_walks.Near.{Near}
use Rattle.trace_verdict.specs.declared.task_walks.TaskWalk.{TaskWalk}
use Rattle.trace_verdict.specs.RowLists.{row_for}

-- the walk in numbers of any size
abbrev pub wide_of : ShortWalk → TaskWalk
wide_of w = record {
  periods = record { base = w.base; period = w.period; due = w.due; stop = w.stop };
  tick = w.tick;
  done = w.done;
  begin = w.begin;
  next = w.next;
  owed = w.owed;
  before = row_for w.before;
  found = record { preemptions = w.preemptions; migrations = w.migrations; response = w.response };
  count = w.count;
  limit = w.limit;
}

-- the period in numbers of any size
abbrev pub near_of : ShortNear → Near
near_of n = record { begin = n.begin; next = n.next; owed = n.owed; same = n.same }
