-- The limits of sets, of their schedules and of executions. The numbers are the code's constants.
use Rattle.std.specs.Prelude.{ℕ}
use Rattle.sched_base.specs.declared.limits.TheConstants.{SET_LIMIT, PROCESSOR_LIMIT, TASK_LIMIT, UNIT_LIMIT, ROW_LIMIT, WINDOW_LIMIT}

-- the most bytes of the text of a set
abbrev pub set_limit : ℕ
set_limit = SET_LIMIT

-- the most processors of a set
abbrev pub processor_limit : ℕ
processor_limit = PROCESSOR_LIMIT

-- the most tasks of a set
abbrev pub task_limit : ℕ
task_limit = TASK_LIMIT

-- the most units of a horizon, a period or an offset
abbrev pub unit_limit : ℕ
unit_limit = UNIT_LIMIT

-- the most rows of a schedule that is executed, printed or read
abbrev pub row_limit : ℕ
row_limit = ROW_LIMIT

-- the largest window of an execution, in rounds
abbrev pub window_limit : ℕ
window_limit = WINDOW_LIMIT
