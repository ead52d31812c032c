-- Going once through the rows of a task: what was counted, and what the rows that follow will add.
use Rattle.std.specs.Prelude.{ℕ, ◌+◌, ◌-◌, ◌≡◌, ◌≤◌, ◌<◌, max, List, ◌++◌, length}
use Rattle.sched_base.specs.declared.rows.Row.{Row}
use Rattle.trace_verdict.specs.declared.supply.Periods.{Periods}
use Rattle.trace_verdict.specs.declared.tally.Tally.{Tally}
use Rattle.trace_verdict.specs.Findings.{pairs_from, is_preemption, is_migration, goes_on, row_response, greatest_of}
use Rattle.trace_verdict.specs.Supply.{ended_by}

-- the tally keeps the last row, the period of its last tick, how many periods end by `stop`, and a clock for these periods
pub record KeepsPace (p : Periods) (t : Tally) : Type 0 where
  pub some : 0 < p.period
  pub base : t.clock.base ≡ p.base
  pub span : t.clock.span ≡ p.period
  pub last : t.last ≡ ended_by p (t.before.end - 1)
  pub ended : t.ended ≡ ended_by p p.stop

-- the preemptions, once these rows are gone through
abbrev pub preempted : Periods → Tally → List Row → ℕ
preempted p t rest = t.found.preemptions + pairs_from (goes_on is_preemption p) t.before rest

-- the migrations, once these rows are gone through
abbrev pub moved : Periods → Tally → List Row → ℕ
moved p t rest = t.found.migrations + pairs_from (goes_on is_migration p) t.before rest

-- the greatest response, once these rows are gone through
abbrev pub slowest : Periods → Tally → List Row → ℕ
slowest p t rest = max t.found.response (greatest_of (row_response p) rest)

-- the tally goes through these rows: whatever follows, it comes to the same
pub record Goes (p : Periods) (rows : List Row) (old new : Tally) : Type 0 where
  pub pace : KeepsPace p new
  pub preempted : (rest : List Row) → preempted p new rest ≡ preempted p old (rows ++ rest)
  pub moved : (rest : List Row) → moved p new rest ≡ moved p old (rows ++ rest)
  pub slowest : (rest : List Row) → slowest p new rest ≡ slowest p old (rows ++ rest)
  pub few_preempted : new.found.preemptions ≤ old.found.preemptions + length rows
  pub few_moved : new.found.migrations ≤ old.found.migrations + length rows
