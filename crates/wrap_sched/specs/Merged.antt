-- The merged rows of a wrapped schedule.
use Rattle.std.specs.Prelude.{ℕ, ◌≡◌, List, map}
use Rattle.sched_base.specs.declared.rows.Row.{Row}
use Rattle.sched_base.specs.Lanes.{lanes_of}
use Rattle.sched_base.specs.Sets.{SetContents}
use Rattle.sched_base.specs.Tables.{IsTable, end_of, rounds_in}
use Rattle.merged_rows.specs.Merging.{merged}
use Rattle.merged_rows.specs.Columns.{MergedContents}
use Rattle.wrap_sched.specs.Wrapped.{wrapped}

-- these are the rows of a set's wrapped schedule, each processor's merged
abbrev pub AreMergedOf : ℕ → SetContents → List (List Row) → Type 0
AreMergedOf scale s lanes = lanes ≡ map merged (lanes_of s.processors (wrapped scale s))

-- the rows of the first n rounds on m processors are merged, up to the tick `at`
pub record AreMergedUpTo (m at n : ℕ) (rows : List Row) (now : MergedContents) : Type 0 where
  pub lanes : now.lanes ≡ map merged (lanes_of m rows)
  pub tick : now.end ≡ at
  pub end : end_of (lanes_of m rows) ≡ at
  pub rounds : rounds_in (lanes_of m rows) ≡ n
  pub table : IsTable (lanes_of m rows)
