-- The rows that a gate ran.
use Rattle.std.specs.Prelude.{ℕ, ◌-◌, List, ◌++◌, length}
use Rattle.std.specs.declared.option.Option.{Option}
use Rattle.std.specs.declared.option.Option.TheVariants.{None, Some}
use Rattle.sched_base.specs.declared.rows.Row.{Row}

-- the rows run before, and then these, where they are told
abbrev pub grown : Option (List Row) → List Row → Option (List Row)
grown None rows = None
grown (Some ran) rows = Some (ran ++ rows)

-- what a gate with a list holds
pub record GateHeld : Type 0 where
  -- the rows run so far
  pub ran : List Row
  -- how many rows it takes in all
  pub room : ℕ
  -- the numbers of the calls that fail
  pub fails : List ℕ
  -- the calls made so far
  pub calls : ℕ
  pub faults : ℕ

-- how many more rows it takes
abbrev pub rows_left : GateHeld → ℕ
rows_left gate = gate.room - length gate.ran
