-- Which line a fault names.
use Rattle.std.specs.Prelude.{ℕ, ◌≡◌, Result, Err}
use Rattle.tree_reader.specs.declared.faults.TreeFault.{TreeFault}
use Rattle.tree_reader.specs.declared.faults.TreeFault.TheVariants.{BadLine, NoMemory}

-- the fault names the line at which the reading stops; want of memory is free
abbrev pub NamesBadLine : {A : Type 0} → Result A ℕ → TreeFault → Type 0
NamesBadLine reading (BadLine line) = reading ≡ Err line
NamesBadLine reading NoMemory = Unit {0}
