-- Which line a fault names.
use Rattle.std.specs.Prelude.{ℕ, ◌≡◌, Option, None, Result, Err}
use Rattle.job_vm.specs.declared.faults.JobTextFault.{JobTextFault}
use Rattle.job_vm.specs.declared.faults.JobTextFault.TheVariants.{BadProgram, NoMemory}

-- the fault names the line at which the reading stops; want of memory is free
abbrev pub NamesBadLine : {A : Type 0} → Result A ℕ → JobTextFault → Type 0
NamesBadLine reading (BadProgram line) = reading ≡ Err line
NamesBadLine reading NoMemory = Unit {0}

-- the fault names this line, of which the reading is none; want of memory is free
abbrev pub NamesUnreadLine : {A : Type 0} → ℕ → Option A → JobTextFault → Type 0
NamesUnreadLine at read (BadProgram line) = (line ≡ at) × (read ≡ None)
NamesUnreadLine at read NoMemory = Unit {0}
