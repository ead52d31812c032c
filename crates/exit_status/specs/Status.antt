-- The numbers of statuses.
use Rattle.std.specs.Prelude.{ℕ}
use Rattle.exit_status.specs.declared.Status.{Status}
use Rattle.exit_status.specs.declared.Status.TheVariants.{Done, Invalid, Usage, ReadFault, WriteFault, NoMemory, BadInput, Overload}
use Rattle.exit_status.specs.declared.Status.TheVariants.{ScaleTooLarge, TooLong, GateFault, JobFault, InputTooLong, ModeFault, BadTree, TooWide}

-- the exit status of the program
abbrev pub code_of : Status → ℕ
code_of Done = 0
code_of Invalid = 1
code_of Usage = 2
code_of ReadFault = 3
code_of WriteFault = 4
code_of NoMemory = 5
code_of BadInput = 6
code_of Overload = 7
code_of ScaleTooLarge = 8
code_of TooLong = 9
code_of GateFault = 10
code_of JobFault = 11
code_of InputTooLong = 12
code_of ModeFault = 15
code_of BadTree = 16
code_of TooWide = 17
