-- Why a set isn't opened.
use Rattle.std.specs.Prelude.{◌≡◌, ℕ, ◌<◌, List, length, Ok, Err}
use Rattle.sched_base.specs.Limits.{set_limit}
use Rattle.sched_base.specs.Sets.{SetContents}
use Rattle.exit_status.specs.declared.Status.{Status}
use Rattle.exit_status.specs.declared.Status.TheVariants as status
use Rattle.task_reader.specs.Reading.{set_read_from}
use Rattle.task_reader.specs.declared.refusals.ReadSet.TheVariants as set
use Rattle.run_compile.specs.Answers.{IsRefused}
use Rattle.run_compile.specs.declared.faults.CompileFault.TheVariants as compile
use Rattle.round_steps.specs.declared.faults.OpenFault.{OpenFault}
use Rattle.round_steps.specs.declared.faults.OpenFault.TheVariants as fault

-- the status with which the program refuses the set
abbrev pub status_of : OpenFault → Status
status_of fault.NoMemory = status.NoMemory
status_of (fault.BadSet set.NoMemory) = status.NoMemory
status_of (fault.BadSet refusal) = status.BadInput
status_of (fault.NotRun compile.NoMemory) = status.NoMemory
status_of (fault.NotRun (compile.Overload total room)) = status.Overload
status_of (fault.NotRun (compile.ScaleTooLarge at)) = status.ScaleTooLarge
status_of fault.InputTooLong = status.InputTooLong

-- these bytes aren't opened for this reason; want of memory alone has none
abbrev pub IsRefusedFor : List ℕ → OpenFault → Type 0
IsRefusedFor bytes fault.NoMemory = Unit {0}
IsRefusedFor bytes (fault.BadSet set.NoMemory) = Unit {0}
IsRefusedFor bytes (fault.BadSet refusal) = set_read_from bytes ≡ Err refusal
IsRefusedFor bytes (fault.NotRun refusal) = (s : SetContents) × (set_read_from bytes ≡ Ok s) × IsRefused s refusal
IsRefusedFor bytes fault.InputTooLong = set_limit < length bytes
