-- What the compiler's answers say of a set.
use Rattle.std.specs.Prelude.{ℕ, ◌<◌, ◌^◌}
use Rattle.sched_base.specs.Sets.{SetContents}
use Rattle.sched_base.specs.Scale.{PassesAt, Fits}
use Rattle.rate_scale.specs.declared.loads.LoadFault.{LoadFault}
use Rattle.rate_scale.specs.declared.loads.LoadFault.TheVariants as load
use Rattle.run_compile.specs.declared.faults.CompileFault.{CompileFault}
use Rattle.run_compile.specs.declared.faults.CompileFault.TheVariants as fault
pub use Rattle.rate_scale.specs.Loads.{HasScale, IsOverload}

-- the refusal of a set that doesn't fit
abbrev pub of_load : LoadFault → CompileFault
of_load (load.ScaleTooLarge at) = fault.ScaleTooLarge at
of_load (load.Overload total room) = fault.Overload total room

-- the scale is past the limit; the tasks ask for too much; or the set would be compiled, had there been memory
abbrev pub IsRefused : SetContents → CompileFault → Type 0
IsRefused s (fault.ScaleTooLarge at) = PassesAt (2 ^ 94) s.tasks at
IsRefused s (fault.Overload total room) = IsOverload s total room
IsRefused s fault.NoMemory = (scale : ℕ) × HasScale s scale × Fits scale s

-- the numbers of an overload are below 2 ^ 127
abbrev pub IsSmall : CompileFault → Type 0
IsSmall (fault.Overload total room) = (total < 2 ^ 127) × (room < 2 ^ 127)
IsSmall _ = Unit {0}
