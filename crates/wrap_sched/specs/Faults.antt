-- When the rounds of a wrapped schedule aren't counted.
use Rattle.std.specs.Prelude.{ℕ, ◌≡◌, ◌<◌, ◌+◌, ◌*◌, ◌/◌}
use Rattle.sched_base.specs.Sets.{SetContents}
use Rattle.sched_base.specs.Tables.{row_limit}
use Rattle.wrap_sched.specs.declared.counts.WrapFault.{WrapFault}
use Rattle.wrap_sched.specs.declared.counts.WrapFault.TheVariants as fault
use Rattle.wrap_sched.specs.Wrapped.{wrapped_rounds}

-- their rows are too many, and this is the least multiple of the number of processors above the limit; or memory was refused
abbrev pub IsWrapFault : ℕ → SetContents → WrapFault → Type 0
IsWrapFault scale s (fault.TooLong rows) = (row_limit < wrapped_rounds scale s * s.processors) × (rows ≡ (row_limit / s.processors + 1) * s.processors)
IsWrapFault scale s fault.NoMemory = Unit {0}
