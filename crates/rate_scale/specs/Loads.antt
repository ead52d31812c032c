-- What a set asks of its processors, or why they can't give it.
use Rattle.std.specs.Prelude.{ℕ, ◌≡◌, ◌≤◌, ◌<◌, ◌^◌}
use Rattle.sched_base.specs.Sets.{SetContents}
use Rattle.sched_base.specs.Scale.{IsScale, PassesAt, Fits, total_of, room_of}
use Rattle.rate_scale.specs.declared.loads.Load.{Load}
use Rattle.rate_scale.specs.declared.loads.LoadFault.{LoadFault}
use Rattle.rate_scale.specs.declared.loads.LoadFault.TheVariants as fault

-- the scale of the set, within the limit
pub record HasScale (s : SetContents) (scale : ℕ) : Type 0 where
  pub is : IsScale s.tasks scale
  pub within : scale ≤ 2 ^ 94

-- the set asks for this total, more than this room
pub record IsOverload (s : SetContents) (total room : ℕ) : Type 0 where
  pub some_scale : (scale : ℕ) × HasScale s scale × (total ≡ total_of scale s.tasks) × (room ≡ room_of scale s)
  pub over : room < total

-- this is the set's load, and it fits
pub record IsLoadOf (s : SetContents) (load : Load) : Type 0 where
  pub scale : HasScale s load.scale
  pub total : load.total ≡ total_of load.scale s.tasks
  pub room : load.room ≡ room_of load.scale s
  pub fits : Fits load.scale s

-- the scale is past the limit, or the tasks ask for too much
abbrev pub IsUnfit : SetContents → LoadFault → Type 0
IsUnfit s (fault.ScaleTooLarge at) = PassesAt (2 ^ 94) s.tasks at
IsUnfit s (fault.Overload total room) = IsOverload s total room

-- the numbers of an overload are below 2 ^ 127
abbrev pub AreSmall : LoadFault → Type 0
AreSmall (fault.Overload total room) = (total < 2 ^ 127) × (room < 2 ^ 127)
AreSmall (fault.ScaleTooLarge at) = Unit {0}
