-- The slices of the wrapped schedule of a set.
use Rattle.std.specs.Prelude.{◌≡◌, ◌≤◌, ◌^◌}
use Rattle.sched_base.specs.Scale.{IsScale, Fits}
use Rattle.wrap_sched.specs.declared.units.Slices.{Slices}
use Rattle.wrap_sched.specs.Steps.{rates, unit_rounds}

-- the slices of a set that fits, and the pattern of a slice of one unit
pub record AreSlices (s : Slices) : Type 0 where
  pub scale : IsScale s.set.now.tasks s.scale
  pub scale_fits : s.scale ≤ 2 ^ 94
  pub fits : Fits s.scale s.set.now
  pub pattern : s.pattern.items ≡ unit_rounds s.set.now.processors s.scale (rates s.scale s.set.now.tasks)
