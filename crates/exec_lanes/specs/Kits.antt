-- Kits with their gates, before a run and after it.
use Rattle.std.specs.Prelude.{ℕ, ◌≡◌, ◌<◌, List, Option, Some, None, slice_get}
use Rattle.sched_base.specs.declared.rows.Row.{Row}
use Rattle.exec_lanes.specs.declared.kits.Kit.{Kit}
use Rattle.exec_lanes.specs.Lanes.{LaneContents}

-- kit p holds this gate
abbrev pub KitAt : {G : Type 0} → List (Kit G) → ℕ → G → Type 0
KitAt kits p gate = slice_get kits p ≡ Some (record { gate = Some gate })

-- kit p's gate is out
abbrev pub IsLent : {G : Type 0} → List (Kit G) → ℕ → Type 0
IsLent kits p = slice_get kits p ≡ Some (record { gate = None })

-- each of the first m kits holds a gate
abbrev pub AreFilled : {G : Type 0} → ℕ → List (Kit G) → Type 0
AreFilled {G} m kits = (p : ℕ) → p < m → (gate : G) × KitAt kits p gate

-- the lane of this gate before its first row
abbrev pub lane_at_start : {G : Type 0} → (G → Option (List Row)) → (G → ℕ) → ℕ → G → LaneContents
lane_at_start ran faults p gate = record { ran = ran gate; faults = faults gate; seat = record { lane = p; posted = 0 }; cause = None }

-- the gate tells what its lane says
pub record IsGateOf {G : Type 0} (ran : G → Option (List Row)) (faults : G → ℕ) (lane : LaneContents) (gate : G) : Type 0 where
  pub rows : ran gate ≡ lane.ran
  pub count : faults gate ≡ lane.faults
