-- Windows between boundaries. A boundary test says of each unit whether it is a boundary.
use Rattle.std.specs.Prelude.{ℕ, zero, suc, ◌+◌, ◌^◌, ◌<◌, ◌≤◌, ◌≡◌, Bool, true, false}

-- the greatest boundary at most u
abbrev pub window_begin : (ℕ → Bool) → ℕ → ℕ
window_begin is_boundary zero = 0
window_begin is_boundary (suc u) = elim (is_boundary (suc u)) [ true ↦ suc u | false ↦ window_begin is_boundary u ]

-- the least boundary above u, where there is one among the next `room` units
abbrev pub boundary_within : ℕ → (ℕ → Bool) → ℕ → ℕ
boundary_within zero is_boundary u = suc u
boundary_within (suc room) is_boundary u = elim (is_boundary (suc u)) [ true ↦ suc u | false ↦ boundary_within room is_boundary (suc u) ]

-- the least boundary above u; there is always one within 2 ^ 33 units
unfoldable pub window_end : (ℕ → Bool) → ℕ → ℕ
window_end is_boundary u = boundary_within (2 ^ 33) is_boundary u

-- All that the laws use of boundaries: 0 is one, and above each unit there is one within 2 ^ 33 units.
pub record HasBoundaries (is_boundary : ℕ → Bool) : Type 0 where
  pub first : is_boundary 0 ≡ true
  pub later : (u : ℕ) → (d : ℕ) × (u < d) × (d ≤ u + 2 ^ 33) × (is_boundary d ≡ true)

-- windows that tile the units: the window that holds unit u begins at `begins u` and ends before `ends u`
pub record IsWindows (begins ends : ℕ → ℕ) : Type 0 where
  pub begun : (u : ℕ) → begins u ≤ u
  pub open_still : (u : ℕ) → u < ends u
  pub same_begin : (u v : ℕ) → begins u ≤ v → v < ends u → begins v ≡ begins u
  pub same_end : (u v : ℕ) → begins u ≤ v → v < ends u → ends v ≡ ends u
  pub next_begins : (u v : ℕ) → ends u ≤ v → ends u ≤ begins v
