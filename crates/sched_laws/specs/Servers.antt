-- One pack that serves its members by earliest deadline first: what the laws are proved of.
use Rattle.std.specs.Prelude.{ℕ, ◌-◌, ◌*◌, ◌/◌, ◌<◌, ◌≤◌, ◌≡◌, Bool, true, length}
use Rattle.sched_base.specs.Counting.{ticks, sum_to}
use Rattle.sched_base.specs.declared.rows.Leaf.{Leaf}
use Rattle.run_tree.specs.Windows.{window_begin, window_end, IsWindows}
use Rattle.run_tree.specs.Tree.{Tree, rate, member, members}
use Rattle.run_tree.specs.Boundaries.{is_boundary}
use Rattle.run_tree.specs.Runs.{runs}

-- a pack and its members: their rates, their windows, and who runs at each tick
pub record Server : Type 0 where
  pub scale : ℕ
  -- how many members it has, and their rates
  pub count : ℕ
  pub rate : ℕ → ℕ
  -- a member's windows, and the pack's, in units
  pub begins : ℕ → ℕ → ℕ
  pub ends : ℕ → ℕ → ℕ
  pub pack_begins : ℕ → ℕ
  pub pack_ends : ℕ → ℕ
  -- who runs at a tick
  pub pack : ℕ → Bool
  pub member : ℕ → ℕ → Bool

-- the due of member k in the window of unit u
abbrev pub due : Server → ℕ → ℕ → ℕ
due v k u = v.rate k * (v.ends k u - v.begins k u)

-- what is left at tick t of the due of member k
abbrev pub left : Server → ℕ → ℕ → ℕ
left v k t = due v k (t / v.scale) - (ticks (v.member k) t - ticks (v.member k) (v.begins k (t / v.scale) * v.scale))

-- it serves its members by earliest deadline first
pub record Serves (v : Server) : Type 0 where
  pub scaled : 0 < v.scale
  pub windows : (k : ℕ) → k < v.count → IsWindows (v.begins k) (v.ends k)
  pub pack_windows : IsWindows v.pack_begins v.pack_ends
  -- each boundary of a member is one of the pack
  pub ends_first : (k u : ℕ) → k < v.count → v.pack_ends u ≤ v.ends k u
  pub begins_last : (k u : ℕ) → k < v.count → v.begins k u ≤ v.pack_begins u
  -- a member runs only in its pack's ticks, with due left
  pub within : (k t : ℕ) → k < v.count → v.member k t ≡ true → v.pack t ≡ true
  pub has_left : (k t : ℕ) → k < v.count → v.member k t ≡ true → 0 < left v k t
  -- at most one runs
  pub alone : (j k t : ℕ) → j < v.count → k < v.count → v.member j t ≡ true → v.member k t ≡ true → j ≡ k
  -- where one has due left in a running pack, one runs whose window ends no later
  pub earliest : (k t : ℕ) → k < v.count → v.pack t ≡ true → 0 < left v k t →
      (j : ℕ) × (j < v.count) × (v.member j t ≡ true) × (v.ends j (t / v.scale) ≤ v.ends k (t / v.scale))

-- the pack runs its rate in each unit up to each of its boundaries
abbrev pub IsSupplied : Server → Type 0
IsSupplied v = (u : ℕ) → v.pack_begins u ≡ u → ticks v.pack (u * v.scale) ≡ sum_to v.count v.rate * u

-- pack p of a tree, as a server of its members
abbrev pub server : (Leaf → ℕ → Bool) → Tree → ℕ → Server
server of_leaf t p = record {
  scale = t.scale;
  count = length (members t p);
  rate = λ k. rate t (member t p k);
  begins = λ k. window_begin (is_boundary of_leaf t (member t p k));
  ends = λ k. window_end (is_boundary of_leaf t (member t p k));
  pack_begins = window_begin (is_boundary of_leaf t p);
  pack_ends = window_end (is_boundary of_leaf t p);
  pack = runs of_leaf t p;
  member = λ k. runs of_leaf t (member t p k);
}
