-- Calendars, and how they belong to a plan.
use Rattle.std.specs.Prelude.{◌≡◌, ◌≢◌, ℕ, ◌<◌, ◌≤◌, ◌^◌, ◌⊎◌, ◌+◌, ◌==◌, ◌&&◌, not, Bool, true, false, List, []}
use Rattle.std.specs.Prelude.{◌∷◌, length, slice_index, slice_index_or}
use Rattle.knockout.specs.Knockouts.{never}
use Rattle.sched_base.specs.Counting.{bit}
use Rattle.sched_base.specs.declared.sets.Task as declared
use Rattle.sched_base.specs.Sets.{task_at}
use Rattle.run_tree.specs.Windows.{window_begin, window_end}
use Rattle.sched_base.specs.Boundaries.{task_boundary}
use Rattle.run_tree.specs.Tree.{Tree, kind_at, is_pack, IsPack, IsLeaf, IsMember}
use Rattle.run_tree.specs.Plans.{PlanContents, boundary_of}

-- the present unit, the next unit with a boundary of a task, the window of each leaf and dual, by its number, and the leaves
-- and duals whose windows began at the present unit, once it was moved to; of each node, how long its windows are, where all
-- are as long, or 0
pub record CalendarContents : Type 0 where
  pub unit : ℕ
  pub next : ℕ
  pub begins : List ℕ
  pub ends : List ℕ
  pub begun : List ℕ
  pub steps : List ℕ

-- where boundaries have a step, each window is as long as it
abbrev pub IsStep : (ℕ → Bool) → ℕ → Type 0
IsStep boundary step = 0 < step → (u : ℕ) → boundary u ≡ true → window_end boundary u ≡ u + step

-- each node has a step of its boundaries, or 0
pub record AreSteps (p : PlanContents) (steps : List ℕ) : Type 0 where
  pub long : length steps ≡ length p.tree.nodes
  pub all : (x : ℕ) → x < length p.tree.nodes → IsStep (boundary_of p x) (slice_index steps x)

-- leaf or dual x has its window of unit u
pub record HasWindow (p : PlanContents) (begins ends : List ℕ) (u x : ℕ) : Type 0 where
  pub begin : slice_index begins x ≡ window_begin (boundary_of p x) u
  pub end : slice_index ends x ≡ window_end (boundary_of p x) u

-- d is the least unit above u at which some task has a boundary; 2 ^ 33 where there are no tasks
pub record IsNext (tasks : List declared.Task) (u d : ℕ) : Type 0 where
  pub above : u < d
  pub below : d ≤ 2 ^ 33
  pub quiet : (j v : ℕ) → j < length tasks → u < v → v < d → task_boundary (task_at tasks j) v ≡ false
  pub here : (d ≡ 2 ^ 33) ⊎ ((j : ℕ) × (j < length tasks) × (task_boundary (task_at tasks j) d ≡ true))

-- the ends at packs, which have no windows of their own here, never come
abbrev pub PacksNeverEnd : Tree → List ℕ → Type 0
PacksNeverEnd t ends = (x : ℕ) → IsPack t x → slice_index ends x ≡ never

-- the calendar's windows, and its next unit, are those of the plan at its unit
pub record BelongsTo (p : PlanContents) (c : CalendarContents) : Type 0 where
  pub unit_fits : c.unit ≤ p.set.horizon
  pub begins_long : length c.begins ≡ length p.tree.nodes
  pub ends_long : length c.ends ≡ length p.tree.nodes
  pub windows : (x : ℕ) → IsMember p.tree x → HasWindow p c.begins c.ends c.unit x
  pub packs : PacksNeverEnd p.tree c.ends
  pub next : IsNext p.set.tasks c.unit c.next
  pub steps : AreSteps p c.steps

-- the list has all nodes that are marked, and no other
pub record AreListed (due : List Bool) (begun : List ℕ) : Type 0 where
  pub all : (x : ℕ) → slice_index_or due x false ≡ true → (k : ℕ) × (k < length begun) × (slice_index begun k ≡ x)
  pub marked : (k : ℕ) → k < length begun → slice_index_or due (slice_index begun k) false ≡ true

-- the list has exactly the leaves and duals that have a boundary at unit u: those that are marked where their marks say so
pub record AreDue (p : PlanContents) (u : ℕ) (begun : List ℕ) : Type 0 where
  pub due : List Bool
  pub long : length due ≡ length p.tree.nodes
  pub marked : (x : ℕ) → x < length p.tree.nodes → slice_index_or due x false ≡ (not (is_pack (kind_at p.tree x)) && boundary_of p x u)
  pub listed : AreListed due begun

-- no end is past the one that never comes
abbrev pub EndsFit : List ℕ → Type 0
EndsFit ends = (x : ℕ) → slice_index ends x ≤ never

-- ---- the steps of a turn

-- leaf or dual x either ends its window at unit u or has its window of unit u
pub record IsReady (p : PlanContents) (begins ends : List ℕ) (u x : ℕ) : Type 0 where
  pub due : slice_index ends x ≡ u → boundary_of p x u ≡ true
  pub other : (slice_index ends x ≡ u → ⊥) → HasWindow p begins ends u x

abbrev pub AreReady : PlanContents → List ℕ → List ℕ → ℕ → Type 0
AreReady p begins ends u = (x : ℕ) → IsMember p.tree x → IsReady p begins ends u x

-- the end of each leaf's and each dual's window that isn't unit u is that of its window of the unit
abbrev pub AreEnds : PlanContents → List ℕ → ℕ → Type 0
AreEnds p ends u = (x : ℕ) → IsMember p.tree x → (slice_index ends x ≡ u → ⊥) → slice_index ends x ≡ window_end (boundary_of p x) u

-- the leaves and duals below number n have their windows of unit u, and the others what they had before
pub record AreTurned (p : PlanContents) (begins ends begins' ends' : List ℕ) (u n : ℕ) : Type 0 where
  pub done : (x : ℕ) → x < n → IsMember p.tree x → HasWindow p begins' ends' u x
  pub same_begin : (x : ℕ) → (x < n → ⊥) → slice_index begins' x ≡ slice_index begins x
  pub same_end : (x : ℕ) → (x < n → ⊥) → slice_index ends' x ≡ slice_index ends x

-- while windows that end at unit u turn: each leaf or dual ends its window there or has its window of the unit, and those of
-- the latter are marked whose window begins there
pub record IsTurning (p : PlanContents) (begins ends : List ℕ) (due : List Bool) (u : ℕ) : Type 0 where
  pub ready : AreReady p begins ends u
  pub packs : PacksNeverEnd p.tree ends
  pub marked : (x : ℕ) → x < length p.tree.nodes → slice_index_or due x false ≡ (not (is_pack (kind_at p.tree x)) && slice_index begins x == u)

-- while windows that end at unit u turn: so it is by some marks, and the nodes that are marked are listed
pub record AreTurning (p : PlanContents) (begins ends begun : List ℕ) (u : ℕ) : Type 0 where
  pub due : List Bool
  pub long : length due ≡ length p.tree.nodes
  pub turning : IsTurning p begins ends due u
  pub listed : AreListed due begun

-- how many of these ends are at unit u
abbrev pub ending : ℕ → List ℕ → ℕ
ending u [] = 0
ending u (end ∷ ends) = bit (end == u) + ending u ends

-- the least end of the leaves below number n, or 2 ^ 33 where none is less
pub record IsFirstEnd (t : Tree) (ends : List ℕ) (n d : ℕ) : Type 0 where
  pub below : d ≤ 2 ^ 33
  pub all : (x : ℕ) → x < n → IsLeaf t x → d ≤ slice_index ends x
  pub one : (d ≡ 2 ^ 33) ⊎ ((x : ℕ) × IsLeaf t x × (d ≡ slice_index ends x))

-- of the first n ends none is at unit u
abbrev pub EndElsewhere : List ℕ → ℕ → ℕ → Type 0
EndElsewhere ends u n = (x : ℕ) → x < n → slice_index ends x ≢ u

-- the least of the first n ends, or 2 ^ 33 where none is less
pub record IsLeastEnd (ends : List ℕ) (n d : ℕ) : Type 0 where
  pub below : d ≤ 2 ^ 33
  pub all : (x : ℕ) → x < n → d ≤ slice_index ends x
  pub one : (d ≡ 2 ^ 33) ⊎ ((x : ℕ) × (x < n) × (d ≡ slice_index ends x))
