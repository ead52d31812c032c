-- What lists say of a tick, and what spending makes of them.
use Rattle.std.specs.Prelude.{ℕ, ◌≡◌, ◌-◌, ◌*◌, Bool, false, List, slice_index, slice_index_or}
use Rattle.sched_base.specs.Counting.{bit}
use Rattle.run_tree.specs.Tree.{IsMember}
use Rattle.run_tree.specs.Boundaries.{set_boundary}
use Rattle.run_tree.specs.Runs.{runs, due_left, ticks_below}
use Rattle.run_tree.specs.Plans.{PlanContents}
use Rattle.server_budget.specs.Spent.{spends}

-- what is left of the due of node x at tick n
abbrev pub left_of : PlanContents → ℕ → ℕ → ℕ
left_of p n x = due_left (set_boundary p.set.tasks) p.tree (ticks_below (set_boundary p.set.tasks) p.tree n) x

-- the list says what is left of each due at tick n
abbrev pub SaysLeft : PlanContents → ℕ → List ℕ → Type 0
SaysLeft p n remains = (x : ℕ) → IsMember p.tree x → slice_index remains x ≡ left_of p n x

-- the list says who runs at tick n
abbrev pub SaysMembersRun : PlanContents → ℕ → List Bool → Type 0
SaysMembersRun p n running = (x : ℕ) → IsMember p.tree x → slice_index_or running x false ≡ runs (set_boundary p.set.tasks) p.tree x n

-- the ticks are taken off each leaf and dual that runs, as spending does
abbrev pub AreSpent : PlanContents → List Bool → ℕ → List ℕ → List ℕ → Type 0
AreSpent p running ticks before after = (x : ℕ) → IsMember p.tree x → slice_index after x ≡ slice_index before x - bit (spends p.tree running x) * ticks
