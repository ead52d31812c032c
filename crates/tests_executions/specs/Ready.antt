-- Kits whose gates ran nothing yet, and plans that can be executed on them.
use Rattle.std.specs.Prelude.{ℕ, ◌≡◌, ◌<◌, List, [], length}
use Rattle.sched_edges.specs.Gates.{GateHeld}
use Rattle.run_tree.specs.Plans.{PlanContents}
use Rattle.exec_lanes.specs.declared.kits.Kit.{Kit}
use Rattle.exec_lanes.specs.Kits.{KitAt}
use Rattle.exec_workers.specs.Runs.{IsExecutable}

-- the first n kits have gates that ran nothing yet
abbrev pub AreUnrun : ℕ → List (Kit GateHeld) → Type 0
AreUnrun n kits = (p : ℕ) → p < n → (gate : GateHeld) × KitAt kits p gate × (gate.ran ≡ [])

-- a plan with so many processors and tasks can be executed on these kits
pub record IsReady (m n rounds window : ℕ) (p : PlanContents) (kits : List (Kit GateHeld)) : Type 0 where
  pub executable : IsExecutable p rounds window
  pub processors : p.tree.processors ≡ m
  pub tasks : length p.set.tasks ≡ n
  pub unrun : AreUnrun m kits
