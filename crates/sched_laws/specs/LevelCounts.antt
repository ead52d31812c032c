-- How many packs a level has, how many of them run, and how many are no roots.
use Rattle.std.specs.Prelude.{ℕ, ◌*◌, ◌&&◌, Bool, length, is_some}
use Rattle.sched_base.specs.Counting.{sum_to, bit}
use Rattle.sched_base.specs.declared.rows.Leaf.{Leaf}
use Rattle.run_tree.specs.Tree.{Tree, rate, dual, at_level}
use Rattle.run_tree.specs.Runs.{runs}

-- how many packs of level l run at tick n
abbrev pub running : (Leaf → ℕ → Bool) → Tree → ℕ → ℕ → ℕ
running of_leaf t l n = sum_to (length t.nodes) (λ p. bit (at_level t l p) * bit (runs of_leaf t p n))

-- the rates of the packs of level l together
abbrev pub level_rate : Tree → ℕ → ℕ
level_rate t l = sum_to (length t.nodes) (λ p. bit (at_level t l p) * rate t p)

-- whether node p is a pack of level l that is no root
abbrev pub has_dual_at : Tree → ℕ → ℕ → Bool
has_dual_at t l p = at_level t l p && is_some (dual t p)

-- how many packs of level l are no roots
abbrev pub duals_of : Tree → ℕ → ℕ
duals_of t l = sum_to (length t.nodes) (λ p. bit (has_dual_at t l p))
