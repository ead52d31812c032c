-- What a node of a rate runs.
use Rattle.std.specs.Prelude.{ℕ, ◌+◌, ◌-◌, ◌*◌, ◌≡◌, Bool}
use Rattle.sched_base.specs.Counting.{ticks}
use Rattle.sched_base.specs.declared.rows.Leaf.{Leaf}
use Rattle.run_tree.specs.Windows.{window_begin, window_end}
use Rattle.run_tree.specs.Tree.{Tree, rate}
use Rattle.run_tree.specs.Boundaries.{is_boundary}
use Rattle.run_tree.specs.Runs.{runs}

-- in each of its windows the node runs exactly its rate for each unit
abbrev pub RunsRate : (Leaf → ℕ → Bool) → Tree → ℕ → Type 0
RunsRate of_leaf t x = (u : ℕ) →
    ticks (runs of_leaf t x) (window_end (is_boundary of_leaf t x) u * t.scale)
    ≡ ticks (runs of_leaf t x) (window_begin (is_boundary of_leaf t x) u * t.scale) + rate t x *
    (window_end (is_boundary of_leaf t x) u - window_begin (is_boundary of_leaf t x) u)
