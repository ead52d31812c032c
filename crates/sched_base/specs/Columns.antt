-- Columns of a table: what they are read as, and what a round appends.
use Rattle.std.specs.Prelude.{◌-◌, List, [], ◌∷◌, ◌++◌}
use Rattle.sched_base.specs.declared.columns.ShortLeaf.{ShortLeaf}
use Rattle.sched_base.specs.declared.columns.ShortLeaf.TheVariants as short
use Rattle.sched_base.specs.declared.rows.Leaf.{Leaf}
use Rattle.sched_base.specs.declared.rows.Leaf.TheVariants as leaves
use Rattle.sched_base.specs.declared.rows.Row.{Row}
use Rattle.sched_base.specs.Tables.{LaneHeld, EndsHeld}

-- the leaf of two bytes
abbrev pub leaf_of : ShortLeaf → Leaf
leaf_of (short.Task number) = leaves.Task (record { 0 = number })
leaf_of (short.Idle number) = leaves.Idle number
leaf_of (short.Wait number) = leaves.Wait (record { 0 = number })
leaf_of short.Empty = leaves.Empty

-- a lane with one leaf more
abbrev pub with_leaf : LaneHeld → Leaf → LaneHeld
with_leaf lane leaf = record { leaves = lane.leaves ++ leaf ∷ []; room = lane.room - 1 }

-- the lanes, each with the leaf of its row of one round more
abbrev pub with_leaves : List LaneHeld → List Row → List LaneHeld
with_leaves [] rows = []
with_leaves (lane ∷ lanes) [] = lane ∷ lanes
with_leaves (lane ∷ lanes) (r ∷ rows) = with_leaf lane r.leaf ∷ with_leaves lanes rows

-- the ends, with that of a round of these rows, where there are some
abbrev pub with_end : EndsHeld → List Row → EndsHeld
with_end held [] = held
with_end held (r ∷ rows) = record { ends = held.ends ++ r.end ∷ []; room = held.room - 1 }
