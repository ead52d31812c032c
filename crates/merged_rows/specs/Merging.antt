-- Merging the rows of one processor that follow one another under the same name.
use Rattle.std.specs.Prelude.{ℕ, ◌+◌, ◌==◌, ◌&&◌, if◌then◌else◌, List, [], ◌∷◌}
use Rattle.std.specs.List.{flat_map}
use Rattle.sched_base.specs.declared.rows.Leaf.{Leaf}
use Rattle.sched_base.specs.declared.rows.Leaf.TheVariants as leaves
use Rattle.sched_base.specs.declared.rows.Row.{Row}

-- the leaf that reading the name of this one gives: all leaves but tasks are printed alike
abbrev pub as_read : Leaf → Leaf
as_read (leaves.Task id) = leaves.Task id
as_read (leaves.Wait id) = leaves.Idle 0
as_read (leaves.Idle number) = leaves.Idle 0
as_read leaves.Empty = leaves.Idle 0

-- what is printed of a leaf: a task has its number and one more, all others have 0
abbrev pub shown : Leaf → ℕ
shown (leaves.Task id) = id.0 + 1
shown (leaves.Wait id) = 0
shown (leaves.Idle number) = 0
shown leaves.Empty = 0

-- the row, up to this end
abbrev pub lengthened : Row → ℕ → Row
lengthened r end = record { processor = r.processor; start = r.start; end = end; leaf = r.leaf }

-- a row before merged ones: where the first of them goes on under the same name, they make one row
abbrev pub merge_onto : Row → List Row → List Row
merge_onto r [] = r ∷ []
merge_onto r (q ∷ rows) = if (r.end == q.start) && (shown r.leaf == shown q.leaf) then lengthened r q.end ∷ rows else r ∷ (q ∷ rows)

-- the rows of one processor, merged
abbrev pub merged : List Row → List Row
merged [] = []
merged (r ∷ rows) = merge_onto r (merged rows)

-- the rows of all processors, each processor's merged
abbrev pub merged_lanes : List (List Row) → List Row
merged_lanes lanes = flat_map merged lanes
