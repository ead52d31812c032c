-- Rows that name tasks of a set name its first tasks alone.
use Rattle.std.proofs.Common.{List, [], ◌∷◌, length}
use Rattle.std.specs.List.{AllByRecursion}
use Rattle.sched_base.specs.declared.rows.Leaf.{Leaf}
use Rattle.sched_base.specs.declared.rows.Leaf.TheVariants as leaves
use Rattle.sched_base.specs.declared.rows.Row.{Row}
use Rattle.sched_base.specs.declared.sets.Task.{Task}
use Rattle.sched_base.specs.Lanes.{NamesOneOf}
use Rattle.row_totals.specs.Sums.{IsAmong, NamesAmong}

is_among : (tasks : List Task) (leaf : Leaf) → NamesOneOf tasks leaf → IsAmong (length tasks) leaf
is_among tasks (leaves.Task id) h = h
is_among tasks (leaves.Wait id) h = tt
is_among tasks (leaves.Idle number) h = tt
is_among tasks leaves.Empty h = tt

pub names_among : (tasks : List Task) (rows : List Row) → AllByRecursion (λ r. NamesOneOf tasks r.leaf) rows → NamesAmong (length tasks) rows
names_among tasks [] names = tt
names_among tasks (r ∷ rows) names = (is_among tasks r.leaf names.0, names_among tasks rows names.1)

-- so in each lane
pub lanes_among : (tasks : List Task) (lanes : List (List Row))
    → AllByRecursion (λ rows. AllByRecursion (λ r. NamesOneOf tasks r.leaf) rows) lanes → AllByRecursion (NamesAmong (length tasks)) lanes
lanes_among tasks [] names = tt
lanes_among tasks (lane ∷ lanes) names = (names_among tasks lane names.0, lanes_among tasks lanes names.1)
