-- The lines of a trace text, each with its line feed.
use Rattle.std.specs.Prelude.{ℕ, List, [], ◌∷◌, codes, decimal}
use Rattle.sched_base.specs.Bytes.{hyphen}
use Rattle.sched_base.specs.declared.rows.Leaf.{Leaf}
use Rattle.sched_base.specs.declared.rows.Leaf.TheVariants as leaves
use Rattle.sched_base.specs.declared.rows.Row.{Row}
use Rattle.sched_base.specs.declared.sets.Task.{Task}
use Rattle.sched_base.specs.Sets.{task_at}
use Rattle.sched_edges.specs.Lines.{line_of}
use Rattle.trace_format.specs.declared.versions.Version.{Version}
use Rattle.trace_format.specs.declared.versions.Version.TheVariants.{One, Two}

-- the number on the first line
abbrev pub version_number : Version → ℕ
version_number One = 1
version_number Two = 2

-- `-`, which stands for every leaf but a task
abbrev pub idle_name : List ℕ
idle_name = hyphen ∷ []

-- the name that a row's line gives its leaf
abbrev pub leaf_name : List Task → Leaf → List ℕ
leaf_name tasks (leaves.Task id) = (task_at tasks id.0).name
leaf_name tasks (leaves.Wait id) = idle_name
leaf_name tasks (leaves.Idle number) = idle_name
leaf_name tasks leaves.Empty = idle_name

-- the last words of a task's line: version 2 has the offset
abbrev pub offset_words : Version → Task → List (List ℕ)
offset_words One t = []
offset_words Two t = decimal t.offset ∷ []

-- a task: its name, work, period and, in version 2, offset
unfoldable pub task_line : Version → Task → List ℕ
task_line version t = line_of (codes "task") (t.name ∷ (decimal t.work ∷ (decimal t.period ∷ offset_words version t)))

-- a row: its processor, start, end and name
unfoldable pub row_line : List Task → Row → List ℕ
row_line tasks r = line_of (codes "row") (decimal r.processor ∷ (decimal r.start ∷ (decimal r.end ∷ (leaf_name tasks r.leaf ∷ []))))

-- period k of the task of this name was done at this tick
unfoldable pub met_line : List ℕ → ℕ → ℕ → List ℕ
met_line name k finish = line_of (codes "met") (name ∷ (decimal k ∷ (decimal finish ∷ [])))
