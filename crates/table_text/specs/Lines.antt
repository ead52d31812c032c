-- The lines of a table in C, each with its line feed. Names are lawful ones, in which nothing needs escaping.
use Rattle.std.specs.Prelude.{ℕ, ◌^◌, ◌/◌, nat_lt, if◌then◌else◌, List, ◌++◌, codes, decimal}
use Rattle.sched_base.specs.declared.rows.Leaf.{Leaf}
use Rattle.sched_base.specs.declared.rows.Leaf.TheVariants as leaves
use Rattle.sched_base.specs.declared.rows.Row.{Row}
use Rattle.sched_base.specs.declared.sets.Task.{Task}

-- how many bits the narrowest unsigned type of C has that holds this number, which is below 2^64
abbrev pub width_of : ℕ → ℕ
width_of n = if nat_lt n (2 ^ 8) then 8 else (if nat_lt n (2 ^ 16) then 16 else (if nat_lt n (2 ^ 32) then 32 else 64))

-- a task: its name, work, period and offset
unfoldable pub task_line : Task → List ℕ
task_line t =
    codes "  {\"" ++ (t.name ++ (codes "\", " ++ (decimal t.work ++ (codes "u, " ++ (decimal t.period
    ++ (codes "u, " ++ (decimal t.offset ++ codes "u},\n")))))))

-- the number of the task that runs, or -1 where none does
abbrev pub task_number : Leaf → List ℕ
task_number (leaves.Task id) = decimal id.0
task_number (leaves.Wait id) = codes "-1"
task_number (leaves.Idle number) = codes "-1"
task_number leaves.Empty = codes "-1"

-- a row: its start and its end, in steps of so many ticks, and its task
unfoldable pub row_line : ℕ → Row → List ℕ
row_line step r =
    codes "  {" ++ (decimal (r.start / step) ++ (codes "u, " ++ (decimal (r.end / step) ++ (codes "u, " ++ (task_number r.leaf ++ codes "},\n")))))

-- processor p: how many rows it has, and where they are
unfoldable pub processor_line : ℕ → ℕ → List ℕ
processor_line p count = codes "  {" ++ (decimal count ++ (codes "u, furnacelime_rows_" ++ (decimal p ++ codes "},\n")))

-- a number, and its name as a comment
unfoldable pub field_line : List ℕ → ℕ → List ℕ
field_line name n = codes "  " ++ (decimal n ++ (codes "u, /* " ++ (name ++ codes " */\n")))
