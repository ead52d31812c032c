-- Rows as they begin, in records of some bytes.
use Rattle.std.specs.Prelude.{ℕ, ◌≡◌, ◌+◌, ◌*◌, ◌/◌, ◌%◌, ◌^◌, ◌==◌, if◌then◌else◌, Bool, true, false, List, [], ◌∷◌, ◌++◌, map}
use Rattle.sched_base.specs.declared.rows.Leaf.{Leaf}
use Rattle.sched_base.specs.declared.rows.Leaf.TheVariants.{Task, Wait, Idle, Empty}
use Rattle.merged_rows.specs.declared.columns.Column.{Column}
use Rattle.merged_rows.specs.declared.columns.Column.TheVariants.{Narrow, Medium, Wide, Full}
use Rattle.merged_rows.specs.declared.forms.FullRow.{FullRow}
use Rattle.merged_rows.specs.declared.forms.MediumRow.{MediumRow}
use Rattle.merged_rows.specs.declared.forms.NarrowRow.{NarrowRow}
use Rattle.merged_rows.specs.declared.forms.WideRow.{WideRow}
use Rattle.merged_rows.specs.Columns.{Begun}

-- the leaf of a kind that has this number: the kinds are tasks, idle leaves, waiting tasks and the empty leaf
abbrev pub leaf_of : ℕ → ℕ → Leaf
leaf_of kind number =
    if kind == 0 then Task (record { 0 = number })
    else (if kind == 1 then Idle number else (if kind == 2 then Wait (record { 0 = number }) else Empty))

-- the leaf that has this code: its kind stands in front of 14 bits of its number
abbrev pub leaf_for : ℕ → Leaf
leaf_for code = leaf_of (code / 16384) (code % 16384)

-- what a row in 8 bytes stands for
abbrev pub begun_narrow : NarrowRow → Begun
begun_narrow r = record { start = r.high * 2 ^ 32 + r.low; leaf = leaf_for r.code }

-- what a row in 12 bytes stands for
abbrev pub begun_medium : MediumRow → Begun
begun_medium r = record { start = r.high * 2 ^ 64 + (r.middle * 2 ^ 32 + r.low); leaf = leaf_for r.code }

-- what a row in 16 bytes stands for
abbrev pub begun_wide : WideRow → Begun
begun_wide r = record { start = (r.high * 2 ^ 32 + r.middle) * 2 ^ 64 + r.low; leaf = leaf_for r.code }

-- what a row in 32 bytes stands for
abbrev pub begun_full : FullRow → Begun
begun_full r = record { start = r.start; leaf = r.leaf }

-- the rows of a column
abbrev pub begun_in : Column → List Begun
begun_in (Narrow rows) = map begun_narrow rows.items
begun_in (Medium rows) = map begun_medium rows.items
begun_in (Wide rows) = map begun_wide rows.items
begun_in (Full rows) = map begun_full rows.items

-- there is one row more, or there are the same rows, as is told
abbrev pub IsPushed : List Begun → Begun → Bool → List Begun → Type 0
IsPushed before b true after = after ≡ before ++ b ∷ []
IsPushed before b false after = after ≡ before
