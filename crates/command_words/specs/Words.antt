-- Command lines.
use Rattle.std.specs.Prelude.{ℕ, ◌-◌, ◌≤◌, ◌==◌, ◌^◌, ◌&&◌, ◌||◌, nat_le, if◌then◌else◌, Bool, false, List, [], ◌∷◌}
use Rattle.std.specs.Prelude.{length, take, drop, Option}
use Rattle.std.specs.Prelude.{Some, None, IfSome, option_map, option_and_then, codes}
use Rattle.std.specs.Str.{bytes_eq}
use Rattle.sched_base.specs.Limits.{unit_limit, window_limit}
use Rattle.text_words.specs.Words.{number_of}
use Rattle.command_words.specs.declared.command.Command.{Command}
use Rattle.command_words.specs.declared.command.Command.TheVariants.{Read, Batch, Execute}
use Rattle.command_words.specs.declared.command.Reading.{Reading}
use Rattle.command_words.specs.declared.command.Reading.TheVariants.{Rate, Tree, Trace, TraceMet, TraceWrap, TraceRepeat}
use Rattle.command_words.specs.declared.command.Reading.TheVariants.{Table, TableRepeat, Check, Follow, Draw}
use Rattle.command_words.specs.declared.command.Execution.{Execution}
use Rattle.command_words.specs.declared.command.Execution.TheVariants.{Exec, ExecMet, Drill, Jobs, Modes}

-- ---- options

-- what follows this text at the front of a word
abbrev pub after_text : List ℕ → List ℕ → Option (List ℕ)
after_text text word = if bytes_eq (take (length text) word) text then Some (drop (length text) word) else None

-- the value of this option that stands behind `=` in the same word
abbrev pub value_in : List ℕ → List ℕ → Option (List ℕ)
value_in name word = option_and_then (after_text (codes "=")) (after_text name word)

-- the value that was met at the front of the words, if one was, and the words behind it
abbrev pub met_at : Option (List ℕ) → List ℕ → List (List ℕ) → Option (List ℕ) × List (List ℕ)
met_at (Some value) word rest = (Some value, rest)
met_at None word rest = (None, word ∷ rest)

-- the value of this option at the front of the words, as a word of its own or behind `=`, if it stands there, and the words behind it
abbrev pub front : List ℕ → List (List ℕ) → Option (List ℕ) × List (List ℕ)
front name [] = (None, [])
front name (word ∷ []) = met_at (value_in name word) word []
front name (word ∷ next ∷ rest) = if bytes_eq word name then (Some next, rest) else met_at (value_in name word) word (next ∷ rest)

-- the number from `low` to `high` that a word writes: in decimal digits, without a leading zero
abbrev pub number_in : ℕ → ℕ → List ℕ → Option ℕ
number_in low high word = option_and_then (λ n. if nat_le low n && nat_le n high then Some n else None) (number_of word)

-- ---- pictures

-- the first unit that is asked for by the value of `--from`: 0 where there is none
abbrev pub asked_from : Option (List ℕ) → Option ℕ
asked_from None = Some 0
asked_from (Some word) = number_in 0 unit_limit word

-- how many units are asked for by the value of `--units`: as many as are easily looked at where there is none
abbrev pub asked_units : Option (List ℕ) → Option (Option ℕ)
asked_units None = Some None
asked_units (Some word) = option_map (λ n. Some n) (number_in 1 unit_limit word)

-- `draw` with the values of its options, where they stand there
abbrev pub drawn : Option (List ℕ) → Option (List ℕ) → Option Reading
drawn from units = option_and_then (λ first. option_map (λ units. Draw (record { from = first; units = units })) (asked_units units)) (asked_from from)

-- `draw` with these values, where no word is left
abbrev pub draw_at_end : Option (List ℕ) → Option (List ℕ) → List (List ℕ) → Option Reading
draw_at_end from units [] = drawn from units
draw_at_end from units (word ∷ rest) = None

-- `draw` with these options: `--from` stands before `--units`
abbrev pub draw_of : List (List ℕ) → Option Reading
draw_of words =
    let from = front (codes "--from") words in
    let units = front (codes "--units") from.1 in
    draw_at_end from.0 units.0 units.1

-- a picture shows one unit at least, where their number is asked for
abbrev pub DrawsSomeUnit : Reading → Type 0
DrawsSomeUnit (Draw asked) = IfSome asked.units (λ n. 1 ≤ n)
DrawsSomeUnit _ = Unit {0}

-- ---- commands that read

-- the command of this name, if there is one
abbrev pub reading_named : List ℕ → Option Reading
reading_named word =
    if bytes_eq word (codes "rate") then Some Rate
    else if bytes_eq word (codes "tree") then Some Tree
    else if bytes_eq word (codes "trace") then Some Trace
    else if bytes_eq word (codes "table") then Some Table
    else if bytes_eq word (codes "check") then Some Check
    else if bytes_eq word (codes "follow") then Some Follow
    else None

-- the command of this name with this option, if there is one
abbrev pub reading_with : List ℕ → List ℕ → Option Reading
reading_with word option =
    if bytes_eq word (codes "trace") && bytes_eq option (codes "--met") then Some TraceMet
    else if bytes_eq word (codes "trace") && bytes_eq option (codes "--by=wrap") then Some TraceWrap
    else if bytes_eq word (codes "trace") && bytes_eq option (codes "--repeat") then Some TraceRepeat
    else if bytes_eq word (codes "table") && bytes_eq option (codes "--repeat") then Some TableRepeat
    else None

-- the command of this name with this option and its value, if there is one
abbrev pub reading_with_value : List ℕ → List ℕ → List ℕ → Option Reading
reading_with_value word option value =
    if bytes_eq word (codes "trace") && (bytes_eq option (codes "--by") && bytes_eq value (codes "wrap")) then Some TraceWrap
    else None

-- the command of this name with these options, if there is one
abbrev pub reading_by : List ℕ → List (List ℕ) → Option Reading
reading_by word [] = reading_named word
reading_by word (option ∷ []) = reading_with word option
reading_by word (option ∷ value ∷ []) = reading_with_value word option value
reading_by word _ = None

-- the command that reads that these words are, if they are one
abbrev pub reading_of : List (List ℕ) → Option Reading
reading_of [] = None
reading_of (word ∷ options) = if bytes_eq word (codes "draw") then draw_of options else reading_by word options

-- ---- commands that execute

-- `exec` with the window that a word writes
abbrev pub exec_with : List ℕ → Option Execution
exec_with word = option_map (λ window. Exec window) (number_in 1 window_limit word)

-- `exec` with this option
abbrev pub exec_by : List ℕ → Option Execution
exec_by option = if bytes_eq option (codes "--met") then Some ExecMet else option_and_then exec_with (after_text (codes "--window=") option)

-- the command of this name, if there is one. Where no window is asked for, a lane may run up to 32 rounds ahead
abbrev pub execution_named : List ℕ → Option Execution
execution_named word =
    if bytes_eq word (codes "exec") then Some (Exec 32)
    else if bytes_eq word (codes "jobs") then Some Jobs
    else if bytes_eq word (codes "modes") then Some Modes
    else None

-- the command of this name with this option or value, if there is one
abbrev pub execution_with : List ℕ → List ℕ → Option Execution
execution_with word option =
    if bytes_eq word (codes "exec") then exec_by option
    else if bytes_eq word (codes "drill") then option_map (λ number. Drill number) (number_in 0 (2 ^ 64 - 1) option)
    else None

-- the command of this name with this option and its value, if there is one
abbrev pub execution_with_value : List ℕ → List ℕ → List ℕ → Option Execution
execution_with_value word option value =
    if bytes_eq word (codes "exec") && bytes_eq option (codes "--window") then exec_with value
    else None

-- the command that executes that these words are, if they are one
abbrev pub execution_of : List (List ℕ) → Option Execution
execution_of (word ∷ []) = execution_named word
execution_of (word ∷ option ∷ []) = execution_with word option
execution_of (word ∷ option ∷ value ∷ []) = execution_with_value word option value
execution_of _ = None

-- the window of an execution is from 1 to the largest one
abbrev pub HasWindow : Execution → Type 0
HasWindow (Exec window) = (1 ≤ window) × (window ≤ window_limit)
HasWindow _ = Unit {0}

-- ---- all commands

-- whether the words ask for an execution, by the first of them
abbrev pub asks_to_execute : List (List ℕ) → Bool
asks_to_execute [] = false
asks_to_execute (word ∷ words) =
    bytes_eq word (codes "exec") || (bytes_eq word (codes "drill") || (bytes_eq word (codes "jobs") || bytes_eq word (codes "modes")))

-- whether the words ask for many sets, by the first of them
abbrev pub asks_for_batch : List (List ℕ) → Bool
asks_for_batch [] = false
asks_for_batch (word ∷ words) = bytes_eq word (codes "batch")

-- whether the words ask for what takes threads: an execution, or many sets
abbrev pub asks_for_threads : List (List ℕ) → Bool
asks_for_threads words = asks_to_execute words || asks_for_batch words

-- the command that these words are, if they are one; `batch` stands alone
abbrev pub command_of : List (List ℕ) → Option Command
command_of words =
    if asks_to_execute words then option_map Execute (execution_of words)
    else if asks_for_batch words then (if length words == 1 then Some Batch else None)
    else option_map Read (reading_of words)
