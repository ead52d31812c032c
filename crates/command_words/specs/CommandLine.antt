-- Command lines, as `clap` reads them.
use Rattle.std.specs.Prelude.{◌≡◌, ◌⊎◌, ℕ, ◌-◌, ◌^◌, true, List, [], ◌∷◌, ◌++◌, Option, Some, None, codes}
use Rattle.clap.specs.Words.{AddsSubcommand, App, Rule, app_of, new_app, new_rule, with_rule, with_subcommand}
use Rattle.clap.specs.Simple.{on_top}
use Rattle.command_words.specs.declared.asking.Asked.{Asked}
use Rattle.clap.specs.declared.builder.command.Command.{Command as CommandOfClap}
use Rattle.clap.specs.declared.builder.action.ArgAction.TheVariants.{Set, SetTrue}
use Rattle.command_words.specs.declared.command.Command.{Command}
use Rattle.command_words.specs.declared.command.Command.TheVariants.{Read, Batch, Execute}
use Rattle.command_words.specs.declared.command.Reading.TheVariants.{Rate, Tree, Trace, TraceMet, TraceWrap, TraceRepeat}
use Rattle.command_words.specs.declared.command.Reading.TheVariants.{Table, TableRepeat, Check, Follow, Draw}
use Rattle.command_words.specs.declared.command.Execution.TheVariants.{Exec, ExecMet, Drill, Jobs, Modes}
use Rattle.sched_base.specs.Limits.{window_limit}
use Rattle.command_words.specs.Words.{drawn, number_in}

-- the words are `exec` with a window: the usual one where none is written, as a value of its own or behind `=`
abbrev pub SpellsExec : ℕ → List (List ℕ) → Type 0
SpellsExec window words =
    ((window ≡ 32) × (words ≡ codes "exec" ∷ []))
    ⊎ ((value : List ℕ) × (number_in 1 window_limit value ≡ Some window)
    × ((words ≡ codes "exec" ∷ codes "--window" ∷ value ∷ []) ⊎ (words ≡ codes "exec" ∷ (codes "--window=" ++ value) ∷ [])))

-- the words are `drill` and a word that writes this number
abbrev pub SpellsDrill : ℕ → List (List ℕ) → Type 0
SpellsDrill number words = (value : List ℕ) × (number_in 0 (2 ^ 64 - 1) value ≡ Some number) × (words ≡ codes "drill" ∷ value ∷ [])

-- the words are `trace` by wrapping, told by a word of its own or behind `=`
abbrev pub SpellsWrap : List (List ℕ) → Type 0
SpellsWrap words =
    (words ≡ codes "trace" ∷ codes "--by" ∷ codes "wrap" ∷ []) ⊎ (words ≡ codes "trace" ∷ codes "--by=wrap" ∷ [])

-- the words of an option with this value, if it has one: as a word of its own or behind `=`
abbrev pub SpellsOption : List ℕ → Option (List ℕ) → List (List ℕ) → Type 0
SpellsOption name None words = words ≡ []
SpellsOption name (Some value) words = (words ≡ name ∷ value ∷ []) ⊎ (words ≡ (name ++ (codes "=" ++ value)) ∷ [])

-- the words are `draw` with the options that ask for this
abbrev pub SpellsDraw : Asked → List (List ℕ) → Type 0
SpellsDraw asked words =
    (from units : Option (List ℕ)) × (first second : List (List ℕ)) × (drawn from units ≡ Some (Draw asked))
    × SpellsOption (codes "--from") from first × SpellsOption (codes "--units") units second × (words ≡ codes "draw" ∷ (first ++ second))

-- the words of a command
abbrev pub Spells : Command → List (List ℕ) → Type 0
Spells (Read Rate) words = words ≡ codes "rate" ∷ []
Spells (Read Tree) words = words ≡ codes "tree" ∷ []
Spells (Read Trace) words = words ≡ codes "trace" ∷ []
Spells (Read TraceMet) words = words ≡ codes "trace" ∷ codes "--met" ∷ []
Spells (Read TraceWrap) words = SpellsWrap words
Spells (Read TraceRepeat) words = words ≡ codes "trace" ∷ codes "--repeat" ∷ []
Spells (Read Table) words = words ≡ codes "table" ∷ []
Spells (Read TableRepeat) words = words ≡ codes "table" ∷ codes "--repeat" ∷ []
Spells (Read Check) words = words ≡ codes "check" ∷ []
Spells (Read Follow) words = words ≡ codes "follow" ∷ []
Spells (Read (Draw asked)) words = SpellsDraw asked words
Spells Batch words = words ≡ codes "batch" ∷ []
Spells (Execute (Exec window)) words = SpellsExec window words
Spells (Execute ExecMet) words = words ≡ codes "exec" ∷ codes "--met" ∷ []
Spells (Execute (Drill number)) words = SpellsDrill number words
Spells (Execute Jobs) words = words ≡ codes "jobs" ∷ []
Spells (Execute Modes) words = words ≡ codes "modes" ∷ []

-- the option `--met`
abbrev pub met : Rule
met = record (new_rule (codes "met")) { long = Some (codes "met"); action = Some SetTrue }

-- the option `--by`, with a value
abbrev pub by : Rule
by = record (new_rule (codes "by")) { long = Some (codes "by"); action = Some Set }

-- the option `--repeat`
abbrev pub repeat : Rule
repeat = record (new_rule (codes "repeat")) { long = Some (codes "repeat"); action = Some SetTrue }

-- the option `--from`, with a value
abbrev pub from_option : Rule
from_option = record (new_rule (codes "from")) { long = Some (codes "from"); action = Some Set }

-- the option `--units`, with a value
abbrev pub units_option : Rule
units_option = record (new_rule (codes "units")) { long = Some (codes "units"); action = Some Set }

-- the option `--window`, with a value
abbrev pub window : Rule
window = record (new_rule (codes "window")) { long = Some (codes "window"); action = Some Set }

-- the value of `drill`, which stands in its place
abbrev pub number : Rule
number = record (new_rule (codes "number")) { action = Some Set }

-- the program, which wants a command and has no words of help
abbrev pub program : App
program =
    on_top (λ s. record s {
      no_binary_name = true;
      disable_help_flag = true;
      disable_help_subcommand = true;
      subcommand_required = true;
    }) (new_app (codes "furnacelime"))

-- a program with one command more
abbrev pub with_command : App → App → App
with_command app command = with_subcommand app command.top

-- a program that takes this command has it as one command more, with all its options
abbrev pub AddsItself : CommandOfClap → Type 0
AddsItself command = (old new : CommandOfClap) → AddsSubcommand old command new → app_of new ≡ with_command (app_of old) (app_of command)

-- the program with its commands and their options, one after the other
abbrev pub with_rate : App
with_rate = with_command program (new_app (codes "rate"))

-- the program with the command tree besides
abbrev pub with_tree : App
with_tree = with_command with_rate (new_app (codes "tree"))

-- the program with the command trace besides
abbrev pub with_trace : App
with_trace = with_command with_tree (with_rule (with_rule (with_rule (new_app (codes "trace")) met) by) repeat)

-- the program with the command table besides
abbrev pub with_table : App
with_table = with_command with_trace (with_rule (new_app (codes "table")) repeat)

-- the program with the command check besides
abbrev pub with_check : App
with_check = with_command with_table (new_app (codes "check"))

-- the program with the command follow besides
abbrev pub with_follow : App
with_follow = with_command with_check (new_app (codes "follow"))

-- the program with the command draw besides
abbrev pub with_draw : App
with_draw = with_command with_follow (with_rule (with_rule (new_app (codes "draw")) from_option) units_option)

-- the program with the command batch besides
abbrev pub with_batch : App
with_batch = with_command with_draw (new_app (codes "batch"))

-- the program with the command exec besides
abbrev pub with_exec : App
with_exec = with_command with_batch (with_rule (with_rule (new_app (codes "exec")) met) window)

-- the program with the command drill besides
abbrev pub with_drill : App
with_drill = with_command with_exec (with_rule (new_app (codes "drill")) number)

-- the program with the command jobs besides
abbrev pub with_jobs : App
with_jobs = with_command with_drill (new_app (codes "jobs"))

-- the last of them
abbrev pub parser : App
parser = with_command with_jobs (new_app (codes "modes"))
