-- The commands and their options, of which `clap`'s parser is made.
use Rattle.std.specs.Prelude.{ℕ, Bool, true, false, List, [], ◌∷◌, codes}
use Rattle.clap.specs.Words.{App, Rule, new_app, with_rule}
use Rattle.clap.specs.declared.builder.action.ArgAction.{ArgAction}
use Rattle.clap.specs.declared.builder.action.ArgAction.TheVariants.{Set, SetTrue}
use Rattle.command_words.specs.declared.parser.Part.{Part}
use Rattle.command_words.specs.declared.parser.Part.TheVariants.{Met, By, Repeat, From, Units, Window, Number}
use Rattle.command_words.specs.declared.parser.Word.{Word}
use Rattle.command_words.specs.declared.parser.Word.TheVariants.{Rate, Tree, Trace, Table, Check, Follow, Draw, Batch, Exec, Drill, Jobs, Modes}
use Rattle.command_words.specs.CommandLine.{met, by, repeat, from_option, units_option, window, number, with_command}

-- the name of an option, without its hyphens, or of a value
abbrev pub name_of : Part → List ℕ
name_of Met = codes "met"
name_of By = codes "by"
name_of Repeat = codes "repeat"
name_of From = codes "from"
name_of Units = codes "units"
name_of Window = codes "window"
name_of Number = codes "number"

-- `--met` and `--repeat` alone take no value
abbrev pub action_of : Part → ArgAction
action_of Met = SetTrue
action_of By = Set
action_of Repeat = SetTrue
action_of From = Set
action_of Units = Set
action_of Window = Set
action_of Number = Set

-- the number of a drill has no name in the line
abbrev pub stands_in_place : Part → Bool
stands_in_place Met = false
stands_in_place By = false
stands_in_place Repeat = false
stands_in_place From = false
stands_in_place Units = false
stands_in_place Window = false
stands_in_place Number = true

-- what `clap` makes of an option
abbrev pub rule_of_part : Part → Rule
rule_of_part Met = met
rule_of_part By = by
rule_of_part Repeat = repeat
rule_of_part From = from_option
rule_of_part Units = units_option
rule_of_part Window = window
rule_of_part Number = number

-- the words of the commands, in the order in which the program has them
abbrev pub words_in_order : List Word
words_in_order = Rate ∷ Tree ∷ Trace ∷ Table ∷ Check ∷ Follow ∷ Draw ∷ Batch ∷ Exec ∷ Drill ∷ Jobs ∷ Modes ∷ []

-- a word as it is written
abbrev pub text_of : Word → List ℕ
text_of Rate = codes "rate"
text_of Tree = codes "tree"
text_of Trace = codes "trace"
text_of Table = codes "table"
text_of Check = codes "check"
text_of Follow = codes "follow"
text_of Draw = codes "draw"
text_of Batch = codes "batch"
text_of Exec = codes "exec"
text_of Drill = codes "drill"
text_of Jobs = codes "jobs"
text_of Modes = codes "modes"

-- the options of a command
abbrev pub parts_of : Word → List Part
parts_of Trace = Met ∷ By ∷ Repeat ∷ []
parts_of Table = Repeat ∷ []
parts_of Draw = From ∷ Units ∷ []
parts_of Exec = Met ∷ Window ∷ []
parts_of Drill = Number ∷ []
parts_of _ = []

-- a command with these options more
abbrev pub with_parts : App → List Part → App
with_parts app [] = app
with_parts app (part ∷ parts) = with_parts (with_rule app (rule_of_part part)) parts

-- the command of a word, with its options
abbrev pub app_of_word : Word → App
app_of_word word = with_parts (new_app (text_of word)) (parts_of word)

-- a program with the commands of these words more
abbrev pub with_words : App → List Word → App
with_words app [] = app
with_words app (word ∷ words) = with_words (with_command app (app_of_word word)) words
