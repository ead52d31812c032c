-- The parser, option by option and command by command.
use Rattle.std.proofs.Common.{◌≡◌, ℕ, ◌+◌, ◌<◌, ◌||◌, true, false, List, [], ◌∷◌, ◌++◌, Some, length, get_or, take, refl, ap, ap₂, sym, ◌∙◌}
use Rattle.std.proofs.lemmas.List.{take_more}
use Rattle.clap.specs.Words.{App, AddsArg, Text, app_of, new_app, new_rule, rule_of, with_rule}
use Rattle.clap.specs.declared.builder.arg.Arg.{Arg}
use Rattle.clap.specs.declared.builder.command.Command.{Command as CommandOfClap}
use Rattle.clap.specs.declared.builder.command.Command.TheViews.{out-Command}
use Rattle.command_words.specs.declared.parser.Part.{Part}
use Rattle.command_words.specs.declared.parser.Part.TheVariants.{Met, By, Repeat, From, Units, Window, Number}
use Rattle.command_words.specs.declared.parser.Word.{Word}
use Rattle.command_words.specs.CommandLine.{program, parser, with_command}
use Rattle.command_words.specs.Parts.{name_of, action_of, stands_in_place, rule_of_part, words_in_order, app_of_word, with_parts, with_words}

-- ---- options

pub option_rule : (p : Part) → stands_in_place p ≡ false → record (new_rule (name_of p)) { action = Some (action_of p); long = Some (name_of p) }
    ≡ rule_of_part p
option_rule Met e = refl
option_rule By e = refl
option_rule Repeat e = refl
option_rule From e = refl
option_rule Units e = refl
option_rule Window e = refl
option_rule Number e = absurd cc

pub value_rule : (p : Part) → stands_in_place p ≡ true → record (new_rule (name_of p)) { action = Some (action_of p) } ≡ rule_of_part p
value_rule Met e = absurd cc
value_rule By e = absurd cc
value_rule Repeat e = absurd cc
value_rule From e = absurd cc
value_rule Units e = absurd cc
value_rule Window e = absurd cc
value_rule Number e = refl

-- ---- one more

parts_joined : (app : App) (ps : List Part) (p : Part) → with_parts app (ps ++ p ∷ []) ≡ with_rule (with_parts app ps) (rule_of_part p)
parts_joined app [] p = refl
parts_joined app (q ∷ ps) p = parts_joined (with_rule app (rule_of_part q)) ps p

words_joined : (app : App) (ws : List Word) (w : Word) → with_words app (ws ++ w ∷ []) ≡ with_command (with_words app ws) (app_of_word w)
words_joined app [] w = refl
words_joined app (v ∷ ws) w = words_joined (with_command app (app_of_word v)) ws w

pub parts_more : (app : App) (ps : List Part) (i : ℕ) (d : Part) → i < length ps
    → with_parts app (take (i + 1) ps) ≡ with_rule (with_parts app (take i ps)) (rule_of_part (get_or ps i d))
parts_more app ps i d low = ap (with_parts app) (take_more ps i d low) ∙ parts_joined app (take i ps) (get_or ps i d)

pub words_more : (app : App) (ws : List Word) (i : ℕ) (d : Word) → i < length ws
    → with_words app (take (i + 1) ws) ≡ with_command (with_words app (take i ws)) (app_of_word (get_or ws i d))
words_more app ws i d low = ap (with_words app) (take_more ws i d low) ∙ words_joined app (take i ws) (get_or ws i d)

-- a command of this text has these options
pub record HasParts (command : CommandOfClap) (text : Text) (parts : List Part) : Type 0 where
  pub app : app_of command ≡ with_parts (new_app text) parts
  pub local : (out-Command command).has_globals ≡ false

pub one_part_more : (old : CommandOfClap) (a : Arg) (new : CommandOfClap) (text : Text) (ps : List Part) (i : ℕ) (d : Part) → i < length ps
    → rule_of a ≡ rule_of_part (get_or ps i d) → a.global ≡ false → HasParts old text (take i ps) → AddsArg old a new → HasParts new text (take (i + 1) ps)
one_part_more old a new text ps i d low rule local has adds = record {
  app = adds.shape local ∙ ap₂ with_rule has.app rule ∙ sym (parts_more (new_app text) ps i d low);
  local = adds.globals ∙ ap₂ (λ x y. x || y) has.local local;
}

-- ---- all

pub all_words : with_words program words_in_order ≡ parser
all_words = refl
