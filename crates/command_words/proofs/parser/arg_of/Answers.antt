use Rattle.std.proofs.Common.{◌≡◌, ℕ, List, Some, ap, ap₂, sym, ◌∙◌}
use Rattle.clap.specs.Words.{Rule, new_rule, rule_of}
use Rattle.clap.specs.declared.builder.action.ArgAction.{ArgAction}
use Rattle.clap.specs.declared.builder.arg.Arg.{Arg}
use Rattle.command_words.specs.Parts.{name_of, action_of}
use Rattle.command_words.proofs.ParserLemmas.{option_rule, value_rule}
use Rattle.command_words.proofs.parser.arg_of.Goals as goal

pub returns-then-stands_in_place-clause-rule : goal.returns-then-stands_in_place-clause-rule
returns-then-stands_in_place-clause-rule c =
    let p = c.args.part in
    let acting : rule_of c.action-arg.result ≡ record (new_rule (name_of p)) { action = Some (action_of p) } =
    ap rule_of c.action-arg.ensures
    ∙ ap₂ (λ (r : Rule) (a : ArgAction). record r { action = Some a }) (c.new.ensures.rule ∙ ap new_rule c.name_of-name.ensures) c.action_of.ensures in
    acting ∙ value_rule p (sym c.stands_in_place.ensures ∙ c.if-stands_in_place.true)

pub returns-then-stands_in_place-clause-local : goal.returns-then-stands_in_place-clause-local
returns-then-stands_in_place-clause-local c = ap (λ (a : Arg). a.global) c.action-arg.ensures ∙ c.new.ensures.optional.1

pub returns-else-stands_in_place-clause-rule : goal.returns-else-stands_in_place-clause-rule
returns-else-stands_in_place-clause-rule c =
    let p = c.args.part in
    let acting : rule_of c.action-arg.result ≡ record (new_rule (name_of p)) { action = Some (action_of p) } =
    ap rule_of c.action-arg.ensures
    ∙ ap₂ (λ (r : Rule) (a : ArgAction). record r { action = Some a }) (c.new.ensures.rule ∙ ap new_rule c.name_of-name.ensures) c.action_of.ensures in
    ap rule_of c.long.ensures ∙ ap₂ (λ (r : Rule) (n : List ℕ). record r { long = Some n }) acting c.name_of-name.ensures
    ∙ option_rule p (sym c.stands_in_place.ensures ∙ c.if-stands_in_place.false)

pub returns-else-stands_in_place-clause-local : goal.returns-else-stands_in_place-clause-local
returns-else-stands_in_place-clause-local c =
    ap (λ (a : Arg). a.global) c.long.ensures ∙ ap (λ (a : Arg). a.global) c.action-arg.ensures ∙ c.new.ensures.optional.1
