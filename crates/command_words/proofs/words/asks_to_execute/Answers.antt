use Rattle.std.proofs.Common.{[], ◌∷◌, map, string_bytes, sym, ap, ◌∙◌}
use Rattle.std.specs.Option.{option_copied}
use Rattle.command_words.specs.Words.{asks_to_execute}
use Rattle.command_words.proofs.WordLemmas.{execution_asked, no_first}
use Rattle.command_words.proofs.words.asks_to_execute.Goals as goal

pub returns-in-Some : goal.returns-in-Some
returns-in-Some c =
    c.names_execution.ensures ∙ ap (λ t. asks_to_execute (t ∷ [])) c.as_str.ensures.value
    ∙ execution_asked string_bytes c.args.words.now c.in-Some.word.now (sym (ap option_copied c.in-Some.is) ∙ c.first.ensures.value)

pub returns-in-None : goal.returns-in-None
returns-in-None c = ap (λ ws. asks_to_execute (map string_bytes ws)) (sym (no_first c.args.words.now (sym (ap option_copied c.in-None.is)
    ∙ c.first.ensures.value)))
