use Rattle.std.proofs.Common.{map, string_bytes, sym, ap, ◌∙◌, codes}
use Rattle.std.specs.Option.{option_copied}
use Rattle.std.specs.Str.{bytes_eq}
use Rattle.command_words.specs.Words.{asks_for_batch}
use Rattle.command_words.proofs.WordLemmas.{batch_asked, no_first}
use Rattle.command_words.proofs.words.asks_for_batch.Goals as goal

pub returns-in-Some : goal.returns-in-Some
returns-in-Some c =
    c.eq.ensures ∙ ap (λ t. bytes_eq t (codes "batch")) c.as_str.ensures.value
    ∙ batch_asked string_bytes c.args.words.now c.in-Some.word.now (sym (ap option_copied c.in-Some.is) ∙ c.first.ensures.value)

pub returns-in-None : goal.returns-in-None
returns-in-None c = ap (λ ws. asks_for_batch (map string_bytes ws)) (sym (no_first c.args.words.now (sym (ap option_copied c.in-None.is)
    ∙ c.first.ensures.value)))
