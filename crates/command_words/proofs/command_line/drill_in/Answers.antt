use Rattle.std.proofs.Common.{◌≡◌, ℕ, ◌-◌, ◌^◌, List, codes, Option, Some, None, option_map, ◌∙◌, sym, ap}
use Rattle.clap.specs.Words.{found_of}
use Rattle.clap.proofs.WalkLemmas.{first_value-rows}
use Rattle.command_words.specs.declared.command.Execution.TheVariants.{Drill}
use Rattle.command_words.specs.Words.{number_in}
use Rattle.command_words.proofs.command_line.drill_in.Goals as goal

pub returns-in-Some : goal.returns-in-Some
returns-in-Some c = λ value given.
    let told : ◌≡◌ {A = Option (List ℕ)} (Some c.in-Some.value.now) (Some value) =
    sym (ap (option_map (λ s. s.now)) c.in-Some.is) ∙ c.get_str.ensures ∙ first_value-rows (found_of c.args.options.now) (codes "number") ∙ given in
    let same : c.in-Some.value.now ≡ value = cc in
    c.drill_with.ensures ∙ ap (λ word. option_map (λ number. Drill number) (number_in 0 (2 ^ 64 - 1) word)) (c.as_bytes.ensures.value ∙ same)

pub returns-in-None : goal.returns-in-None
returns-in-None c = λ value given.
    absurd (let bad : ◌≡◌ {A = Option (List ℕ)} None (Some value) = sym (ap (option_map (λ s. s.now)) c.in-None.is) ∙ c.get_str.ensures
    ∙ first_value-rows (found_of c.args.options.now) (codes "number") ∙ given in cc)
