use Rattle.std.proofs.Common.{◌≡◌, ℕ, true, false, List, codes, Option, Some, None, option_map, ◌∙◌, sym, ap}
use Rattle.clap.specs.Words.{found_of}
use Rattle.clap.proofs.WalkLemmas.{one_text-rows, first_value-rows}
use Rattle.command_words.specs.Words.{exec_with}
use Rattle.command_words.proofs.command_line.exec_in.Goals as goal

pub returns-then-get_flag-clause-usual : goal.returns-then-get_flag-clause-usual
returns-then-get_flag-clause-usual c = λ unmet none. absurd
    (let bad : true ≡ false = sym c.if-get_flag.true ∙ c.get_flag.ensures.other (one_text-rows (found_of c.args.options.now) (codes "met") ∙ unmet) in cc)

pub returns-then-get_flag-clause-window : goal.returns-then-get_flag-clause-window
returns-then-get_flag-clause-window c = λ value unmet given. absurd
    (let bad : true ≡ false = sym c.if-get_flag.true ∙ c.get_flag.ensures.other (one_text-rows (found_of c.args.options.now) (codes "met") ∙ unmet) in cc)

pub returns-in-Some-clause-met : goal.returns-in-Some-clause-met
returns-in-Some-clause-met c = λ met. absurd
    (let bad : true ≡ false = sym (c.get_flag.ensures.value (one_text-rows (found_of c.args.options.now) (codes "met") ∙ met)) ∙ c.if-get_flag.false in cc)

pub returns-in-Some-clause-usual : goal.returns-in-Some-clause-usual
returns-in-Some-clause-usual c = λ unmet none.
    absurd (let bad : ◌≡◌ {A = Option (List ℕ)} (Some c.in-Some.value.now) None = sym (ap (option_map (λ s. s.now)) c.in-Some.is) ∙ c.get_str.ensures
    ∙ first_value-rows (found_of c.args.options.now) (codes "window") ∙ none in cc)

pub returns-in-Some-clause-window : goal.returns-in-Some-clause-window
returns-in-Some-clause-window c = λ value unmet given.
    let told : ◌≡◌ {A = Option (List ℕ)} (Some c.in-Some.value.now) (Some value) =
    sym (ap (option_map (λ s. s.now)) c.in-Some.is) ∙ c.get_str.ensures ∙ first_value-rows (found_of c.args.options.now) (codes "window") ∙ given in
    let same : c.in-Some.value.now ≡ value = cc in
    c.exec_with.ensures ∙ ap exec_with (c.as_bytes.ensures.value ∙ same)

pub returns-in-None-clause-met : goal.returns-in-None-clause-met
returns-in-None-clause-met c = λ met. absurd
    (let bad : true ≡ false = sym (c.get_flag.ensures.value (one_text-rows (found_of c.args.options.now) (codes "met") ∙ met)) ∙ c.if-get_flag.false in cc)

pub returns-in-None-clause-window : goal.returns-in-None-clause-window
returns-in-None-clause-window c = λ value unmet given.
    absurd (let bad : ◌≡◌ {A = Option (List ℕ)} None (Some value) = sym (ap (option_map (λ s. s.now)) c.in-None.is) ∙ c.get_str.ensures
    ∙ first_value-rows (found_of c.args.options.now) (codes "window") ∙ given in cc)
