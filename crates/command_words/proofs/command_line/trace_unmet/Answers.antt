use Rattle.std.proofs.Common.{◌≡◌, ℕ, true, false, List, codes, Option, Some, None, option_map, ◌∙◌, sym, ap}
use Rattle.clap.specs.Words.{found_of}
use Rattle.clap.proofs.WalkLemmas.{one_text-rows, first_value-rows}
use Rattle.command_words.proofs.command_line.trace_unmet.Goals as goal

pub returns-then-get_flag-clause-plain : goal.returns-then-get_flag-clause-plain
returns-then-get_flag-clause-plain c = λ unmet none. absurd
    (let bad : true ≡ false = sym c.if-get_flag.true ∙ c.get_flag.ensures.other (one_text-rows (found_of c.args.options.now) (codes "repeat") ∙ unmet) in cc)

pub returns-then-get_flag-clause-wrap : goal.returns-then-get_flag-clause-wrap
returns-then-get_flag-clause-wrap c = λ unmet given. absurd
    (let bad : true ≡ false = sym c.if-get_flag.true ∙ c.get_flag.ensures.other (one_text-rows (found_of c.args.options.now) (codes "repeat") ∙ unmet) in cc)

pub returns-in-Some-clause-repeat : goal.returns-in-Some-clause-repeat
returns-in-Some-clause-repeat c = λ met. absurd
    (let bad : true ≡ false = sym (c.get_flag.ensures.value (one_text-rows (found_of c.args.options.now) (codes "repeat") ∙ met)) ∙ c.if-get_flag.false in cc)

pub returns-in-Some-clause-plain : goal.returns-in-Some-clause-plain
returns-in-Some-clause-plain c = λ unmet none.
    absurd (let bad : ◌≡◌ {A = Option (List ℕ)} (Some c.in-Some.value.now) None = sym (ap (option_map (λ s. s.now)) c.in-Some.is) ∙ c.get_str.ensures
    ∙ first_value-rows (found_of c.args.options.now) (codes "by") ∙ none in cc)

pub returns-in-Some-clause-wrap : goal.returns-in-Some-clause-wrap
returns-in-Some-clause-wrap c = λ unmet given.
    let told : ◌≡◌ {A = Option (List ℕ)} (Some c.in-Some.value.now) (Some (codes "wrap")) =
    sym (ap (option_map (λ s. s.now)) c.in-Some.is) ∙ c.get_str.ensures ∙ first_value-rows (found_of c.args.options.now) (codes "by") ∙ given in
    c.by_with.ensures cc

pub returns-in-None-clause-repeat : goal.returns-in-None-clause-repeat
returns-in-None-clause-repeat c = λ met. absurd
    (let bad : true ≡ false = sym (c.get_flag.ensures.value (one_text-rows (found_of c.args.options.now) (codes "repeat") ∙ met)) ∙ c.if-get_flag.false in cc)

pub returns-in-None-clause-wrap : goal.returns-in-None-clause-wrap
returns-in-None-clause-wrap c = λ unmet given.
    absurd (let bad : ◌≡◌ {A = Option (List ℕ)} None (Some (codes "wrap")) = sym (ap (option_map (λ s. s.now)) c.in-None.is) ∙ c.get_str.ensures
    ∙ first_value-rows (found_of c.args.options.now) (codes "by") ∙ given in cc)
