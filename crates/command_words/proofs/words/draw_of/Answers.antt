use Rattle.std.proofs.Common.{◌≡◌, ◌≢◌, ◌∙◌, ℕ, List, Option, length, map, option_map, string_bytes, rules, tests}
use Rattle.std.proofs.lemmas.List.{length-map}
use Rattle.command_words.proofs.DrawLemmas.{drawn_by, at_end_none, at_end_some}
use Rattle.command_words.proofs.words.draw_of.Goals as goal

pub returns-then-is_empty : goal.returns-then-is_empty
returns-then-is_empty c =
    let from : Option (List ℕ) = option_map (λ value. value.now) c.front.result.0 in
    let units : Option (List ℕ) = option_map (λ value. value.now) c.front-2.result.0 in
    let rest : List (List ℕ) = map string_bytes c.front-2.result.1.now in
    let many : length rest ≡ length c.front-2.result.1.now = length-map c.front-2.result.1.now string_bytes in
    let none : length rest ≡ 0 = search (rules, tests) in
    c.drawn.ensures ∙ (at_end_none from units rest none
    ∙ drawn_by (map string_bytes c.args.words.now) (map string_bytes c.front.result.1.now) rest from units c.front.ensures.value c.front.ensures.rest
    c.front-2.ensures.value c.front-2.ensures.rest)

pub returns-else-is_empty : goal.returns-else-is_empty
returns-else-is_empty c =
    let from : Option (List ℕ) = option_map (λ value. value.now) c.front.result.0 in
    let units : Option (List ℕ) = option_map (λ value. value.now) c.front-2.result.0 in
    let rest : List (List ℕ) = map string_bytes c.front-2.result.1.now in
    let many : length rest ≡ length c.front-2.result.1.now = length-map c.front-2.result.1.now string_bytes in
    let some : length rest ≢ 0 = λ e. absurd (search (rules, tests)) in
    at_end_some from units rest some
    ∙ drawn_by (map string_bytes c.args.words.now) (map string_bytes c.front.result.1.now) rest from units c.front.ensures.value c.front.ensures.rest
    c.front-2.ensures.value c.front-2.ensures.rest
