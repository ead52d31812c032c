use Rattle.std.proofs.Common.{rules, tests, ◌≡◌, ◌≢◌, List, ℕ, map, string_bytes, length, arith}
use Rattle.std.proofs.lemmas.List.{length-map}
use Rattle.command_words.proofs.SpellingLemmas.{no_reading}
use Rattle.command_words.proofs.WordLemmas.{said_of_same, reading_by_none, reading_by_one, reading_by_two}
use Rattle.command_words.proofs.words.is_reading_by.Goals as goal

pub returns-else-count-eq2 : goal.returns-else-count-eq2
returns-else-count-eq2 c =
    let words : List (List ℕ) = map string_bytes c.args.options.now in
    let many : length words ≡ length c.args.options.now = length-map c.args.options.now string_bytes in
    let none : length words ≢ 0 = λ e. c.if-count-eq0.false (search (rules, tests)) in
    let one : length words ≢ 1 = λ e. c.if-count-eq1.false (search (rules, tests)) in
    let two : length words ≢ 2 = λ e. c.if-count-eq2.false (search (rules, tests)) in
    (λ bad. absurd (search (rules, tests)), λ e. absurd (no_reading c.args.word.now words c.args.reading none one two e))

pub bounds-options-0 : goal.bounds-options-0
bounds-options-0 c = omega arith

pub bounds-options-0-then-count-eq2 : goal.bounds-options-0-then-count-eq2
bounds-options-0-then-count-eq2 c = omega arith

pub bounds-options-1 : goal.bounds-options-1
bounds-options-1 c = omega arith

pub returns-then-count-eq0 : goal.returns-then-count-eq0
returns-then-count-eq0 c = said_of_same _ _ _ (reading_by_none string_bytes c.args.word.now c.args.options.now c.if-count-eq0.true) c.is_reading_named.ensures

pub returns-then-count-eq1 : goal.returns-then-count-eq1
returns-then-count-eq1 c =
    said_of_same _ _ _ (reading_by_one string_bytes c.args.word.now _ c.args.options.now _ c.if-count-eq1.true c.index-options-0.is c.as_str.ensures.value)
    c.is_reading_with.ensures

pub returns-then-count-eq2 : goal.returns-then-count-eq2
returns-then-count-eq2 c =
    said_of_same _ _ _ (reading_by_two string_bytes c.args.word.now _ _ c.args.options.now _ _ c.if-count-eq2.true c.index-options-0-then-count-eq2.is
    c.index-options-1.is
    c.as_str-then-count-eq2.ensures.value c.as_str-then-count-eq2-2.ensures.value) c.is_reading_with_value.ensures
