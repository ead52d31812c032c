use Rattle.std.proofs.Common.{rules, tests, ◌≡◌, ◌≢◌, List, ℕ, map, string_bytes, length, arith}
use Rattle.std.proofs.lemmas.List.{length-map}
use Rattle.command_words.proofs.SpellingLemmas.{no_execution}
use Rattle.command_words.proofs.WordLemmas.{said_of_same, execution_of_one, execution_of_two}
use Rattle.command_words.proofs.words.is_execution.Goals as goal

pub returns-else-count-eq3 : goal.returns-else-count-eq3
returns-else-count-eq3 c =
    let words : List (List ℕ) = map string_bytes c.args.words.now in
    let many : length words ≡ length c.args.words.now = length-map c.args.words.now string_bytes in
    let one : length words ≢ 1 = λ e. c.if-count-eq1.false (search (rules, tests)) in
    let two : length words ≢ 2 = λ e. c.if-count-eq2.false (search (rules, tests)) in
    let three : length words ≢ 3 = λ e. c.if-count-eq3.false (search (rules, tests)) in
    (λ bad. absurd (search (rules, tests)), λ e. absurd (no_execution words c.args.execution one two three e))

pub bounds-words-0 : goal.bounds-words-0
bounds-words-0 c = omega arith

pub bounds-words-0-then-count-eq2 : goal.bounds-words-0-then-count-eq2
bounds-words-0-then-count-eq2 c = omega arith

pub bounds-words-1 : goal.bounds-words-1
bounds-words-1 c = omega arith

pub bounds-words-0-then-count-eq3 : goal.bounds-words-0-then-count-eq3
bounds-words-0-then-count-eq3 c = omega arith

pub bounds-words-1-then-count-eq3 : goal.bounds-words-1-then-count-eq3
bounds-words-1-then-count-eq3 c = omega arith

pub bounds-words-2 : goal.bounds-words-2
bounds-words-2 c = omega arith

pub returns-then-count-eq1 : goal.returns-then-count-eq1
returns-then-count-eq1 c =
    said_of_same _ _ _ (execution_of_one string_bytes _ c.args.words.now _ c.if-count-eq1.true c.index-words-0.is c.as_str.ensures.value)
    c.is_execution_named.ensures

pub returns-then-count-eq2 : goal.returns-then-count-eq2
returns-then-count-eq2 c =
    said_of_same _ _ _ (execution_of_two string_bytes _ _ c.args.words.now _ _ c.if-count-eq2.true c.index-words-0-then-count-eq2.is c.index-words-1.is
    c.as_str-then-count-eq2.ensures.value c.as_str-then-count-eq2-2.ensures.value) c.is_execution_with.ensures
