use Rattle.std.proofs.Common.{◌≡◌, ◌∙◌, sym, ap, Option, Some, None, List, ℕ, length, map, string_bytes, rules, tests}
use Rattle.std.proofs.lemmas.List.{length-map}
use Rattle.command_words.specs.declared.command.Command.{Command}
use Rattle.command_words.specs.declared.command.Command.TheVariants.{Read, Batch, Execute}
use Rattle.command_words.proofs.WordLemmas.{some_is}
use Rattle.command_words.proofs.SpellingLemmas.{no_line, batch_line, only_batching}
use Rattle.command_words.proofs.words.is_batch.Goals as goal

pub returns-in-Some-Batch-clause-line : goal.returns-in-Some-Batch-clause-line
returns-in-Some-Batch-clause-line c = λ is.
    let words : List (List ℕ) = map string_bytes c.args.words.now in
    let many : length words ≡ length c.args.words.now = length-map c.args.words.now string_bytes in
    let one : length words ≡ 1 = search (rules, tests) in
    batch_line words c.requires.batch one

pub returns-in-Some-Batch-clause-none : goal.returns-in-Some-Batch-clause-none
returns-in-Some-Batch-clause-none c = λ no.
    let words : List (List ℕ) = map string_bytes c.args.words.now in
    let many : length words ≡ length c.args.words.now = length-map c.args.words.now string_bytes in
    sym (no_line words (λ used line.
    let (is, one) = only_batching words used c.requires.batch line in
    absurd (search (rules, tests))))

pub returns-in-Some-Read-clause-none : goal.returns-in-Some-Read-clause-none
returns-in-Some-Read-clause-none c = λ no. sym (no_line (map string_bytes c.args.words.now) (λ used line.
    let read : Some (Read c.in-Some-Read.field-0-0) ≡ Some used =
    ap Some (sym c.in-Some-Read.field-0-is) ∙ sym c.in-Some-Read.is ∙ c.in_ok-read_line.ensures used line in
    let (is, one) = only_batching (map string_bytes c.args.words.now) used c.requires.batch line in
    let bad : Read c.in-Some-Read.field-0-0 ≡ Batch = some_is (Read c.in-Some-Read.field-0-0) used read ∙ is in cc))

pub returns-in-Some-Execute-clause-none : goal.returns-in-Some-Execute-clause-none
returns-in-Some-Execute-clause-none c = λ no. sym (no_line (map string_bytes c.args.words.now) (λ used line.
    let read : Some (Execute c.in-Some-Execute.field-0-0) ≡ Some used =
    ap Some (sym c.in-Some-Execute.field-0-is) ∙ sym c.in-Some-Execute.is ∙ c.in_ok-read_line.ensures used line in
    let (is, one) = only_batching (map string_bytes c.args.words.now) used c.requires.batch line in
    let bad : Execute c.in-Some-Execute.field-0-0 ≡ Batch = some_is (Execute c.in-Some-Execute.field-0-0) used read ∙ is in cc))

pub returns-in-None-clause-none : goal.returns-in-None-clause-none
returns-in-None-clause-none c = λ no. sym (no_line (map string_bytes c.args.words.now) (λ used line.
    let bad : ◌≡◌ {A = Option Command} None (Some used) = sym c.in-None.is ∙ c.in_ok-read_line.ensures used line in cc))
