use Rattle.std.proofs.Common.{◌≡◌, ◌∙◌, sym, ap, subst, Option, Some, None, false, map, string_bytes, IsTrue, rules, tests}
use Rattle.command_words.specs.declared.command.Command.{Command}
use Rattle.command_words.specs.declared.command.Command.TheVariants.{Read, Batch, Execute}
use Rattle.command_words.proofs.WordLemmas.{some_is}
use Rattle.command_words.proofs.SpellingLemmas.{no_line, reading_spelled_by, only_reading, shows_some}
use Rattle.command_words.proofs.words.reading_of.Goals as goal

pub returns-in-Some-Read-2-clause-line : goal.returns-in-Some-Read-2-clause-line
returns-in-Some-Read-2-clause-line c = no_line (map string_bytes c.args.words.now) (λ used line.
    let read : Some (Read c.in-Some-Read.reading) ≡ Some used =
    ap Some (sym c.in-Some-Read.field-0-is) ∙ sym c.in-Some-Read.is ∙ c.in_ok-read_line.ensures used line in
    let same = some_is (Read c.in-Some-Read.reading) used read in
    let spelled =
    reading_spelled_by (map string_bytes c.args.words.now) c.in-Some-Read.reading c.requires.still (line ∙ ap Some (sym same)) in
    let yes : IsTrue false = subst IsTrue c.if-is_reading.false (c.is_reading.ensures.1 spelled) in
    search (rules, tests))

pub returns-in-Some-Batch-clause-line : goal.returns-in-Some-Batch-clause-line
returns-in-Some-Batch-clause-line c = no_line (map string_bytes c.args.words.now) (λ used line.
    let read : Some Batch ≡ Some used = ap Some (sym c.in-Some-Batch.field-0-is) ∙ sym c.in-Some-Batch.is ∙ c.in_ok-read_line.ensures used line in
    let (x, is) = only_reading (map string_bytes c.args.words.now) used c.requires.still line in
    let bad : Read x ≡ Batch = is ∙ sym (some_is Batch used read) in cc)

pub returns-in-Some-Execute-clause-line : goal.returns-in-Some-Execute-clause-line
returns-in-Some-Execute-clause-line c = no_line (map string_bytes c.args.words.now) (λ used line.
    let read : Some (Execute c.in-Some-Execute.field-0-0) ≡ Some used =
    ap Some (sym c.in-Some-Execute.field-0-is) ∙ sym c.in-Some-Execute.is ∙ c.in_ok-read_line.ensures used line in
    let (x, is) = only_reading (map string_bytes c.args.words.now) used c.requires.still line in
    let bad : Read x ≡ Execute c.in-Some-Execute.field-0-0 = is ∙ sym (some_is (Execute c.in-Some-Execute.field-0-0) used read) in cc)

pub returns-in-None-clause-line : goal.returns-in-None-clause-line
returns-in-None-clause-line c = no_line (map string_bytes c.args.words.now) (λ used line.
    let bad : ◌≡◌ {A = Option Command} None (Some used) = sym c.in-None.is ∙ c.in_ok-read_line.ensures used line in cc)

pub returns-in-Some-Read-clause-some : goal.returns-in-Some-Read-clause-some
returns-in-Some-Read-clause-some c =
    shows_some (map string_bytes c.args.words.now) c.in-Some-Read.reading
    (c.is_reading.ensures.0 (subst IsTrue (sym c.if-is_reading.true) (search rules)))
