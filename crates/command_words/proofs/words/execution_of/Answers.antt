use Rattle.std.proofs.Common.{◌≡◌, ◌∙◌, sym, ap, subst, Option, Some, None, false, map, string_bytes, IsTrue, rules, tests}
use Rattle.command_words.specs.declared.command.Command.{Command}
use Rattle.command_words.specs.declared.command.Command.TheVariants.{Read, Batch, Execute}
use Rattle.command_words.proofs.WordLemmas.{some_is}
use Rattle.command_words.proofs.SpellingLemmas.{no_line, execution_spelled_by, only_executing, has_window}
use Rattle.command_words.proofs.words.execution_of.Goals as goal

pub returns-in-Some-Execute-clause-window : goal.returns-in-Some-Execute-clause-window
returns-in-Some-Execute-clause-window c =
    has_window (map string_bytes c.args.words.now) c.in-Some-Execute.execution
    (c.is_execution.ensures.0 (subst IsTrue (sym c.if-is_execution.true) (search rules)))

pub returns-in-Some-Execute-2-clause-line : goal.returns-in-Some-Execute-2-clause-line
returns-in-Some-Execute-2-clause-line c = no_line (map string_bytes c.args.words.now) (λ used line.
    let read : Some (Execute c.in-Some-Execute.execution) ≡ Some used =
    ap Some (sym c.in-Some-Execute.field-0-is) ∙ sym c.in-Some-Execute.is ∙ c.in_ok-execution.ensures used line in
    let same = some_is (Execute c.in-Some-Execute.execution) used read in
    let spelled =
    execution_spelled_by (map string_bytes c.args.words.now) c.in-Some-Execute.execution c.requires.executes (line ∙ ap Some (sym same)) in
    let yes : IsTrue false = subst IsTrue c.if-is_execution.false (c.is_execution.ensures.1 spelled) in
    search (rules, tests))

pub returns-in-Some-Read-clause-line : goal.returns-in-Some-Read-clause-line
returns-in-Some-Read-clause-line c = no_line (map string_bytes c.args.words.now) (λ used line.
    let read : Some (Read c.in-Some-Read.field-0-0) ≡ Some used =
    ap Some (sym c.in-Some-Read.field-0-is) ∙ sym c.in-Some-Read.is ∙ c.in_ok-execution.ensures used line in
    let (x, is) = only_executing (map string_bytes c.args.words.now) used c.requires.executes line in
    let bad : Execute x ≡ Read c.in-Some-Read.field-0-0 = is ∙ sym (some_is (Read c.in-Some-Read.field-0-0) used read) in cc)

pub returns-in-Some-Batch-clause-line : goal.returns-in-Some-Batch-clause-line
returns-in-Some-Batch-clause-line c = no_line (map string_bytes c.args.words.now) (λ used line.
    let read : Some Batch ≡ Some used = ap Some (sym c.in-Some-Batch.field-0-is) ∙ sym c.in-Some-Batch.is ∙ c.in_ok-execution.ensures used line in
    let (x, is) = only_executing (map string_bytes c.args.words.now) used c.requires.executes line in
    let bad : Execute x ≡ Batch = is ∙ sym (some_is Batch used read) in cc)

pub returns-in-None-clause-line : goal.returns-in-None-clause-line
returns-in-None-clause-line c = no_line (map string_bytes c.args.words.now) (λ used line.
    let bad : ◌≡◌ {A = Option Command} None (Some used) = sym c.in-None.is ∙ c.in_ok-execution.ensures used line in cc)
