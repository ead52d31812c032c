use Rattle.std.proofs.Common.{◌≡◌, List, map, string_bytes, ap, ◌∙◌}
use Rattle.std.proofs.lemmas.Result.{IfOk-from_err}
use Rattle.clap.specs.Words.{App, Text, is_simple, subcommand_of, takes, kind_of}
use Rattle.clap.specs.declared.error.kind.ErrorKind.TheVariants.{OutOfMemory}
use Rattle.command_words.proofs.CommandLineLemmas.{simple, taken}
use Rattle.command_words.proofs.SpellingLemmas.{spelled}
use Rattle.command_words.proofs.command_line.read_line.Goals as goal

pub returns-in-Ok : goal.returns-in-Ok
returns-in-Ok c = λ used line.
    let words : List Text = map string_bytes c.args.words.now in
    c.command_in.ensures used words (spelled words used line)
    ((c.in-Ok.ensures.matches (ap is_simple c.in_ok-parser.ensures ∙ simple)).1 ∙ ap (λ (a : App). subcommand_of a words) c.in_ok-parser.ensures)

pub returns-in-Err : goal.returns-in-Err
returns-in-Err c = λ used line.
    let words : List Text = map string_bytes c.args.words.now in
    let full : kind_of c.in-Err.error ≡ OutOfMemory =
    c.in-Err.ensures.passes (ap (λ (a : App). takes a words) c.in_ok-parser.ensures ∙ taken used words (spelled words used line)) in
    IfOk-from_err _ _ (c.unread.ensures full)
