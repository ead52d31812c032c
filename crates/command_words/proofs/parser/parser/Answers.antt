use Rattle.std.proofs.Common.{ap, ap₂, ◌∙◌, sym}
use Rattle.std.proofs.lemmas.List.{take_all}
use Rattle.command_words.specs.declared.parser.Word.TheVariants.{Rate}
use Rattle.command_words.specs.CommandLine.{program, with_command}
use Rattle.command_words.specs.Parts.{with_words}
use Rattle.command_words.proofs.ParserLemmas.{words_more, all_words}
use Rattle.command_words.proofs.parser.parser.Goals as goal

pub loop-word-init : goal.loop-word-init
loop-word-init c = c.program-program.ensures

pub loop-word-preserved : goal.loop-word-preserved
loop-word-preserved c =
    c.in_ok-command.ensures.itself _ _ c.in_ok-program.ensures ∙ ap₂ with_command c.loop-word.invariant c.in_ok-command.ensures.app
    ∙ sym (words_more program c.words_in_order-word-items.result.now c.loop-word.word-index Rate c.loop-word-test.true)

pub returns : goal.returns
returns c =
    c.loop-word.invariant
    ∙ ap (with_words program) (take_all c.loop-word.word-index c.words_in_order-word-items.result.now c.loop-word-test.false
    ∙ c.words_in_order-word-items.ensures)
    ∙ all_words
