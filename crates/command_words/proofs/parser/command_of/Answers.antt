use Rattle.std.proofs.Common.{ap, ◌∙◌}
use Rattle.std.proofs.lemmas.List.{take_all}
use Rattle.clap.specs.Words.{new_app}
use Rattle.command_words.specs.declared.parser.Part.TheVariants.{Met}
use Rattle.command_words.specs.Parts.{text_of, with_parts}
use Rattle.command_words.proofs.ParserLemmas.{one_part_more}
use Rattle.command_words.proofs.parser.command_of.Goals as goal

pub loop-part-init : goal.loop-part-init
loop-part-init c = record { app = c.new-command.ensures.app ∙ ap new_app c.text_of.ensures; local = c.new-command.ensures.local }

pub loop-part-preserved : goal.loop-part-preserved
loop-part-preserved c =
    one_part_more c.loop-part.command c.arg_of.result c.in_ok-command.command (text_of c.args.word) c.parts_of-part-items.result.now c.loop-part.part-index Met
    c.loop-part-test.true c.arg_of.ensures.rule c.arg_of.ensures.local c.loop-part.invariant c.in_ok-command.ensures

pub returns-clause-app : goal.returns-clause-app
returns-clause-app c =
    c.loop-part.invariant.app
    ∙ ap (with_parts (new_app (text_of c.args.word))) (take_all c.loop-part.part-index c.parts_of-part-items.result.now c.loop-part-test.false
    ∙ c.parts_of-part-items.ensures)

pub returns-clause-itself : goal.returns-clause-itself
returns-clause-itself c = λ old new adds. adds.shape c.loop-part.invariant.local
