use Rattle.std.proofs.Common.{take}
use Rattle.command_words.specs.Parts.{text_of}
use Rattle.command_words.proofs.ParserLemmas.{HasParts}
use Rattle.command_words.proofs.parser.command_of.Given as goal

abbrev pub invariant-loop-part : goal.invariant-loop-part
invariant-loop-part l = HasParts l.command (text_of l.fn.word) (take l.part-index l.part-items)
