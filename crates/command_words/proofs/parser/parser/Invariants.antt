use Rattle.std.proofs.Common.{◌≡◌, take}
use Rattle.clap.specs.Words.{app_of}
use Rattle.command_words.specs.CommandLine.{program}
use Rattle.command_words.specs.Parts.{with_words}
use Rattle.command_words.proofs.parser.parser.Given as goal

abbrev pub invariant-loop-word : goal.invariant-loop-word
invariant-loop-word l = app_of l.program ≡ with_words program (take l.word-index l.word-items)
