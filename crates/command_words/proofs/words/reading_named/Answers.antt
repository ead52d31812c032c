use Rattle.std.proofs.Common.{ap, sym}
use Rattle.command_words.specs.Words.{reading_named}
use Rattle.command_words.proofs.WordLemmas.{none_named}
use Rattle.command_words.proofs.words.reading_named.Goals as goal

pub returns-in-rate : goal.returns-in-rate
returns-in-rate c = ap reading_named (sym c.in-rate.is)

pub returns-in-tree : goal.returns-in-tree
returns-in-tree c = ap reading_named (sym c.in-tree.is)

pub returns-in-trace : goal.returns-in-trace
returns-in-trace c = ap reading_named (sym c.in-trace.is)

pub returns-in-table : goal.returns-in-table
returns-in-table c = ap reading_named (sym c.in-table.is)

pub returns-in-check : goal.returns-in-check
returns-in-check c = ap reading_named (sym c.in-check.is)

pub returns-in-follow : goal.returns-in-follow
returns-in-follow c = ap reading_named (sym c.in-follow.is)

pub returns-in_default : goal.returns-in_default
returns-in_default c =
    none_named c.args.word.now c.in_default.not-rate c.in_default.not-tree c.in_default.not-trace c.in_default.not-table c.in_default.not-check
    c.in_default.not-follow
