use Rattle.tree_reader.proofs.NumberLemmas.{no_first, other_first, this_first}
use Rattle.trace_check.specs.Steps.{within}
use Rattle.text_words.specs.Words.{number_of}
use Rattle.std.proofs.Common.{◌∙◌, option_and_then}
use Rattle.tree_reader.proofs.packs.number_behind.Goals as goal

pub returns-in_err-read_number-clause-value : goal.returns-in_err-read_number-clause-value
returns-in_err-read_number-clause-value c = c.from_residual.ensures ∙ no_first c.args.k (option_and_then (within c.args.low c.args.high)
    (number_of c.args.second.now)) (number_of c.args.first.now) c.in_err-read_number.ensures

pub returns-in_err-read_number-clause-limits : goal.returns-in_err-read_number-clause-limits
returns-in_err-read_number-clause-limits c = rw c.from_residual.ensures tt

pub returns-then-branch-k-clause-value : goal.returns-then-branch-k-clause-value
returns-then-branch-k-clause-value c =
    other_first c.args.k c.in_ok-read_number.field-0 (option_and_then (within c.args.low c.args.high) (number_of c.args.second.now))
    (number_of c.args.first.now)
    c.requires.first c.in_ok-read_number.ensures c.if-branch-k.true

pub word_within-requires : goal.word_within-requires
word_within-requires c = c.requires.second

pub returns-clause-value : goal.returns-clause-value
returns-clause-value c =
    c.word_within.ensures.value
    ∙ this_first c.args.k c.in_ok-read_number.field-0 (option_and_then (within c.args.low c.args.high) (number_of c.args.second.now))
    (number_of c.args.first.now)
    c.requires.first c.in_ok-read_number.ensures c.if-branch-k.false

pub returns-clause-limits : goal.returns-clause-limits
returns-clause-limits c = c.word_within.ensures.limits
