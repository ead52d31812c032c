use Rattle.trace_check.proofs.HeadLemmas.{line_missing, line_read, line_refused, some_text}
use Rattle.trace_check.specs.Steps.{number_within}
use Rattle.text_words.specs.Words.{lines_of}
use Rattle.std.proofs.Common.{length, sym}
use Rattle.trace_check.proofs.head_lines.next_number.Goals as goal

pub returns-then-is_empty-clause-fault : goal.returns-then-is_empty-clause-fault
returns-then-is_empty-clause-fault c = line_missing c.args.line (number_within c.args.word.now c.args.low c.args.high) c.args.text.now
    (sym c.if-is_empty.ensures)

pub first_line-requires : goal.first_line-requires
first_line-requires c = some_text (length c.args.text.now) (sym c.if-is_empty.ensures)

pub number_within-requires : goal.number_within-requires
number_within-requires c = c.requires

pub returns-in-Some-clause-read : goal.returns-in-Some-clause-read
returns-in-Some-clause-read c = line_read c.args.line (number_within c.args.word.now c.args.low c.args.high) (lines_of c.args.text.now)
    (lines_of c.first_line.result.1.now) c.first_line.result.0.now c.in-Some.number c.first_line.ensures.line c.in-Some.ensures.value

pub returns-in-Some-clause-limits : goal.returns-in-Some-clause-limits
returns-in-Some-clause-limits c = c.in-Some.ensures.limits

pub returns-in-None-clause-fault : goal.returns-in-None-clause-fault
returns-in-None-clause-fault c = line_refused c.args.line (number_within c.args.word.now c.args.low c.args.high) (lines_of c.args.text.now)
    (lines_of c.first_line.result.1.now) c.first_line.result.0.now c.first_line.ensures.line c.in-None.ensures.value
