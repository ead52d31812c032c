use Rattle.trace_check.proofs.TaskLemmas.{none_capped}
use Rattle.trace_check.specs.Steps.{number_after}
use Rattle.std.proofs.Common.{codes, length, sym}
use Rattle.text_words.specs.Words.{lines_of}
use Rattle.trace_check.proofs.HeadLemmas.{scale_read, line_missing, line_refused, some_text}
use Rattle.trace_check.proofs.head_lines.next_scale.Goals as goal

pub returns-in-Some-clause-read : goal.returns-in-Some-clause-read
returns-in-Some-clause-read c =
    scale_read (lines_of c.args.text.now) (lines_of c.first_line.result.1.now) c.first_line.result.0.now c.in-Some.number c.first_line.ensures.line
    c.in-Some.ensures

pub returns-then-is_empty-clause-fault : goal.returns-then-is_empty-clause-fault
returns-then-is_empty-clause-fault c = line_missing 4 (number_after (codes "scale")) c.args.text.now (sym c.if-is_empty.ensures)

pub first_line-requires : goal.first_line-requires
first_line-requires c = some_text (length c.args.text.now) (sym c.if-is_empty.ensures)

pub returns-in-None-clause-fault : goal.returns-in-None-clause-fault
returns-in-None-clause-fault c = line_refused 4 (number_after (codes "scale")) (lines_of c.args.text.now) (lines_of c.first_line.result.1.now)
    c.first_line.result.0.now c.first_line.ensures.line (sym (none_capped (number_after (codes "scale") c.first_line.result.0.now) c.in-None.ensures))
