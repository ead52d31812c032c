use Rattle.std.proofs.Common.{arith}
use Rattle.run_tool.proofs.summary.write_summary.Goals as goal

pub number_line-requires : goal.number_line-requires
number_line-requires g c = omega arith

pub number_line-requires-2 : goal.number_line-requires-2
number_line-requires-2 g c = omega arith

pub number_line-requires-3 : goal.number_line-requires-3
number_line-requires-3 g c = omega arith

pub number_line-requires-4 : goal.number_line-requires-4
number_line-requires-4 g c = omega arith

pub number_line-requires-5 : goal.number_line-requires-5
number_line-requires-5 g c = omega arith

pub number_line-requires-6 : goal.number_line-requires-6
number_line-requires-6 g c = omega arith

pub number_line-requires-7 : goal.number_line-requires-7
number_line-requires-7 g c = omega arith

pub word_line-requires : goal.word_line-requires
word_line-requires g c = omega arith

pub returns-clause-wrote : goal.returns-clause-wrote
returns-clause-wrote g c =
    rw (
      c.number_line.ensures,
      c.from.ensures,
      c.number_line-2.ensures,
      c.from-2.ensures,
      c.number_line-3.ensures,
      c.number_line-4.ensures,
      c.from-3.ensures,
      c.number_line-5.ensures,
      c.from-4.ensures,
      c.number_line-6.ensures,
      c.from-5.ensures,
      c.number_line-7.ensures,
      c.from-6.ensures,
      c.word_line.ensures,
    )
    at c.write_lines.ensures.wrote

pub returns-clause-cause : goal.returns-clause-cause
returns-clause-cause g c = c.write_lines.ensures.cause
