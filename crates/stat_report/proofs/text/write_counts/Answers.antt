use Rattle.std.proofs.Common.{ℕ, ◌^◌, ◌<◌, Fits, List, length, subst, sym, arith}
use Rattle.std.specs.Int.{w128}
use Rattle.sched_base.specs.declared.rows.Row.{Row}
use Rattle.stat_report.proofs.text.write_counts.Goals as goal

count_fits : (n : ℕ) → n < 2 ^ 32 → Fits w128 n
count_fits n h = omega arith

pub word_line-requires : goal.word_line-requires
word_line-requires _ _ = omega arith

pub overflow_cast-len : goal.overflow_cast-len
overflow_cast-len g c =
    subst (Fits w128) (sym c.len.ensures) (subst (λ (rows : List Row). Fits w128 (length rows)) (sym c.rows.ensures.value)
    (count_fits (length c.args.trace.now.rows) c.rows.ensures.lawful.few))

pub number_line-requires : goal.number_line-requires
number_line-requires _ _ = omega arith

pub number_line-requires-2 : goal.number_line-requires-2
number_line-requires-2 _ _ = omega arith

pub number_line-requires-3 : goal.number_line-requires-3
number_line-requires-3 _ _ = omega arith

pub returns-clause-cause : goal.returns-clause-cause
returns-clause-cause g c = c.write_lines.ensures.cause

pub returns-clause-wrote : goal.returns-clause-wrote
returns-clause-wrote g c =
    rw (
      c.word_line.ensures,
      c.number_line.ensures,
      c.len.ensures,
      c.rows.ensures.value,
      c.number_line-2.ensures,
      c.from.ensures,
      c.requires.preempted,
      c.number_line-3.ensures,
      c.from-2.ensures,
      c.requires.moved,
    ) at c.write_lines.ensures.wrote
