use Rattle.std.proofs.Common.{rules}
use Rattle.sched_edges.proofs.Wrote.{wrote_part}
use Rattle.pure_commands.specs.Batch.{answer_line}
use Rattle.pure_commands.proofs.NumberedLemmas.{none_written, more_written, part_written}
use Rattle.pure_commands.proofs.batch.write_sets.Goals as goal

pub loop-j-init : goal.loop-j-init
loop-j-init g c = record { written = none_written answer_line c.args.answers.now _; later = search rules }

pub loop-j-preserved : goal.loop-j-preserved
loop-j-preserved g c = record {
  written = more_written answer_line c.args.answers.now c.loop-j.j c.item.result.now _ _ _ c.item.ensures c.loop-j.invariant.written
      c.in_ok-write_answer.ensures.wrote.ok;
  later = search rules;
}

pub returns-in_err-write_answer-clause-wrote : goal.returns-in_err-write_answer-clause-wrote
returns-in_err-write_answer-clause-wrote g c =
    wrote_part _ _ _ c.from_residual.result c.from_residual.ensures.0
    (part_written answer_line c.args.answers.now c.loop-j.j c.item.result.now _ _ _ c.item.ensures c.loop-j.invariant.written
    c.in_err-write_answer.ensures.wrote.err)
