use Rattle.std.proofs.Common.{◌≤◌}
use Rattle.pure_commands.specs.Batch.{answer_line}
use Rattle.pure_commands.proofs.NumberedLemmas.{IsWrittenTo}
use Rattle.pure_commands.proofs.batch.write_sets.Given as goal

abbrev pub invariant-loop-j : goal.invariant-loop-j
invariant-loop-j g l = record {
  written : IsWrittenTo answer_line l.answers l.j (g.W.Sink.taken l.fn.out) (g.W.Sink.taken l.out);
  later : g.W.Sink.faults l.fn.out ≤ g.W.Sink.faults l.out;
}
