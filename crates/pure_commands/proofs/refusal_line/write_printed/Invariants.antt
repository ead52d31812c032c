use Rattle.std.proofs.Common.{◌≤◌, length}
use Rattle.pure_commands.proofs.LineLemmas.{IsPrinted}
use Rattle.pure_commands.proofs.refusal_line.write_printed.Given as goal

abbrev pub invariant-loop-rest : goal.invariant-loop-rest
invariant-loop-rest g l = record {
  printed : IsPrinted l.bytes l.rest (g.W.Sink.taken l.fn.out) (g.W.Sink.taken l.out);
  later : g.W.Sink.faults l.fn.out ≤ g.W.Sink.faults l.out;
}

abbrev pub decreases-loop-rest : goal.decreases-loop-rest
decreases-loop-rest g l = length l.rest
