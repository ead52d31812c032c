use Rattle.std.proofs.Common.{◌≤◌}
use Rattle.run_tool.specs.ModeTexts.{mode_part}
use Rattle.pure_commands.proofs.NumberedLemmas.{IsWrittenTo}
use Rattle.run_tool.proofs.mode_text.write_each.Given as goal

abbrev pub invariant-loop-j : goal.invariant-loop-j
invariant-loop-j g l = record {
  written : IsWrittenTo mode_part l.modes.modes l.j (g.W.Sink.taken l.fn.out) (g.W.Sink.taken l.out);
  later : g.W.Sink.faults l.fn.out ≤ g.W.Sink.faults l.out;
}
