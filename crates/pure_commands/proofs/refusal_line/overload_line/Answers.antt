use Rattle.std.proofs.Common.{append_assoc}
use Rattle.sched_edges.specs.Lines.{line_of}
use Rattle.pure_commands.specs.Refusals.{refusal_line}
use Rattle.pure_commands.proofs.refusal_line.overload_line.Goals as goal

pub returns : goal.returns
unfolding refusal_line line_of
returns c = rw (c.end.ensures, c.add_number-2.ensures.text, c.add_number.ensures.text, c.begin-line.ensures.text) (simp append_assoc)
