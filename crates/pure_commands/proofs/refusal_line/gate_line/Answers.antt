use Rattle.std.proofs.Common.{codes, decimal}
use Rattle.sched_edges.specs.Lines.{line_of}
use Rattle.pure_commands.specs.Refusals.{refusal_line, printed_name}
use Rattle.pure_commands.proofs.LineLemmas.{gate_line_is}
use Rattle.pure_commands.proofs.refusal_line.gate_line.Goals as goal

pub returns : goal.returns
unfolding refusal_line line_of
returns c =
    rw (
      c.end.ensures,
      c.text.ensures,
      c.printed_name.ensures.text,
      c.space-2.ensures,
      c.number.ensures.text,
      c.space.ensures,
      c.add_number-2.ensures.text,
      c.add_number.ensures.text,
      c.begin-line.ensures.text,
      c.from.ensures,
    ) (gate_line_is (codes "refused")
    (decimal 10) (codes "GateFault") (codes "processor") (decimal c.args.row.now.processor) (codes "row") (decimal c.args.row.now.start)
    (decimal c.args.row.now.end) (printed_name c.args.name.now))
