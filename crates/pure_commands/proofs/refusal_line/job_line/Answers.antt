use Rattle.std.proofs.Common.{codes, decimal}
use Rattle.sched_edges.specs.Lines.{line_of}
use Rattle.pure_commands.specs.Refusals.{refusal_line, printed_name}
use Rattle.pure_commands.proofs.LineLemmas.{job_line_is}
use Rattle.pure_commands.proofs.refusal_line.job_line.Goals as goal

pub returns : goal.returns
unfolding refusal_line line_of
returns c =
    rw (
      c.end.ensures,
      c.number.ensures.text,
      c.space-3.ensures,
      c.add_number-2.ensures.text,
      c.add_number.ensures.text,
      c.text-2.ensures,
      c.printed_name.ensures.text,
      c.space-2.ensures,
      c.text.ensures,
      c.space.ensures,
      c.begin-line.ensures.text,
      c.from.ensures,
    ) (job_line_is
    (codes "refused") (decimal 11) (codes "JobFault") (codes "task") (printed_name c.args.name.now) (codes "processor")
    (decimal c.args.row.now.processor) (codes "row") (decimal c.args.row.now.start) (decimal c.args.row.now.end))
