use Rattle.std.proofs.Common.{codes, decimal}
use Rattle.sched_edges.specs.Lines.{line_of}
use Rattle.pure_commands.specs.Refusals.{refusal_line, tree_kind_text}
use Rattle.pure_commands.proofs.LineLemmas.{tree_line_is}
use Rattle.pure_commands.proofs.refusal_line.tree_line.Goals as goal

pub returns : goal.returns
unfolding refusal_line line_of
returns c =
    rw (
      c.end.ensures,
      c.text.ensures,
      c.tree_kind_text.ensures.text,
      c.space.ensures,
      c.add_number.ensures.text,
      c.begin-line.ensures.text,
      c.from.ensures,
    ) (tree_line_is (codes "refused") (decimal 16) (codes "BadTree") (codes "line") (decimal c.args.number) (tree_kind_text c.args.kind))
