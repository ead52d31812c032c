use Rattle.std.proofs.Common.{sym, ◌∙◌}
use Rattle.trace_check.proofs.RowLemmas.{row_unnamed}
use Rattle.trace_check.proofs.row_lines.row_from.Goals as goal

pub returns-in_err-leaf-clause-row : goal.returns-in_err-leaf-clause-row
returns-in_err-leaf-clause-row c = c.from_residual.ensures ∙ row_unnamed c.args.set.now.tasks c.args.rows.now c.args.processor c.args.start c.args.end
    c.args.name.now (sym c.in_err-leaf.ensures.leaf)

pub returns-in_err-leaf-clause-read : goal.returns-in_err-leaf-clause-read
returns-in_err-leaf-clause-read c = rw c.from_residual.ensures tt
