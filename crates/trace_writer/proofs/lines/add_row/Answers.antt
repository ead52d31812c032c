use Rattle.std.proofs.Common.{decimal}
use Rattle.trace_format.specs.Lines.{leaf_name}
use Rattle.trace_writer.proofs.RowLemmas.{row_line_is, row_in_pieces}
use Rattle.trace_writer.proofs.lines.add_row.Goals as goal

pub returns : goal.returns
returns c =
    let r = c.args.row.now in
    rw (
      c.end_row.ensures,
      c.name_of.ensures.name,
      c.set-2.ensures,
      c.begin_row.ensures.text,
      c.keep.ensures,
      c.set.ensures,
      row_line_is c.args.set.now.tasks r,
    )
    (row_in_pieces c.args.page.now (decimal r.processor) (decimal r.start) (decimal r.end) (leaf_name c.args.set.now.tasks r.leaf))
