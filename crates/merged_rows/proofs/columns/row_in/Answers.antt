use Rattle.std.proofs.Common.{◌≡◌, ◌∙◌, ◌+◌, ◌<◌, Some, length, map, sym, ap, arith}
use Rattle.std.proofs.lemmas.List.{length-map}
use Rattle.merged_rows.proofs.ColumnLemmas.{inner_row, last_row, row_on}
use Rattle.merged_rows.proofs.FormLemmas.{read_at, same_begun}
use Rattle.merged_rows.proofs.columns.row_in.Goals as goal
use Rattle.merged_rows.proofs.columns.row_in.Goals.{then-i-last, else-i-last}

pub returns : goal.returns
returns g c =
    let begun = g.R.RowForm.begun in
    let rows = c.args.rows.now in
    let i = c.args.i in
    let p = c.args.p in
    let start = c.start.result in
    let leaf = c.leaf.result in
    let row = c.index-rows-i.result in
    let here = read_at begun rows i row c.requires c.index-rows-i.is ∙ ap Some (same_begun (begun row) start leaf c.start.ensures c.leaf.ensures) in
    elim c.if-i-last.branch [
      | then-i-last w ↦
          let next = w.index-rows-i-then-i-last.result in
          let within : i + 1 < length rows = omega (arith, w.if-i-last.true) in
          inner_row p c.args.end i (map begun rows) start leaf (begun next) here (read_at begun rows (i + 1) next within w.index-rows-i-then-i-last.is)
          ∙ ap (λ n. Some (row_on p start n leaf)) (sym (w.end-is ∙ w.start-end.ensures))
      | else-i-last w ↦
          let many : length (map begun rows) ≡ length rows = length-map rows begun in
          last_row p c.args.end i (map begun rows) start leaf (omega (arith, many, c.requires, w.if-i-last.false)) here
          ∙ ap (λ n. Some (row_on p start n leaf)) (sym w.end-is)
    ]
