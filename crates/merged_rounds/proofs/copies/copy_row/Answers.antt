use Rattle.std.proofs.Common.{◌≡◌, ◌∙◌, ◌+◌, [], ap, arith, get_or, length, set, sym}
use Rattle.merged_rows.specs.Columns.{showing}
use Rattle.merged_rounds.specs.Copies.{copy_on}
use Rattle.merged_rounds.proofs.BegunLemmas.{length-rows_up_to, new_row}
use Rattle.merged_rounds.proofs.CopyLemmas.{copy_before, copy_behind, copy_within, lane_read, row_read, set_again}
use Rattle.merged_rounds.proofs.copies.copy_row.Goals as goal
use Rattle.merged_rounds.proofs.copies.copy_row.Goals.{else-window-row-via-then-window-row+else-row-window, else-window-row-via-else-window-row}

pub row-row-requires-clause-row : goal.row-row-requires-clause-row
row-row-requires-clause-row c =
    let lane = get_or c.args.rows.now.begun c.args.q [] in
    let is = ap length (lane_read c.args.rows.now.end c.args.rows.now.begun c.args.rows.now.lanes c.args.q c.know_begun.ensures.lanes c.requires.processor) in
    let long = length-rows_up_to c.args.q c.args.rows.now.end lane in
    let within = c.requires.row in
    omega (arith, is, long, within)

pub returns-in_ok-show : goal.returns-in_ok-show
returns-in_ok-show c = record {
  copied = λ b at.
      let rows = c.args.rows.now in
      let w = c.args.window in
      let q = c.args.q in
      let lane = get_or rows.begun q [] in
      let r = c.row-row.result in
      let same : b ≡ new_row r.start r.leaf = row_read rows.end rows.begun rows.lanes q c.args.i r b c.know_begun.ensures.lanes c.requires.processor
      c.row-row.ensures at in
      c.in_ok-show.ensures.shown
      ∙ ap (λ n. set c.go_to.new.self.begun q (showing (get_or c.go_to.new.self.begun q []) n r.leaf)) c.go_to.ensures.end
      ∙ ap (λ ls. set ls q (showing (get_or ls q []) (r.start + w.ticks) r.leaf)) c.go_to.ensures.begun
      ∙ ap (set rows.begun q) (sym (copy_within w lane (new_row r.start r.leaf) c.if-window-row.true c.if-row-window.true) ∙ ap (copy_on w lane) (sym same));
}

pub returns-else-window-row : goal.returns-else-window-row
returns-else-window-row c = record {
  copied = λ b at.
      let rows = c.args.rows.now in
      let w = c.args.window in
      let q = c.args.q in
      let lane = get_or rows.begun q [] in
      let r = c.row-row.result in
      let same : b ≡ new_row r.start r.leaf = row_read rows.end rows.begun rows.lanes q c.args.i r b c.know_begun.ensures.lanes c.requires.processor
      c.row-row.ensures at in
      sym (set_again rows.begun q)
      ∙ ap (set rows.begun q) (sym (elim c.else-window-row.branch [
        | else-window-row-via-then-window-row+else-row-window v ↦ (let off = v.if-row-window.false in copy_behind w lane (new_row r.start r.leaf)
            (omega (arith, off)))
        | else-window-row-via-else-window-row v ↦ (let off = v.if-window-row.false in copy_before w lane (new_row r.start r.leaf) (omega (arith, off)))
      ]) ∙ ap (copy_on w lane) (sym same));
}
