use Rattle.std.proofs.Common.{◌∙◌, sym, refl, le_refl, le_trans}
use Rattle.std.proofs.lemmas.List.{get_or_default}
use Rattle.sched_base.specs.declared.rows.Leaf.TheVariants as leaves
use Rattle.sched_edges.proofs.Wrote.{item_written, wrote_item}
use Rattle.trace_verdict.specs.Faults.{row_at}
use Rattle.sched_edges.proofs.CauseLemmas.{cause_cut, took_none}
use Rattle.trace_draw.proofs.RowLemmas.{next_drawn, count_next, count_past, count_full, all_drawn, trace_row_at}
use Rattle.trace_draw.proofs.rows.write_rows.Goals.{then-drawn-lt-MOST_DRAWN+then-reaches+in_ok-write_row, else-drawn-lt-MOST_DRAWN}
use Rattle.trace_draw.proofs.rows.write_rows.Goals.{else-drawn-lt-MOST_DRAWN-via-then-drawn-lt-MOST_DRAWN+else-reaches}
use Rattle.trace_draw.proofs.rows.write_rows.Goals.{else-drawn-lt-MOST_DRAWN-via-else-drawn-lt-MOST_DRAWN}
use Rattle.trace_draw.proofs.rows.write_rows.Goals as goal
use Rattle.trace_draw.proofs.Parts.{drawn_rows, row_text}

pub loop-row-init : goal.loop-row-init
loop-row-init g c = (took_none _, refl, le_refl _)

pub returns-in_err-write_row-clause-wrote : goal.returns-in_err-write_row-clause-wrote
returns-in_err-write_row-clause-wrote g c =
    let rows = c.args.rows.now in
    let w = c.args.window.now in
    let i = c.loop-row.row-index in
    let at = get_or_default rows i (record { processor = 0; start = 0; end = 0; leaf = leaves.Task (record { 0 = 0 }) }) (row_at rows i) c.loop-row-test.true in
    let next = next_drawn w rows i c.loop-row.drawn (row_at rows i) c.loop-row-test.true at (sym c.reaches.ensures ∙ c.if-reaches.true)
    c.loop-row.invariant.1 c.if-drawn-lt-MOST_DRAWN.true in
    wrote_item (row_text c.args.part c.args.set.now w) (drawn_rows w rows) c.loop-row.drawn (row_at rows i) _ _ _ _ _ next.0 next.1 c.loop-row.invariant.0
    c.in_err-write_row.ensures.wrote
    c.from_residual.ensures.0

pub loop-row-preserved : goal.loop-row-preserved
loop-row-preserved g c =
    let rows = c.args.rows.now in
    let w = c.args.window.now in
    let i = c.loop-row.row-index in
    let n = c.loop-row.drawn in
    let within = c.loop-row-test.true in
    let at = get_or_default rows i (record { processor = 0; start = 0; end = 0; leaf = leaves.Task (record { 0 = 0 }) }) (row_at rows i) within in
    elim c.if-drawn-lt-MOST_DRAWN.branch [
      | then-drawn-lt-MOST_DRAWN+then-reaches+in_ok-write_row v ↦ (
          let reached = sym v.reaches.ensures ∙ v.if-reaches.true in
          let next = next_drawn w rows i n (row_at rows i) within at reached c.loop-row.invariant.1 v.if-drawn-lt-MOST_DRAWN.true in
          let count = count_next w rows i n (row_at rows i) within at reached c.loop-row.invariant.1 v.if-drawn-lt-MOST_DRAWN.true in
          rw (v.sink-is, v.drawn-is) (
            item_written (row_text c.args.part c.args.set.now w) (drawn_rows w rows) n (row_at rows i) _ _ _ next.0 next.1 c.loop-row.invariant.0
                v.in_ok-write_row.ensures.wrote.ok,
            count,
            le_trans c.loop-row.invariant.2 v.write_row.ensures.cause.later,
          ))
      | else-drawn-lt-MOST_DRAWN v ↦ elim v.else-drawn-lt-MOST_DRAWN.branch [
        | else-drawn-lt-MOST_DRAWN-via-then-drawn-lt-MOST_DRAWN+else-reaches u ↦ (
            let apart = sym u.reaches.ensures ∙ u.if-reaches.false in
            rw (v.sink-is, v.drawn-is) (
              c.loop-row.invariant.0,
              count_past w rows i n (row_at rows i) within at apart c.loop-row.invariant.1,
              c.loop-row.invariant.2,
            ))
        | else-drawn-lt-MOST_DRAWN-via-else-drawn-lt-MOST_DRAWN u ↦ (
            rw (v.sink-is, v.drawn-is) (
              c.loop-row.invariant.0,
              count_full w rows i n (row_at rows i) within u.if-drawn-lt-MOST_DRAWN.false c.loop-row.invariant.1,
              c.loop-row.invariant.2,
            ))
      ]
    ]

pub returns-clause-wrote : goal.returns-clause-wrote
returns-clause-wrote g c =
    let all = all_drawn c.args.window.now c.args.rows.now c.loop-row.row-index c.loop-row.drawn c.loop-row-test.false c.loop-row.invariant.1 in
    record { ok = rw all at c.loop-row.invariant.0; err = tt }

pub returns-in_err-write_row-clause-cause : goal.returns-in_err-write_row-clause-cause
returns-in_err-write_row-clause-cause g c = cause_cut _ _ _ _ _ c.loop-row.invariant.2 c.in_err-write_row.ensures.cause

pub returns-clause-cause : goal.returns-clause-cause
returns-clause-cause g c = record { later = c.loop-row.invariant.2; failed = tt }

pub write_row-requires-clause-window : goal.write_row-requires-clause-window
write_row-requires-clause-window g c = c.requires.window

pub reaches-requires : goal.reaches-requires
reaches-requires g c = c.requires.window

pub write_row-requires-clause-row : goal.write_row-requires-clause-row
write_row-requires-clause-row g c = trace_row_at c.args.set.now c.args.rows.now c.loop-row.row-index c.loop-row-test.true c.requires.rows
