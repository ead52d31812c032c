use Rattle.std.proofs.Common.{ℕ, List, ◌++◌, codes, decimal, le_refl, le_trans}
use Rattle.sched_edges.proofs.Wrote.{wrote_then, wrote_cut}
use Rattle.table_text.specs.Table.{opening_text, shapes_text}
use Rattle.sched_edges.proofs.CauseLemmas.{cause_cut, cause_then}
use Rattle.table_text.proofs.head.write_head.Goals as goal

-- the line of the numbers of a row
abbrev ticks_line : ℕ → List ℕ
ticks_line width = codes "  uint" ++ (decimal width ++ codes "_t start, end;\n")

pub returns-in_err-write_opening-clause-wrote : goal.returns-in_err-write_opening-clause-wrote
returns-in_err-write_opening-clause-wrote g c =
    wrote_cut _ _ opening_text _ _ _ c.in_err-write_opening.ensures.wrote c.from_residual.ensures.0

pub returns-in_err-write_all-clause-wrote : goal.returns-in_err-write_all-clause-wrote
returns-in_err-write_all-clause-wrote g c =
    let line = rw (c.as_slice.ensures.bytes, c.ticks_line.ensures) at c.in_err-write_all.ensures.wrote in
    wrote_then _ _ _ opening_text _ _ _ c.in_ok-write_opening.ensures.wrote
    (wrote_cut _ _ (ticks_line c.args.width) shapes_text _ _ line c.from_residual-in_err-write_all.ensures.0)

pub returns-clause-wrote : goal.returns-clause-wrote
returns-clause-wrote g c =
    let line = rw (c.as_slice.ensures.bytes, c.ticks_line.ensures) at c.in_ok-write_all.ensures.wrote in
    wrote_then _ _ _ opening_text _ _ _ c.in_ok-write_opening.ensures.wrote
    (wrote_then _ _ _ (ticks_line c.args.width) shapes_text _ _ line c.write_shapes.ensures.wrote)

pub returns-in_err-write_opening-clause-cause : goal.returns-in_err-write_opening-clause-cause
returns-in_err-write_opening-clause-cause g c = cause_cut _ _ _ _ _ (le_refl _) c.in_err-write_opening.ensures.cause

pub returns-in_err-write_all-clause-cause : goal.returns-in_err-write_all-clause-cause
returns-in_err-write_all-clause-cause g c = cause_cut _ _ _ _ _ c.write_opening.ensures.cause.later c.in_err-write_all.ensures.cause

pub returns-clause-cause : goal.returns-clause-cause
returns-clause-cause g c = cause_then _ _ _ _ (le_trans c.write_opening.ensures.cause.later c.write_all.ensures.cause.later) c.write_shapes.ensures.cause
