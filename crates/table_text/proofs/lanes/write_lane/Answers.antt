use Rattle.std.proofs.Common.{ℕ, List, ◌++◌, codes, decimal, le_refl, le_trans}
use Rattle.std.specs.List.{flat_map}
use Rattle.sched_base.specs.Tables.{lane_of}
use Rattle.sched_edges.proofs.Wrote.{wrote_then, wrote_cut}
use Rattle.table_text.specs.Lines.{row_line}
use Rattle.sched_edges.proofs.CauseLemmas.{cause_cut, cause_then}
use Rattle.table_text.proofs.lanes.write_lane.Goals as goal

-- the line before the rows of a processor
abbrev lane_line : ℕ → List ℕ
lane_line p = codes "static const struct furnacelime_row furnacelime_rows_" ++ (decimal p ++ codes "[] = {\n")

pub returns-in_err-write_all-clause-wrote : goal.returns-in_err-write_all-clause-wrote
returns-in_err-write_all-clause-wrote g c =
    let line = rw (c.as_slice.ensures.bytes, c.lane_line.ensures) at c.in_err-write_all.ensures.wrote in
    wrote_cut _ _ (lane_line c.args.p) _ _ _ line c.from_residual.ensures.0

pub returns-in_err-write_rows-clause-wrote : goal.returns-in_err-write_rows-clause-wrote
returns-in_err-write_rows-clause-wrote g c =
    let line = rw (c.as_slice.ensures.bytes, c.lane_line.ensures) at c.in_ok-write_all.ensures.wrote in
    wrote_then _ _ _ (lane_line c.args.p) _ _ _ line
    (wrote_cut _ _ (flat_map (row_line c.args.step) (lane_of c.args.rows.now.lanes c.args.p)) _ _ _ c.in_err-write_rows.ensures.wrote
    c.from_residual-in_err-write_rows.ensures.0)

pub returns-clause-wrote : goal.returns-clause-wrote
returns-clause-wrote g c =
    let line = rw (c.as_slice.ensures.bytes, c.lane_line.ensures) at c.in_ok-write_all.ensures.wrote in
    wrote_then _ _ _ (lane_line c.args.p) _ _ _ line
    (wrote_then _ _ _ (flat_map (row_line c.args.step) (lane_of c.args.rows.now.lanes c.args.p)) _ _ _ c.in_ok-write_rows.ensures.wrote
    c.write_all-2.ensures.wrote)

pub returns-in_err-write_all-clause-cause : goal.returns-in_err-write_all-clause-cause
returns-in_err-write_all-clause-cause g c = cause_cut _ _ _ _ _ (le_refl _) c.in_err-write_all.ensures.cause

pub returns-in_err-write_rows-clause-cause : goal.returns-in_err-write_rows-clause-cause
returns-in_err-write_rows-clause-cause g c = cause_cut _ _ _ _ _ c.write_all.ensures.cause.later c.in_err-write_rows.ensures.cause

pub returns-clause-cause : goal.returns-clause-cause
returns-clause-cause g c = cause_then _ _ _ _ (le_trans c.write_all.ensures.cause.later c.write_rows.ensures.cause.later) c.write_all-2.ensures.cause
