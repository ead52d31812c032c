use Rattle.std.proofs.Common.{ℕ, List, length, le_refl, le_trans}
use Rattle.std.specs.List.{flat_map, range_with_len}
use Rattle.sched_base.specs.declared.rows.Row.{Row}
use Rattle.sched_base.specs.Tables.{lane_of}
use Rattle.sched_edges.proofs.Wrote.{wrote_then, wrote_cut}
use Rattle.table_text.specs.Lines.{processor_line}
use Rattle.sched_edges.proofs.CauseLemmas.{cause_cut, cause_then}
use Rattle.table_text.proofs.lanes.write_processors.Goals as goal

-- the lines of the processors
abbrev processor_lines : List (List Row) → List ℕ
processor_lines lanes = flat_map (λ p. processor_line p (length (lane_of lanes p))) (range_with_len 0 (length lanes))

pub returns-in_err-write_all-clause-wrote : goal.returns-in_err-write_all-clause-wrote
returns-in_err-write_all-clause-wrote g c =
    wrote_cut _ _ _ _ _ _ c.in_err-write_all.ensures.wrote c.from_residual.ensures.0

pub returns-in_err-write_processor_lines-clause-wrote : goal.returns-in_err-write_processor_lines-clause-wrote
returns-in_err-write_processor_lines-clause-wrote g c =
    wrote_then _ _ _ _ _ _ _ c.in_ok-write_all.ensures.wrote
    (wrote_cut _ _ (processor_lines c.args.rows.now.lanes) _ _ _ c.in_err-write_processor_lines.ensures.wrote
    c.from_residual-in_err-write_processor_lines.ensures.0)

pub returns-clause-wrote : goal.returns-clause-wrote
returns-clause-wrote g c =
    wrote_then _ _ _ _ _ _ _ c.in_ok-write_all.ensures.wrote
    (wrote_then _ _ _ (processor_lines c.args.rows.now.lanes) _ _ _ c.in_ok-write_processor_lines.ensures.wrote c.write_all-2.ensures.wrote)

pub returns-in_err-write_all-clause-cause : goal.returns-in_err-write_all-clause-cause
returns-in_err-write_all-clause-cause g c = cause_cut _ _ _ _ _ (le_refl _) c.in_err-write_all.ensures.cause

pub returns-in_err-write_processor_lines-clause-cause : goal.returns-in_err-write_processor_lines-clause-cause
returns-in_err-write_processor_lines-clause-cause g c = cause_cut _ _ _ _ _ c.write_all.ensures.cause.later c.in_err-write_processor_lines.ensures.cause

pub returns-clause-cause : goal.returns-clause-cause
returns-clause-cause g c = cause_then _ _ _ _ (le_trans c.write_all.ensures.cause.later c.write_processor_lines.ensures.cause.later) c.write_all-2.ensures.cause
