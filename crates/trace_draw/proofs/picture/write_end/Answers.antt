use Rattle.std.proofs.Common.{◌++◌, le_refl, le_trans}
use Rattle.std.specs.List.{concat}
use Rattle.sched_edges.proofs.Wrote.{wrote_then, wrote_cut}
use Rattle.trace_draw.specs.declared.rows.Part.TheVariants.{Words}
use Rattle.trace_draw.specs.Rows.{rows_text}
use Rattle.trace_draw.specs.Picture.{fault_text, closing_lines}
use Rattle.sched_edges.proofs.CauseLemmas.{cause_cut, cause_then}
use Rattle.trace_draw.proofs.PictureLemmas.{rows_wrote}
use Rattle.trace_draw.proofs.picture.write_end.Goals as goal

pub returns-in_err-write_fault-clause-wrote : goal.returns-in_err-write_fault-clause-wrote
returns-in_err-write_fault-clause-wrote g c =
    let t = c.args.scene.now.trace.now in
    let w = c.args.scene.now.window.now in
    wrote_cut _ _ (fault_text t w c.args.scene.now.verdict) (rows_text Words t.set w t.rows ++ concat (closing_lines t.set)) _ _
    c.in_err-write_fault.ensures.wrote
    c.from_residual.ensures.0

pub returns-in_err-write_rows-clause-wrote : goal.returns-in_err-write_rows-clause-wrote
returns-in_err-write_rows-clause-wrote g c =
    let t = c.args.scene.now.trace.now in
    let w = c.args.scene.now.window.now in
    let words = rows_wrote _ _ Words w t.set _ t.rows _ _ c.set.ensures c.rows.ensures.value c.in_err-write_rows.ensures.wrote in
    wrote_then _ _ _ (fault_text t w c.args.scene.now.verdict) (rows_text Words t.set w t.rows ++ concat (closing_lines t.set)) _ _
    c.in_ok-write_fault.ensures.wrote
    (wrote_cut _ _ (rows_text Words t.set w t.rows) (concat (closing_lines t.set)) _ _ words c.from_residual-in_err-write_rows.ensures.0)

pub returns-clause-wrote : goal.returns-clause-wrote
returns-clause-wrote g c =
    let t = c.args.scene.now.trace.now in
    let w = c.args.scene.now.window.now in
    let words = rows_wrote _ _ Words w t.set _ t.rows _ _ c.set.ensures c.rows.ensures.value c.in_ok-write_rows.ensures.wrote in
    let closing = rw c.set-2.ensures at c.write_closing.ensures.wrote in
    wrote_then _ _ _ (fault_text t w c.args.scene.now.verdict) (rows_text Words t.set w t.rows ++ concat (closing_lines t.set)) _ _
    c.in_ok-write_fault.ensures.wrote
    (wrote_then _ _ _ (rows_text Words t.set w t.rows) (concat (closing_lines t.set)) _ _ words closing)

pub returns-in_err-write_fault-clause-cause : goal.returns-in_err-write_fault-clause-cause
returns-in_err-write_fault-clause-cause g c = cause_cut _ _ _ _ _ (le_refl _) c.in_err-write_fault.ensures.cause

pub returns-in_err-write_rows-clause-cause : goal.returns-in_err-write_rows-clause-cause
returns-in_err-write_rows-clause-cause g c = cause_cut _ _ _ _ _ c.write_fault.ensures.cause.later c.in_err-write_rows.ensures.cause

pub returns-clause-cause : goal.returns-clause-cause
returns-clause-cause g c = cause_then _ _ _ _ (le_trans c.write_fault.ensures.cause.later c.write_rows.ensures.cause.later) c.write_closing.ensures.cause

pub write_fault-requires : goal.write_fault-requires
write_fault-requires g c = record { window = c.requires.window }

pub write_rows-requires-clause-window : goal.write_rows-requires-clause-window
write_rows-requires-clause-window g c = c.requires.window
