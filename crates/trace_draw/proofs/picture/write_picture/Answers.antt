use Rattle.sched_edges.proofs.Wrote.{wrote_then, wrote_cut}
use Rattle.trace_draw.specs.declared.rows.Part.TheVariants.{Boxes}
use Rattle.trace_draw.specs.Rows.{rows_text}
use Rattle.trace_draw.specs.Picture.{picture}
use Rattle.trace_draw.proofs.PictureLemmas.{rows_wrote}
use Rattle.trace_draw.proofs.Parts.{base_text, tasks_text, end_text}
use Rattle.std.proofs.Common.{◌++◌, le_refl, le_trans}
use Rattle.sched_edges.proofs.CauseLemmas.{cause_cut, cause_then}
use Rattle.trace_draw.proofs.picture.write_picture.Goals as goal

pub returns-in_err-write_base-clause-wrote : goal.returns-in_err-write_base-clause-wrote
unfolding picture
returns-in_err-write_base-clause-wrote g c =
    let t = c.args.trace.now in
    let w = c.args.window.now in
    let v = c.args.verdict in
    wrote_cut _ _ (base_text t w v) (rows_text Boxes t.set w t.rows ++ (tasks_text t w v ++ end_text t w v)) _ _ c.in_err-write_base.ensures.wrote
    c.from_residual.ensures.0

pub returns-in_err-write_rows-clause-wrote : goal.returns-in_err-write_rows-clause-wrote
unfolding picture
returns-in_err-write_rows-clause-wrote g c =
    let t = c.args.trace.now in
    let w = c.args.window.now in
    let v = c.args.verdict in
    let rows = rows_wrote _ _ Boxes w t.set _ t.rows _ _ c.set.ensures c.rows.ensures.value c.in_err-write_rows.ensures.wrote in
    wrote_then _ _ _ (base_text t w v) _ _ _ c.in_ok-write_base.ensures.wrote
    (wrote_cut _ _ (rows_text Boxes t.set w t.rows) (tasks_text t w v ++ end_text t w v) _ _ rows c.from_residual-in_err-write_rows.ensures.0)

pub returns-in_err-write_tasks-clause-wrote : goal.returns-in_err-write_tasks-clause-wrote
unfolding picture
returns-in_err-write_tasks-clause-wrote g c =
    let t = c.args.trace.now in
    let w = c.args.window.now in
    let v = c.args.verdict in
    let rows = rows_wrote _ _ Boxes w t.set _ t.rows _ _ c.set.ensures c.rows.ensures.value c.in_ok-write_rows.ensures.wrote in
    wrote_then _ _ _ (base_text t w v) _ _ _ c.in_ok-write_base.ensures.wrote
    (wrote_then _ _ _ (rows_text Boxes t.set w t.rows) (tasks_text t w v ++ end_text t w v) _ _ rows
    (wrote_cut _ _ (tasks_text t w v) (end_text t w v) _ _ c.in_err-write_tasks.ensures.wrote c.from_residual-in_err-write_tasks.ensures.0))

pub returns-clause-wrote : goal.returns-clause-wrote
unfolding picture
returns-clause-wrote g c =
    let t = c.args.trace.now in
    let w = c.args.window.now in
    let v = c.args.verdict in
    let rows = rows_wrote _ _ Boxes w t.set _ t.rows _ _ c.set.ensures c.rows.ensures.value c.in_ok-write_rows.ensures.wrote in
    wrote_then _ _ _ (base_text t w v) _ _ _ c.in_ok-write_base.ensures.wrote
    (wrote_then _ _ _ (rows_text Boxes t.set w t.rows) (tasks_text t w v ++ end_text t w v) _ _ rows
    (wrote_then _ _ _ (tasks_text t w v) (end_text t w v) _ _ c.in_ok-write_tasks.ensures.wrote c.write_end.ensures.wrote))

pub returns-in_err-write_base-clause-cause : goal.returns-in_err-write_base-clause-cause
returns-in_err-write_base-clause-cause g c = cause_cut _ _ _ _ _ (le_refl _) c.in_err-write_base.ensures.cause

pub returns-in_err-write_rows-clause-cause : goal.returns-in_err-write_rows-clause-cause
returns-in_err-write_rows-clause-cause g c = cause_cut _ _ _ _ _ c.write_base.ensures.cause.later c.in_err-write_rows.ensures.cause

pub returns-in_err-write_tasks-clause-cause : goal.returns-in_err-write_tasks-clause-cause
returns-in_err-write_tasks-clause-cause g c = cause_cut _ _ _ _ _ (le_trans c.write_base.ensures.cause.later c.write_rows.ensures.cause.later)
    c.in_err-write_tasks.ensures.cause

pub returns-clause-cause : goal.returns-clause-cause
returns-clause-cause g c = cause_then _ _ _ _ (le_trans (le_trans c.write_base.ensures.cause.later c.write_rows.ensures.cause.later)
    c.write_tasks.ensures.cause.later) c.write_end.ensures.cause
