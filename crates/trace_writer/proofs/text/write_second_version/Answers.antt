use Rattle.std.proofs.Common.{le_refl, le_trans}
use Rattle.sched_edges.proofs.Wrote.{wrote_then, wrote_cut}
use Rattle.trace_format.specs.declared.versions.Version.TheVariants.{Two}
use Rattle.sched_base.specs.Tables.{all_rows}
use Rattle.sched_edges.proofs.CauseLemmas.{cause_cut, cause_then}
use Rattle.trace_writer.proofs.TextLemmas.{trace_parts}
use Rattle.trace_writer.proofs.text.write_second_version.Goals as goal

pub returns-in_err-count-clause-wrote : goal.returns-in_err-count-clause-wrote
returns-in_err-count-clause-wrote g c =
    rw (trace_parts Two c.args.set.now c.args.scale (all_rows (g.R.ShownRows.lanes c.args.rows.now)))
    (wrote_cut _ _ _ _ _ _ c.in_err-count.ensures.wrote c.from_residual.ensures.0)

pub returns-in_err-write_mets-clause-wrote : goal.returns-in_err-write_mets-clause-wrote
returns-in_err-write_mets-clause-wrote g c =
    rw (trace_parts Two c.args.set.now c.args.scale (all_rows (g.R.ShownRows.lanes c.args.rows.now)))
    (wrote_then _ _ _ _ _ _ _ c.in_ok-count.ensures.wrote
    (wrote_cut _ _ _ _ _ _ (c.in_err-write_mets.ensures.wrote c.args.scale (all_rows (g.R.ShownRows.lanes c.args.rows.now)) c.note_rows.ensures.done)
    c.from_residual-in_err-write_mets.ensures.0))

pub returns-clause-wrote : goal.returns-clause-wrote
returns-clause-wrote g c =
    let end = rw (c.as_slice.ensures.bytes, c.number_line-line.ensures, c.from.ensures, c.in_ok-count.ensures.count) at c.write_all.ensures.wrote in
    rw (trace_parts Two c.args.set.now c.args.scale (all_rows (g.R.ShownRows.lanes c.args.rows.now)))
    (wrote_then _ _ _ _ _ _ _ c.in_ok-count.ensures.wrote
    (wrote_then _ _ _ _ _ _ _ (c.in_ok-write_mets.ensures.wrote c.args.scale (all_rows (g.R.ShownRows.lanes c.args.rows.now)) c.note_rows.ensures.done) end))

pub returns-in_err-count-clause-cause : goal.returns-in_err-count-clause-cause
returns-in_err-count-clause-cause g c = cause_cut _ _ _ _ _ (le_refl _) c.in_err-count.ensures.cause

pub returns-in_err-write_mets-clause-cause : goal.returns-in_err-write_mets-clause-cause
returns-in_err-write_mets-clause-cause g c = cause_cut _ _ _ _ _ c.write_body.ensures.cause.later c.in_err-write_mets.ensures.cause

pub returns-clause-cause : goal.returns-clause-cause
returns-clause-cause g c = cause_then _ _ _ _ (le_trans c.write_body.ensures.cause.later c.write_mets.ensures.cause.later) c.write_all.ensures.cause

pub write_body-requires-clause-names : goal.write_body-requires-clause-names
write_body-requires-clause-names g c = c.requires.names

pub write_body-requires-clause-few : goal.write_body-requires-clause-few
write_body-requires-clause-few g c = c.requires.few

pub write_body-requires-clause-totals : goal.write_body-requires-clause-totals
write_body-requires-clause-totals g c = c.requires.totals

pub write_mets-requires : goal.write_mets-requires
write_mets-requires g c = record { room = c.note_rows.ensures.room }

pub write_body-requires-clause-told : goal.write_body-requires-clause-told
write_body-requires-clause-told g c = c.requires.told
