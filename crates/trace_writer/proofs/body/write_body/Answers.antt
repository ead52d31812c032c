use Rattle.std.proofs.Common.{le_refl, le_trans}
use Rattle.sched_edges.proofs.Wrote.{wrote_then, wrote_cut}
use Rattle.sched_edges.proofs.CauseLemmas.{cause_cut}
use Rattle.trace_writer.proofs.CauseLemmas.{no_answer}
use Rattle.trace_writer.proofs.TextLemmas.{wrote_again}
use Rattle.trace_writer.proofs.body.write_body.Goals as goal

pub returns-in_err-write_head-clause-wrote : goal.returns-in_err-write_head-clause-wrote
returns-in_err-write_head-clause-wrote g c = wrote_cut _ _ _ _ _ _ c.in_err-write_head.ensures.wrote c.from_residual.ensures.0

pub returns-in_err-write_tasks-clause-wrote : goal.returns-in_err-write_tasks-clause-wrote
returns-in_err-write_tasks-clause-wrote g c =
    wrote_then _ _ _ _ _ _ _ c.in_ok-write_head.ensures.wrote (wrote_cut _ _ _ _ _ _ c.in_err-write_tasks.ensures.wrote
    c.from_residual-in_err-write_tasks.ensures.0)

pub returns-in_err-count-clause-wrote : goal.returns-in_err-count-clause-wrote
returns-in_err-count-clause-wrote g c =
    wrote_then _ _ _ _ _ _ _ c.in_ok-write_head.ensures.wrote
    (wrote_then _ _ _ _ _ _ _ c.in_ok-write_tasks.ensures.wrote
    (wrote_cut _ _ _ _ _ _ c.in_err-count.ensures.wrote c.from_residual-in_err-count.ensures.0))

pub returns-in_err-write_totals-clause-wrote : goal.returns-in_err-write_totals-clause-wrote
returns-in_err-write_totals-clause-wrote g c =
    wrote_then _ _ _ _ _ _ _ c.in_ok-write_head.ensures.wrote
    (wrote_then _ _ _ _ _ _ _ c.in_ok-write_tasks.ensures.wrote
    (wrote_then _ _ _ _ _ _ _ c.in_ok-count.ensures.wrote
    (wrote_again _ _ _ _ _ (rw c.requires.told at c.in_err-write_totals.ensures.wrote)
    c.from_residual-in_err-write_totals.ensures.0)))

pub write_rows-requires-clause-names : goal.write_rows-requires-clause-names
write_rows-requires-clause-names g c = c.requires.names

pub write_rows-requires-clause-few : goal.write_rows-requires-clause-few
write_rows-requires-clause-few g c = c.requires.few

pub write_totals-requires : goal.write_totals-requires
write_totals-requires g c = record { totals = c.requires.totals }

pub returns-clause-wrote : goal.returns-clause-wrote
returns-clause-wrote g c =
    wrote_then _ _ _ _ _ _ _ c.in_ok-write_head.ensures.wrote
    (wrote_then _ _ _ _ _ _ _ c.in_ok-write_tasks.ensures.wrote
    (wrote_then _ _ _ _ _ _ _ c.in_ok-count.ensures.wrote
    (record { ok = (rw c.requires.told at c.in_ok-write_totals.ensures.wrote).ok; err = tt })))

-- ---- how many lines, and why it failed

pub returns-in_err-write_head-clause-count : goal.returns-in_err-write_head-clause-count
returns-in_err-write_head-clause-count g c = no_answer _ _ c.from_residual.ensures.0

pub returns-in_err-write_head-clause-cause : goal.returns-in_err-write_head-clause-cause
returns-in_err-write_head-clause-cause g c = cause_cut _ _ _ _ _ (le_refl _) c.in_err-write_head.ensures.cause

pub returns-in_err-write_tasks-clause-count : goal.returns-in_err-write_tasks-clause-count
returns-in_err-write_tasks-clause-count g c = no_answer _ _ c.from_residual-in_err-write_tasks.ensures.0

pub returns-in_err-write_tasks-clause-cause : goal.returns-in_err-write_tasks-clause-cause
returns-in_err-write_tasks-clause-cause g c = cause_cut _ _ _ _ _ c.write_head.ensures.cause.later c.in_err-write_tasks.ensures.cause

pub returns-in_err-count-clause-count : goal.returns-in_err-count-clause-count
returns-in_err-count-clause-count g c = no_answer _ _ c.from_residual-in_err-count.ensures.0

pub returns-in_err-count-clause-cause : goal.returns-in_err-count-clause-cause
returns-in_err-count-clause-cause g c = cause_cut _ _ _ _ _ (le_trans c.write_head.ensures.cause.later c.write_tasks.ensures.cause.later)
    c.in_err-count.ensures.cause

pub returns-in_err-write_totals-clause-count : goal.returns-in_err-write_totals-clause-count
returns-in_err-write_totals-clause-count g c = no_answer _ _ c.from_residual-in_err-write_totals.ensures.0

pub returns-in_err-write_totals-clause-cause : goal.returns-in_err-write_totals-clause-cause
returns-in_err-write_totals-clause-cause g c = cause_cut _ _ _ _ _ (le_trans (le_trans c.write_head.ensures.cause.later c.write_tasks.ensures.cause.later)
    c.write_rows.ensures.cause.later) c.in_err-write_totals.ensures.cause

pub returns-clause-count : goal.returns-clause-count
returns-clause-count g c = c.in_ok-count.ensures.count

pub returns-clause-cause : goal.returns-clause-cause
returns-clause-cause g c = record {
  later = le_trans (le_trans c.write_head.ensures.cause.later c.write_tasks.ensures.cause.later) (le_trans c.write_rows.ensures.cause.later
      c.write_totals.ensures.cause.later);
  failed = tt;
}
