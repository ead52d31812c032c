use Rattle.std.proofs.Common.{le_refl}
use Rattle.std.specs.List.{flat_map}
use Rattle.sched_edges.proofs.Wrote.{wrote_then, wrote_cut}
use Rattle.table_text.specs.Lines.{task_line}
use Rattle.sched_edges.proofs.CauseLemmas.{cause_cut, cause_then}
use Rattle.table_text.proofs.table.write_tasks.Goals as goal

pub returns-in_err-write_task_lines-clause-wrote : goal.returns-in_err-write_task_lines-clause-wrote
returns-in_err-write_task_lines-clause-wrote g c =
    wrote_cut _ _ (flat_map task_line c.args.set.now.tasks) _ _ _ c.in_err-write_task_lines.ensures.wrote c.from_residual.ensures.0

pub returns-clause-wrote : goal.returns-clause-wrote
returns-clause-wrote g c = wrote_then _ _ _ (flat_map task_line c.args.set.now.tasks) _ _ _ c.in_ok-write_task_lines.ensures.wrote c.write_all.ensures.wrote

pub returns-in_err-write_task_lines-clause-cause : goal.returns-in_err-write_task_lines-clause-cause
returns-in_err-write_task_lines-clause-cause g c = cause_cut _ _ _ _ _ (le_refl _) c.in_err-write_task_lines.ensures.cause

pub returns-clause-cause : goal.returns-clause-cause
returns-clause-cause g c = cause_then _ _ _ _ c.write_task_lines.ensures.cause.later c.write_all.ensures.cause
