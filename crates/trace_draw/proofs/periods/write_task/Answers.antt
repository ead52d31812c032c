use Rattle.std.proofs.Common.{le_refl}
use Rattle.std.specs.List.{concat}
use Rattle.sched_edges.proofs.Wrote.{wrote_then, wrote_cut}
use Rattle.trace_draw.specs.Shapes.{task_top}
use Rattle.trace_draw.specs.Periods.{title_lines}
use Rattle.trace_draw.proofs.Parts.{marks_text}
use Rattle.sched_edges.proofs.CauseLemmas.{cause_cut, cause_then}
use Rattle.trace_draw.proofs.periods.write_task.Goals as goal

pub returns-in_err-write_lines-clause-wrote : goal.returns-in_err-write_lines-clause-wrote
returns-in_err-write_lines-clause-wrote g c =
    let t = c.args.scene.now.trace.now in
    let j = c.args.task in
    let titles = rw (c.title_lines.ensures, c.task_top-top.ensures.value, c.processors.ensures.value, c.set.ensures) at c.in_err-write_lines.ensures.wrote in
    wrote_cut _ _ (concat (title_lines t c.args.scene.now.verdict j (task_top t.set.processors j))) (marks_text t c.args.scene.now.window.now j) _ _ titles
    c.from_residual.ensures.0

pub returns-clause-wrote : goal.returns-clause-wrote
returns-clause-wrote g c =
    let t = c.args.scene.now.trace.now in
    let j = c.args.task in
    let titles = rw (c.title_lines.ensures, c.task_top-top.ensures.value, c.processors.ensures.value, c.set.ensures) at c.in_ok-write_lines.ensures.wrote in
    wrote_then _ _ _ (concat (title_lines t c.args.scene.now.verdict j (task_top t.set.processors j))) (marks_text t c.args.scene.now.window.now j) _ _
    titles c.write_marks.ensures.wrote

pub returns-in_err-write_lines-clause-cause : goal.returns-in_err-write_lines-clause-cause
returns-in_err-write_lines-clause-cause g c = cause_cut _ _ _ _ _ (le_refl _) c.in_err-write_lines.ensures.cause

pub returns-clause-cause : goal.returns-clause-cause
returns-clause-cause g c = cause_then _ _ _ _ c.write_lines.ensures.cause.later c.write_marks.ensures.cause

pub title_lines-requires-clause-task : goal.title_lines-requires-clause-task
title_lines-requires-clause-task g c = c.requires.task

pub write_marks-requires-clause-window : goal.write_marks-requires-clause-window
write_marks-requires-clause-window g c = c.requires.window

pub write_marks-requires-clause-task : goal.write_marks-requires-clause-task
write_marks-requires-clause-task g c = c.requires.task
