use Rattle.std.proofs.Common.{le_refl, le_trans}
use Rattle.std.specs.List.{concat}
use Rattle.sched_edges.proofs.Wrote.{wrote_then, wrote_cut}
use Rattle.trace_draw.specs.Head.{style_lines, opening_lines, caption_lines}
use Rattle.sched_edges.proofs.CauseLemmas.{cause_cut, cause_then}
use Rattle.trace_draw.proofs.head.write_head.Goals as goal

pub returns-in_err-write_lines-clause-wrote : goal.returns-in_err-write_lines-clause-wrote
returns-in_err-write_lines-clause-wrote g c =
    let above = concat (opening_lines c.args.set.now c.args.window.now c.args.verdict) in
    let opening = rw c.opening_lines.ensures at c.in_err-write_lines.ensures.wrote in
    wrote_cut _ _ above _ _ _ opening c.from_residual.ensures.0

pub returns-in_err-write_style-clause-wrote : goal.returns-in_err-write_style-clause-wrote
returns-in_err-write_style-clause-wrote g c =
    let above = concat (opening_lines c.args.set.now c.args.window.now c.args.verdict) in
    let caption = concat (caption_lines c.args.set.now c.args.window.now c.args.verdict c.args.hint.now) in
    let opening = rw c.opening_lines.ensures at c.in_ok-write_lines.ensures.wrote in
    wrote_then _ _ _ above _ _ _ opening
    (wrote_cut _ _ (concat style_lines) caption _ _ c.in_err-write_style.ensures.wrote c.from_residual-in_err-write_style.ensures.0)

pub returns-clause-wrote : goal.returns-clause-wrote
returns-clause-wrote g c =
    let above = concat (opening_lines c.args.set.now c.args.window.now c.args.verdict) in
    let caption = concat (caption_lines c.args.set.now c.args.window.now c.args.verdict c.args.hint.now) in
    let opening = rw c.opening_lines.ensures at c.in_ok-write_lines.ensures.wrote in
    let lines = rw c.caption_lines.ensures at c.write_lines-2.ensures.wrote in
    wrote_then _ _ _ above _ _ _ opening
    (wrote_then _ _ _ (concat style_lines) caption _ _ c.in_ok-write_style.ensures.wrote lines)

pub returns-in_err-write_lines-clause-cause : goal.returns-in_err-write_lines-clause-cause
returns-in_err-write_lines-clause-cause g c = cause_cut _ _ _ _ _ (le_refl _) c.in_err-write_lines.ensures.cause

pub returns-in_err-write_style-clause-cause : goal.returns-in_err-write_style-clause-cause
returns-in_err-write_style-clause-cause g c = cause_cut _ _ _ _ _ c.write_lines.ensures.cause.later c.in_err-write_style.ensures.cause

pub returns-clause-cause : goal.returns-clause-cause
returns-clause-cause g c = cause_then _ _ _ _ (le_trans c.write_lines.ensures.cause.later c.write_style.ensures.cause.later) c.write_lines-2.ensures.cause

pub opening_lines-requires : goal.opening_lines-requires
opening_lines-requires g c = c.requires.window

pub caption_lines-requires-clause-window : goal.caption_lines-requires-clause-window
caption_lines-requires-clause-window g c = c.requires.window
