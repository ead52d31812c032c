use Rattle.std.proofs.Common.{◌++◌, le_refl, le_trans}
use Rattle.sched_edges.proofs.Wrote.{wrote_then, wrote_cut}
use Rattle.trace_draw.specs.Head.{head_text, lanes_text, axis_text}
use Rattle.trace_draw.specs.Picture.{hint_text}
use Rattle.sched_edges.proofs.CauseLemmas.{cause_cut, cause_then}
use Rattle.trace_draw.proofs.picture.write_base.Goals as goal

pub returns-in_err-write_head-clause-wrote : goal.returns-in_err-write_head-clause-wrote
returns-in_err-write_head-clause-wrote g c =
    let s = c.args.scene.now.trace.now.set in
    let w = c.args.scene.now.window.now in
    let head = rw (c.set-set.ensures, c.as_slice.ensures.bytes, c.hint_text-hint.ensures.text) at c.in_err-write_head.ensures.wrote in
    wrote_cut _ _ (head_text s w c.args.scene.now.verdict (hint_text c.args.scene.now.trace.now w)) (lanes_text s ++ axis_text s w) _ _ head
    c.from_residual.ensures.0

pub returns-in_err-write_lanes-clause-wrote : goal.returns-in_err-write_lanes-clause-wrote
returns-in_err-write_lanes-clause-wrote g c =
    let s = c.args.scene.now.trace.now.set in
    let w = c.args.scene.now.window.now in
    let head = rw (c.set-set.ensures, c.as_slice.ensures.bytes, c.hint_text-hint.ensures.text) at c.in_ok-write_head.ensures.wrote in
    let lanes = rw c.set-set.ensures at c.in_err-write_lanes.ensures.wrote in
    wrote_then _ _ _ (head_text s w c.args.scene.now.verdict (hint_text c.args.scene.now.trace.now w)) (lanes_text s ++ axis_text s w) _ _ head
    (wrote_cut _ _ (lanes_text s) (axis_text s w) _ _ lanes c.from_residual-in_err-write_lanes.ensures.0)

pub returns-clause-wrote : goal.returns-clause-wrote
returns-clause-wrote g c =
    let s = c.args.scene.now.trace.now.set in
    let w = c.args.scene.now.window.now in
    let head = rw (c.set-set.ensures, c.as_slice.ensures.bytes, c.hint_text-hint.ensures.text) at c.in_ok-write_head.ensures.wrote in
    let lanes = rw c.set-set.ensures at c.in_ok-write_lanes.ensures.wrote in
    let axis = rw c.set-set.ensures at c.write_axis.ensures.wrote in
    wrote_then _ _ _ (head_text s w c.args.scene.now.verdict (hint_text c.args.scene.now.trace.now w)) (lanes_text s ++ axis_text s w) _ _ head
    (wrote_then _ _ _ (lanes_text s) (axis_text s w) _ _ lanes axis)

pub returns-in_err-write_head-clause-cause : goal.returns-in_err-write_head-clause-cause
returns-in_err-write_head-clause-cause g c = cause_cut _ _ _ _ _ (le_refl _) c.in_err-write_head.ensures.cause

pub returns-in_err-write_lanes-clause-cause : goal.returns-in_err-write_lanes-clause-cause
returns-in_err-write_lanes-clause-cause g c = cause_cut _ _ _ _ _ c.write_head.ensures.cause.later c.in_err-write_lanes.ensures.cause

pub returns-clause-cause : goal.returns-clause-cause
returns-clause-cause g c = cause_then _ _ _ _ (le_trans c.write_head.ensures.cause.later c.write_lanes.ensures.cause.later) c.write_axis.ensures.cause

pub write_head-requires-clause-window : goal.write_head-requires-clause-window
write_head-requires-clause-window g c = c.requires.window

pub write_axis-requires : goal.write_axis-requires
write_axis-requires g c = c.requires.window
