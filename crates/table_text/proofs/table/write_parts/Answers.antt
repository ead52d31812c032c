use Rattle.std.proofs.Common.{◌++◌, ◌*◌, ◌/◌, le_refl, le_trans}
use Rattle.sched_edges.proofs.Wrote.{wrote_then, wrote_cut}
use Rattle.table_text.specs.Lines.{width_of}
use Rattle.table_text.specs.Table.{head_text, processors_text, fields_text, table_with}
use Rattle.table_text.proofs.Parts.{tasks_text, lanes_text}
use Rattle.sched_edges.proofs.CauseLemmas.{cause_cut, cause_then}
use Rattle.table_text.proofs.table.write_parts.Goals as goal

pub returns-in_err-write_head-clause-wrote : goal.returns-in_err-write_head-clause-wrote
unfolding table_with
returns-in_err-write_head-clause-wrote g c =
    let s = c.args.set.now in
    let lanes = c.args.rows.now.lanes in
    let head = rw (c.width_of.ensures.value, c.steps_of.ensures.value) at c.in_err-write_head.ensures.wrote in
    wrote_cut _ _ (head_text (width_of (s.horizon * c.args.scale / c.args.step))) (tasks_text s ++ (lanes_text c.args.step lanes ++ (processors_text
    lanes ++ fields_text s c.args.scale c.args.step (c.args.from * c.args.scale)))) _ _ head
    c.from_residual.ensures.0

pub returns-in_err-write_tasks-clause-wrote : goal.returns-in_err-write_tasks-clause-wrote
unfolding table_with
returns-in_err-write_tasks-clause-wrote g c =
    let s = c.args.set.now in
    let lanes = c.args.rows.now.lanes in
    let head = rw (c.width_of.ensures.value, c.steps_of.ensures.value) at c.in_ok-write_head.ensures.wrote in
    wrote_then _ _ _ (head_text (width_of (s.horizon * c.args.scale / c.args.step))) _ _ _ head
    (wrote_cut _ _ (tasks_text s) (lanes_text c.args.step lanes ++ (processors_text lanes ++ fields_text s c.args.scale c.args.step
    (c.args.from * c.args.scale))) _ _ c.in_err-write_tasks.ensures.wrote
    c.from_residual-in_err-write_tasks.ensures.0)

pub returns-in_err-write_lanes-clause-wrote : goal.returns-in_err-write_lanes-clause-wrote
unfolding table_with
returns-in_err-write_lanes-clause-wrote g c =
    let s = c.args.set.now in
    let lanes = c.args.rows.now.lanes in
    let head = rw (c.width_of.ensures.value, c.steps_of.ensures.value) at c.in_ok-write_head.ensures.wrote in
    wrote_then _ _ _ (head_text (width_of (s.horizon * c.args.scale / c.args.step))) _ _ _ head
    (wrote_then _ _ _ (tasks_text s) _ _ _ c.in_ok-write_tasks.ensures.wrote
    (wrote_cut _ _ (lanes_text c.args.step lanes) (processors_text lanes ++ fields_text s c.args.scale c.args.step (c.args.from * c.args.scale)) _ _
    c.in_err-write_lanes.ensures.wrote c.from_residual-in_err-write_lanes.ensures.0))

pub returns-in_err-write_processors-clause-wrote : goal.returns-in_err-write_processors-clause-wrote
unfolding table_with
returns-in_err-write_processors-clause-wrote g c =
    let s = c.args.set.now in
    let lanes = c.args.rows.now.lanes in
    let head = rw (c.width_of.ensures.value, c.steps_of.ensures.value) at c.in_ok-write_head.ensures.wrote in
    wrote_then _ _ _ (head_text (width_of (s.horizon * c.args.scale / c.args.step))) _ _ _ head
    (wrote_then _ _ _ (tasks_text s) _ _ _ c.in_ok-write_tasks.ensures.wrote
    (wrote_then _ _ _ (lanes_text c.args.step lanes) _ _ _ c.in_ok-write_lanes.ensures.wrote
    (wrote_cut _ _ (processors_text lanes) (fields_text s c.args.scale c.args.step (c.args.from * c.args.scale)) _ _ c.in_err-write_processors.ensures.wrote
    c.from_residual-in_err-write_processors.ensures.0)))

pub returns-clause-wrote : goal.returns-clause-wrote
unfolding table_with
returns-clause-wrote g c =
    let s = c.args.set.now in
    let lanes = c.args.rows.now.lanes in
    let head = rw (c.width_of.ensures.value, c.steps_of.ensures.value) at c.in_ok-write_head.ensures.wrote in
    wrote_then _ _ _ (head_text (width_of (s.horizon * c.args.scale / c.args.step))) _ _ _ head
    (wrote_then _ _ _ (tasks_text s) _ _ _ c.in_ok-write_tasks.ensures.wrote
    (wrote_then _ _ _ (lanes_text c.args.step lanes) _ _ _ c.in_ok-write_lanes.ensures.wrote
    (wrote_then _ _ _ (processors_text lanes) (fields_text s c.args.scale c.args.step (c.args.from * c.args.scale)) _ _
    c.in_ok-write_processors.ensures.wrote c.write_fields.ensures.wrote)))

pub returns-in_err-write_head-clause-cause : goal.returns-in_err-write_head-clause-cause
returns-in_err-write_head-clause-cause g c = cause_cut _ _ _ _ _ (le_refl _) c.in_err-write_head.ensures.cause

pub returns-in_err-write_tasks-clause-cause : goal.returns-in_err-write_tasks-clause-cause
returns-in_err-write_tasks-clause-cause g c = cause_cut _ _ _ _ _ c.write_head.ensures.cause.later c.in_err-write_tasks.ensures.cause

pub returns-in_err-write_lanes-clause-cause : goal.returns-in_err-write_lanes-clause-cause
returns-in_err-write_lanes-clause-cause g c = cause_cut _ _ _ _ _ (le_trans c.write_head.ensures.cause.later c.write_tasks.ensures.cause.later)
    c.in_err-write_lanes.ensures.cause

pub returns-in_err-write_processors-clause-cause : goal.returns-in_err-write_processors-clause-cause
returns-in_err-write_processors-clause-cause g c = cause_cut _ _ _ _ _ (le_trans (le_trans c.write_head.ensures.cause.later
    c.write_tasks.ensures.cause.later) c.write_lanes.ensures.cause.later) c.in_err-write_processors.ensures.cause

pub returns-clause-cause : goal.returns-clause-cause
returns-clause-cause g c = cause_then _ _ _ _ (le_trans (le_trans (le_trans c.write_head.ensures.cause.later c.write_tasks.ensures.cause.later)
    c.write_lanes.ensures.cause.later) c.write_processors.ensures.cause.later) c.write_fields.ensures.cause
