use Rattle.std.proofs.Common.{le_refl, le_trans}
use Rattle.sched_edges.proofs.Wrote.{wrote_then, wrote_cut}
use Rattle.sched_edges.proofs.CauseLemmas.{cause_cut, cause_then}
use Rattle.tree_text.proofs.text.write_tree.Goals as goal

pub returns-in_err-write_head-clause-wrote : goal.returns-in_err-write_head-clause-wrote
returns-in_err-write_head-clause-wrote g c = wrote_cut _ _ _ _ _ _ c.in_err-write_head.ensures.wrote c.from_residual.ensures.0

pub returns-in_err-write_head-clause-cause : goal.returns-in_err-write_head-clause-cause
returns-in_err-write_head-clause-cause g c = cause_cut _ _ _ _ _ (le_refl _) c.in_err-write_head.ensures.cause

pub returns-in_err-write_tasks-clause-wrote : goal.returns-in_err-write_tasks-clause-wrote
returns-in_err-write_tasks-clause-wrote g c =
    let tasks = rw c.set.ensures.value at c.in_err-write_tasks.ensures.wrote in
    wrote_then _ _ _ _ _ _ _ c.in_ok-write_head.ensures.wrote (wrote_cut _ _ _ _ _ _ tasks c.from_residual-in_err-write_tasks.ensures.0)

pub returns-in_err-write_tasks-clause-cause : goal.returns-in_err-write_tasks-clause-cause
returns-in_err-write_tasks-clause-cause g c = cause_cut _ _ _ _ _ c.write_head.ensures.cause.later c.in_err-write_tasks.ensures.cause

pub returns-in_err-write_idles-clause-wrote : goal.returns-in_err-write_idles-clause-wrote
returns-in_err-write_idles-clause-wrote g c =
    let tasks = rw c.set.ensures.value at c.in_ok-write_tasks.ensures.wrote in
    let idles = rw c.tree.ensures.value at c.in_err-write_idles.ensures.wrote in
    wrote_then _ _ _ _ _ _ _ c.in_ok-write_head.ensures.wrote
    (wrote_then _ _ _ _ _ _ _ tasks (wrote_cut _ _ _ _ _ _ idles c.from_residual-in_err-write_idles.ensures.0))

pub returns-in_err-write_idles-clause-cause : goal.returns-in_err-write_idles-clause-cause
returns-in_err-write_idles-clause-cause g c =
    cause_cut _ _ _ _ _ (le_trans c.write_head.ensures.cause.later c.write_tasks.ensures.cause.later) c.in_err-write_idles.ensures.cause

pub returns-in_err-write_levels-clause-wrote : goal.returns-in_err-write_levels-clause-wrote
returns-in_err-write_levels-clause-wrote g c =
    let tasks = rw c.set.ensures.value at c.in_ok-write_tasks.ensures.wrote in
    let idles = rw c.tree.ensures.value at c.in_ok-write_idles.ensures.wrote in
    wrote_then _ _ _ _ _ _ _ c.in_ok-write_head.ensures.wrote
    (wrote_then _ _ _ _ _ _ _ tasks
    (wrote_then _ _ _ _ _ _ _ idles (wrote_cut _ _ _ _ _ _ c.in_err-write_levels.ensures.wrote c.from_residual-in_err-write_levels.ensures.0)))

pub returns-in_err-write_levels-clause-cause : goal.returns-in_err-write_levels-clause-cause
returns-in_err-write_levels-clause-cause g c =
    cause_cut _ _ _ _ _ (le_trans (le_trans c.write_head.ensures.cause.later c.write_tasks.ensures.cause.later) c.write_idles.ensures.cause.later)
    c.in_err-write_levels.ensures.cause

pub returns-clause-wrote : goal.returns-clause-wrote
returns-clause-wrote g c =
    let tasks = rw c.set.ensures.value at c.in_ok-write_tasks.ensures.wrote in
    let idles = rw c.tree.ensures.value at c.in_ok-write_idles.ensures.wrote in
    let end = rw (c.as_slice.ensures.bytes, c.number_line-levels.ensures, c.from.ensures, c.levels.ensures.value, c.tree-2.ensures.value) at
    c.write_all.ensures.wrote in
    wrote_then _ _ _ _ _ _ _ c.in_ok-write_head.ensures.wrote
    (wrote_then _ _ _ _ _ _ _ tasks
    (wrote_then _ _ _ _ _ _ _ idles
    (wrote_then _ _ _ _ _ _ _ c.in_ok-write_levels.ensures.wrote end)))

pub returns-clause-cause : goal.returns-clause-cause
returns-clause-cause g c =
    cause_then _ _ _ _ (le_trans (le_trans c.write_head.ensures.cause.later c.write_tasks.ensures.cause.later) (le_trans c.write_idles.ensures.cause.later
    c.write_levels.ensures.cause.later)) c.write_all.ensures.cause
