use Rattle.std.proofs.Common.{◌<◌, ◌≤◌, length, ap, arith, le_refl, le_trans}
use Rattle.std.specs.List.{enumerate_from}
use Rattle.std.proofs.lemmas.List.{take_all}
use Rattle.std.proofs.lemmas.List.FromFn.{length-enumerate_from}
use Rattle.sched_edges.proofs.Wrote.{item_written, wrote_item}
use Rattle.trace_format.specs.Text.{mets_of_task}
use Rattle.trace_writer.specs.Parts.{text_of}
use Rattle.sched_edges.proofs.CauseLemmas.{cause_cut, took_none}
use Rattle.trace_writer.proofs.MetLemmas.{mets_told}
use Rattle.trace_writer.proofs.NameLemmas.{short_name}
use Rattle.trace_writer.proofs.TotalLemmas.{numbered}
use Rattle.trace_writer.proofs.TextLemmas.{texts_of}
use Rattle.trace_writer.proofs.mets.write_mets.Goals as goal

pub loop-j-init : goal.loop-j-init
loop-j-init g c = (λ scale rows done. took_none _, le_refl _)

pub returns-in_err-write_mets_of_task-clause-wrote : goal.returns-in_err-write_mets_of_task-clause-wrote
returns-in_err-write_mets_of_task-clause-wrote g c = λ scale rows done.
    let s = c.args.set.now in
    let j = c.loop-j.j in
    let items = ap length c.tasks-task-items.ensures.value in
    let within : j < length s.tasks = omega (arith, items, c.loop-j-test.true) in
    let among : j < length (enumerate_from 0 s.tasks) = omega (arith, within, length-enumerate_from 0 s.tasks) in
    let is = rw c.tasks-task-items.ensures.value at c.task-item.is in
    let told = mets_told scale s rows c.args.finishes.now j c.task-item.result c.requires.room within is done in
    let wrote = rw (c.as_slice.ensures.bytes, c.of_task.ensures, told) at c.in_err-write_mets_of_task.ensures.wrote in
    rw (texts_of (mets_of_task scale s rows) (enumerate_from 0 s.tasks))
    (wrote_item (λ p. text_of (mets_of_task scale s rows p)) (enumerate_from 0 s.tasks) j (j, c.task-item.result) _ _ _ _ _ among
    (numbered s.tasks j c.task-item.result within is) (c.loop-j.invariant.0 scale rows done) wrote c.from_residual.ensures.0)

pub loop-j-preserved : goal.loop-j-preserved
loop-j-preserved g c =
    let s = c.args.set.now in
    let j = c.loop-j.j in
    let items = ap length c.tasks-task-items.ensures.value in
    let within : j < length s.tasks = omega (arith, items, c.loop-j-test.true) in
    let among : j < length (enumerate_from 0 s.tasks) = omega (arith, within, length-enumerate_from 0 s.tasks) in
    let is = rw c.tasks-task-items.ensures.value at c.task-item.is in (
      λ scale rows done. (
          let told = mets_told scale s rows c.args.finishes.now j c.task-item.result c.requires.room within is done in
          let wrote = rw (c.as_slice.ensures.bytes, c.of_task.ensures, told) at c.in_ok-write_mets_of_task.ensures.wrote in
          item_written (λ p. text_of (mets_of_task scale s rows p)) (enumerate_from 0 s.tasks) j (j, c.task-item.result) _ _ _ among
          (numbered s.tasks j c.task-item.result within is) (c.loop-j.invariant.0 scale rows done) wrote.ok),
      le_trans c.loop-j.invariant.1 c.write_mets_of_task.ensures.cause.later,
    )

pub returns-clause-wrote : goal.returns-clause-wrote
returns-clause-wrote g c = λ scale rows done.
    let tasks = c.args.set.now.tasks in
    let items = ap length c.tasks-task-items.ensures.value in
    let past : length (enumerate_from 0 tasks) ≤ c.loop-j.j = omega (arith, items, c.loop-j-test.false, length-enumerate_from 0 tasks) in
    let all = take_all c.loop-j.j (enumerate_from 0 tasks) past in
    rw (texts_of (mets_of_task scale c.args.set.now rows) (enumerate_from 0 tasks)) (record { ok = rw all at (c.loop-j.invariant.0 scale rows done); err = tt })

pub returns-in_err-write_mets_of_task-clause-cause : goal.returns-in_err-write_mets_of_task-clause-cause
returns-in_err-write_mets_of_task-clause-cause g c = cause_cut _ _ _ _ _ c.loop-j.invariant.1 c.in_err-write_mets_of_task.ensures.cause

pub returns-clause-cause : goal.returns-clause-cause
returns-clause-cause g c = record { later = c.loop-j.invariant.1; failed = tt }

pub write_mets_of_task-requires : goal.write_mets_of_task-requires
write_mets_of_task-requires g c = short_name c.as_slice.result.now c.as_slice.ensures.lawful
