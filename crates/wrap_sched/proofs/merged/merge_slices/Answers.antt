use Rattle.std.proofs.Common.{arith, length, ◌<◌, ◌≤◌}
use Rattle.std.proofs.lemmas.Result.{IfOk-from_err}
use Rattle.wrap_sched.proofs.MergedLemmas.{all_lawful, all_merged_rows, next_before, none_before}
use Rattle.wrap_sched.proofs.ValidRows.{point_at_zero}
use Rattle.wrap_sched.proofs.merged.merge_slices.Goals as goal

pub slices-init : goal.slices-init
slices-init c = record {
  at = λ l. point_at_zero c.args.slices.now.set.now.tasks;
  within = omega arith;
  before = none_before c.args.slices.now.set.now c.args.slices.now.scale c.know_lawful.ensures.lawful c.requires.slices.scale c.args.none
      c.args.slices.now.pattern.items c.requires.slices.pattern c.requires.none c.requires.start;
}

pub merge_slice-requires-clause-before : goal.merge_slice-requires-clause-before
merge_slice-requires-clause-before c =
    let before = c.slices.invariant.before in
    (before.done, before.count, before.so_far)

pub slices-preserved : goal.slices-preserved
slices-preserved c =
    let s = c.args.slices.now.set.now in
    let next = c.next_point-y.ensures in
    let early : c.slices.x < s.horizon = (let on = c.slices-test.true in let is = c.horizon.ensures.value in omega (arith, on, is)) in
    let before = c.slices.invariant.before in
    record {
      at = next.at;
      within = next.within;
      before = next_before s c.args.slices.now.scale c.know_lawful.ensures.lawful c.requires.slices.scale (length c.args.slices.now.pattern.items)
          c.slices.x c.next_point-y.result c.slices.merged _
          (c.slices.invariant.at early) next before (c.in_ok-merged.ensures before.done before.count before.so_far);
    }

pub returns-clause-rows : goal.returns-clause-rows
returns-clause-rows c =
    let s = c.args.slices.now.set.now in
    let past : s.horizon ≤ c.slices.x = (let off = c.slices-test.false in let is = c.horizon.ensures.value in omega (arith, off, is)) in
    all_merged_rows s c.args.slices.now.scale c.know_lawful.ensures.lawful c.requires.slices.scale c.requires.slices.fits
    (length c.args.slices.now.pattern.items) c.slices.x c.slices.merged c.slices.invariant.before past

pub returns-clause-lawful : goal.returns-clause-lawful
returns-clause-lawful c =
    let s = c.args.slices.now.set.now in
    let past : s.horizon ≤ c.slices.x = (let off = c.slices-test.false in let is = c.horizon.ensures.value in omega (arith, off, is)) in
    all_lawful s c.args.slices.now.scale c.know_lawful.ensures.lawful c.requires.slices.scale c.requires.slices.fits
    (length c.args.slices.now.pattern.items) c.slices.x c.slices.merged c.slices.invariant.before past c.requires.few

pub next_point-y-requires : goal.next_point-y-requires
next_point-y-requires c =
    let on = c.slices-test.true in
    let is = c.horizon.ensures.value in
    omega (arith, on, is)

pub merge_slice-requires-clause-forward : goal.merge_slice-requires-clause-forward
merge_slice-requires-clause-forward c = c.next_point-y.ensures.above

pub merge_slice-requires-clause-early : goal.merge_slice-requires-clause-early
merge_slice-requires-clause-early c = c.next_point-y.ensures.within

pub returns-in_err-merged-clause-rows : goal.returns-in_err-merged-clause-rows
returns-in_err-merged-clause-rows c = IfOk-from_err _ _ c.from_residual.ensures.0

pub returns-in_err-merged-clause-lawful : goal.returns-in_err-merged-clause-lawful
returns-in_err-merged-clause-lawful c = IfOk-from_err _ _ c.from_residual.ensures.0

pub slices-smaller : goal.slices-smaller
slices-smaller c =
    let above = c.next_point-y.ensures.above in
    let within = c.next_point-y.ensures.within in
    omega (arith, above, within)
