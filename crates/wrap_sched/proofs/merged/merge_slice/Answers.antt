use Rattle.std.proofs.Common.{List, ap, arith, length, map, subst, sym, ◌*◌, ◌+◌, ◌++◌, ◌∙◌}
use Rattle.sched_base.specs.Tables.{IsRound, end_after, with_round}
use Rattle.sched_base.specs.declared.rows.Row.{Row}
use Rattle.sched_base.specs.Lanes.{lanes_of}
use Rattle.merged_rows.specs.Merging.{merged}
use Rattle.wrap_sched.specs.Steps.{rates}
use Rattle.wrap_sched.proofs.MergedLemmas.{first_part, last_part, next_part, part_round, part_whole}
use Rattle.wrap_sched.proofs.TableLemmas.{item_at, item_bounds, item_fits, item_holders, next_rows, rows_up_to, written_rows}
use Rattle.wrap_sched.proofs.merged.merge_slice.Goals as goal

pub loop-round-init : goal.loop-round-init
loop-round-init c = λ done count up.
    first_part c.args.slices.now.set.now c.args.slices.now.scale c.know_lawful.ensures.lawful c.requires.slices.scale c.args.x c.args.y c.requires.forward
    count done c.args.before up

pub write_rows-requires : goal.write_rows-requires
write_rows-requires c =
    let s = c.args.slices.now.set.now in
    let lawful = c.know_lawful.ensures.lawful in
    let it = item_at s.processors c.args.slices.now.scale (rates c.args.slices.now.scale s.tasks) c.deref-round-items.result.now c.loop-round.round-index
    c.round-item.result (c.deref-round-items.ensures.value ∙ c.requires.slices.pattern) c.loop-round-test.true c.round-item.is in
    let (done, count, up) = c.requires.before in
    let part = c.loop-round.invariant done count up in
    let b = item_bounds s c.args.slices.now.scale lawful c.requires.slices.scale c.args.x c.args.y c.requires.forward (lanes_of s.processors
    (done ++ rows_up_to s c.args.slices.now.scale c.args.x c.args.y c.loop-round.round-index)) c.loop-round.round-index part.reached c.round-item.result
    it in
    let at = ap (λ n. n * c.args.slices.now.scale) c.from.ensures in
    record {
      forward = c.requires.forward;
      places = omega (arith, b.0);
      fits = item_fits s c.args.slices.now.scale lawful c.requires.slices.scale c.args.x c.args.y c.requires.forward c.loop-round.round-index
          c.round-item.result it _ at c.requires.early c.requires.slices.scale_fits b.1;
      holders = item_holders s c.args.slices.now.scale lawful c.requires.slices.scale c.args.x c.args.y c.requires.forward c.loop-round.round-index
          c.round-item.result it;
      rows = omega arith;
    }

pub with_rows-requires-clause-whole : goal.with_rows-requires-clause-whole
with_rows-requires-clause-whole c =
    let s = c.args.slices.now.set.now in
    let lawful = c.know_lawful.ensures.lawful in
    let it = item_at s.processors c.args.slices.now.scale (rates c.args.slices.now.scale s.tasks) c.deref-round-items.result.now c.loop-round.round-index
    c.round-item.result (c.deref-round-items.ensures.value ∙ c.requires.slices.pattern) c.loop-round-test.true c.round-item.is in
    let (done, count, up) = c.requires.before in
    let rows_are = c.write_rows.ensures ∙ written_rows s c.args.slices.now.scale lawful c.requires.slices.scale c.args.x c.args.y c.requires.forward
    c.loop-round.round-index c.round-item.result it _ (ap (λ n. n * c.args.slices.now.scale) c.from.ensures) in
    ap length rows_are
    ∙ part_whole s c.args.slices.now.scale lawful c.requires.slices.scale c.args.x c.args.y c.requires.forward count c.requires.slices.fits c.requires.early
    c.requires.slices.scale_fits c.loop-round.round-index
    (done ++ rows_up_to s c.args.slices.now.scale c.args.x c.args.y c.loop-round.round-index) c.loop-round.merged (c.loop-round.invariant done count up)
    c.round-item.result it

pub with_rows-requires-clause-round : goal.with_rows-requires-clause-round
with_rows-requires-clause-round c =
    let s = c.args.slices.now.set.now in
    let lawful = c.know_lawful.ensures.lawful in
    let it = item_at s.processors c.args.slices.now.scale (rates c.args.slices.now.scale s.tasks) c.deref-round-items.result.now c.loop-round.round-index
    c.round-item.result (c.deref-round-items.ensures.value ∙ c.requires.slices.pattern) c.loop-round-test.true c.round-item.is in
    let (done, count, up) = c.requires.before in
    let rows_are = c.write_rows.ensures ∙ written_rows s c.args.slices.now.scale lawful c.requires.slices.scale c.args.x c.args.y c.requires.forward
    c.loop-round.round-index c.round-item.result it _ (ap (λ n. n * c.args.slices.now.scale) c.from.ensures) in
    subst (λ (rows : List Row). IsRound c.loop-round.merged.end rows) (sym rows_are)
    (part_round s c.args.slices.now.scale lawful c.requires.slices.scale c.args.x c.args.y c.requires.forward count c.requires.slices.fits c.requires.early
    c.requires.slices.scale_fits c.loop-round.round-index
    (done ++ rows_up_to s c.args.slices.now.scale c.args.x c.args.y c.loop-round.round-index) c.loop-round.merged (c.loop-round.invariant done count up)
    c.round-item.result it)

pub loop-round-preserved : goal.loop-round-preserved
loop-round-preserved c = λ done count up.
    let s = c.args.slices.now.set.now in
    let lawful = c.know_lawful.ensures.lawful in
    let i = c.loop-round.round-index in
    let it = item_at s.processors c.args.slices.now.scale (rates c.args.slices.now.scale s.tasks) c.deref-round-items.result.now i c.round-item.result
    (c.deref-round-items.ensures.value ∙ c.requires.slices.pattern) c.loop-round-test.true c.round-item.is in
    let so_far = done ++ rows_up_to s c.args.slices.now.scale c.args.x c.args.y i in
    let part = c.loop-round.invariant done count up in
    let rows_are = c.write_rows.ensures ∙ written_rows s c.args.slices.now.scale lawful c.requires.slices.scale c.args.x c.args.y c.requires.forward i
    c.round-item.result it _ (ap (λ n. n * c.args.slices.now.scale) c.from.ensures) in
    next_part s c.args.slices.now.scale lawful c.requires.slices.scale c.args.x c.args.y c.requires.forward count c.requires.slices.fits c.requires.early
    c.requires.slices.scale_fits i so_far c.loop-round.merged part c.round-item.result it
    (done ++ rows_up_to s c.args.slices.now.scale c.args.x c.args.y (i + 1)) _
    (next_rows s c.args.slices.now.scale lawful c.requires.slices.scale c.args.x c.args.y c.requires.forward (lanes_of s.processors so_far) i part.reached
    c.round-item.result it c.requires.slices.fits done)
    (λ lanes is. c.in_ok-merged.ensures.merged lanes is ∙ ap (λ rows. map merged (with_round lanes rows)) rows_are)
    (c.in_ok-merged.ensures.end ∙ ap (end_after c.loop-round.merged.end) rows_are)

pub returns : goal.returns
returns c = λ done count up.
    last_part c.args.slices.now.set.now c.args.slices.now.scale c.know_lawful.ensures.lawful c.requires.slices.scale c.args.x c.args.y c.requires.forward
    count c.loop-round.round-index done c.loop-round.merged
    c.args.slices.now.pattern.items c.requires.slices.pattern (omega arith) (c.loop-round.invariant done count up)
