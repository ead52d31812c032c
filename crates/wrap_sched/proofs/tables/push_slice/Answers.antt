use Rattle.std.proofs.Common.{List, add-zero, ap, arith, length, map, subst, sym, ◌*◌, ◌+◌, ◌++◌, ◌-◌, ◌∙◌, ◌≡◌}
use Rattle.std.proofs.lemmas.List.{append-nil, length-map, take_all}
use Rattle.std.specs.List.{flat_map}
use Rattle.sched_base.specs.Tables.{IsRound, end_of, rounds_in, with_round}
use Rattle.sched_base.specs.declared.rows.Row.{Row}
use Rattle.sched_base.specs.Lanes.{lanes_of}
use Rattle.wrap_sched.specs.Steps.{rates, unit_round}
use Rattle.wrap_sched.specs.Wrapped.{round_rows, round_spans}
use Rattle.wrap_sched.proofs.StretchLemmas.{stretch}
use Rattle.wrap_sched.proofs.TableLemmas.{IsReached, first_reached, item_at, item_bounds, item_fits, item_holders, item_whole, last_reached}
use Rattle.wrap_sched.proofs.TableLemmas.{next_count, next_reached, next_rows, round_lanes, rows_up_to, slice_of, slice_rows_are, written_rows}
use Rattle.wrap_sched.proofs.tables.push_slice.Goals as goal

pub loop-round-init : goal.loop-round-init
loop-round-init c =
    let s = c.args.slices.now.set.now in
    record {
      reached = first_reached s c.args.slices.now.scale c.know_lawful.ensures.lawful c.requires.slices.scale c.args.x c.args.y c.requires.forward
          c.args.table.now.lanes c.requires.start c.requires.whole;
      lanes = λ done is. is ∙ ap (lanes_of s.processors) (sym (append-nil done));
      count = sym (add-zero (rounds_in c.args.table.now.lanes));
      room = add-zero c.args.table.now.room;
    }

pub write_rows-requires : goal.write_rows-requires
write_rows-requires c =
    let s = c.args.slices.now.set.now in
    let lawful = c.know_lawful.ensures.lawful in
    let it = item_at s.processors c.args.slices.now.scale (rates c.args.slices.now.scale s.tasks) c.deref-round-items.result.now c.loop-round.round-index
    c.round-item.result (c.deref-round-items.ensures.value ∙ c.requires.slices.pattern) c.loop-round-test.true c.round-item.is in
    let b = item_bounds s c.args.slices.now.scale lawful c.requires.slices.scale c.args.x c.args.y c.requires.forward c.loop-round.table.lanes
    c.loop-round.round-index c.loop-round.invariant.reached c.round-item.result it in
    let at = ap (λ n. n * c.args.slices.now.scale) c.from.ensures in
    record {
      forward = c.requires.forward;
      places = omega (arith, b.0);
      fits = item_fits s c.args.slices.now.scale lawful c.requires.slices.scale c.args.x c.args.y c.requires.forward c.loop-round.round-index
          c.round-item.result it _ at c.requires.early c.requires.slices.scale_fits b.1;
      holders = item_holders s c.args.slices.now.scale lawful c.requires.slices.scale c.args.x c.args.y c.requires.forward c.loop-round.round-index
          c.round-item.result it;
      rows = omega arith;
    }

pub push_round-requires-clause-round : goal.push_round-requires-clause-round
push_round-requires-clause-round c =
    let s = c.args.slices.now.set.now in
    let lawful = c.know_lawful.ensures.lawful in
    let it = item_at c.args.slices.now.set.now.processors c.args.slices.now.scale (rates c.args.slices.now.scale c.args.slices.now.set.now.tasks)
    c.deref-round-items.result.now c.loop-round.round-index c.round-item.result (c.deref-round-items.ensures.value ∙ c.requires.slices.pattern)
    c.loop-round-test.true c.round-item.is in
    let rows_are = c.write_rows.ensures ∙ written_rows s c.args.slices.now.scale lawful c.requires.slices.scale c.args.x c.args.y c.requires.forward
    c.loop-round.round-index c.round-item.result it _ (ap (λ n. n * c.args.slices.now.scale) c.from.ensures) in
    let F : List Row → Type 0 = λ rows. IsRound (end_of c.loop-round.table.lanes) rows in
    subst F (sym rows_are) (item_whole s c.args.slices.now.scale lawful c.requires.slices.scale c.args.x c.args.y c.requires.forward
    c.loop-round.table.lanes c.loop-round.round-index c.loop-round.invariant.reached c.round-item.result it c.requires.slices.fits c.requires.early
    c.requires.slices.scale_fits)

pub loop-round-preserved : goal.loop-round-preserved
loop-round-preserved c =
    let s = c.args.slices.now.set.now in
    let lawful = c.know_lawful.ensures.lawful in
    let lanes = c.loop-round.table.lanes in
    let reached = c.loop-round.invariant.reached in
    let it = item_at c.args.slices.now.set.now.processors c.args.slices.now.scale (rates c.args.slices.now.scale c.args.slices.now.set.now.tasks)
    c.deref-round-items.result.now c.loop-round.round-index c.round-item.result (c.deref-round-items.ensures.value ∙ c.requires.slices.pattern)
    c.loop-round-test.true c.round-item.is in
    let slice = slice_of c.args.x c.args.y in
    let round = round_rows c.args.slices.now.scale s.tasks s.processors slice (stretch (c.args.y - c.args.x) it.round) in
    let rows_are = c.write_rows.ensures ∙ written_rows s c.args.slices.now.scale lawful c.requires.slices.scale c.args.x c.args.y c.requires.forward
    c.loop-round.round-index c.round-item.result it _ (ap (λ n. n * c.args.slices.now.scale) c.from.ensures) in
    let lanes_are : c.push_round.new.self.lanes ≡ with_round lanes round = c.push_round.ensures.lanes ∙ ap (with_round lanes) rows_are in
    let R : List (List Row) → Type 0 = λ ls. IsReached s c.args.slices.now.scale c.args.x c.args.y (c.loop-round.round-index + 1) ls in
    let less = c.push_round.ensures.room in
    let room = c.loop-round.invariant.room in
    let count = c.loop-round.invariant.count in
    let more = ap rounds_in lanes_are ∙ next_count s c.args.slices.now.scale lawful c.requires.slices.scale c.requires.slices.fits slice c.requires.forward
    lanes reached.whole (stretch (c.args.y - c.args.x) it.round) in
    record {
      reached = subst R (sym lanes_are) (next_reached s c.args.slices.now.scale lawful c.requires.slices.scale c.args.x c.args.y c.requires.forward lanes
          c.loop-round.round-index reached c.round-item.result it c.requires.slices.fits);
      lanes = λ done is.
          lanes_are ∙ ap (λ ls. with_round ls round) (c.loop-round.invariant.lanes done is)
          ∙ sym (round_lanes s c.args.slices.now.scale lawful c.requires.slices.scale c.requires.slices.fits slice c.requires.forward
          (done ++ rows_up_to s c.args.slices.now.scale c.args.x c.args.y c.loop-round.round-index) (stretch (c.args.y - c.args.x) it.round))
          ∙ ap (lanes_of s.processors) (next_rows s c.args.slices.now.scale lawful c.requires.slices.scale c.args.x c.args.y c.requires.forward lanes
          c.loop-round.round-index reached c.round-item.result it c.requires.slices.fits done);
      count = omega (arith, more, count);
      room = omega (arith, less, room);
    }

pub returns-clause-lanes : goal.returns-clause-lanes
returns-clause-lanes c = λ done is.
    let s = c.args.slices.now.set.now in
    let rs = round_spans c.args.slices.now.scale (rates c.args.slices.now.scale s.tasks) in
    let many = ap length c.requires.slices.pattern ∙ length-map rs (unit_round s.processors c.args.slices.now.scale (rates c.args.slices.now.scale s.tasks)) in
    let all = take_all c.loop-round.round-index rs (let l = c.loop-round-test.false in omega (arith, l, many)) in
    c.loop-round.invariant.lanes done is
    ∙ ap (λ ps. lanes_of s.processors (done ++ flat_map (round_rows c.args.slices.now.scale s.tasks s.processors (slice_of c.args.x c.args.y)) ps))
    (ap (λ zs. map (stretch (c.args.y - c.args.x)) zs) all)
    ∙ ap (λ rows. lanes_of s.processors (done ++ rows)) (sym (slice_rows_are s c.args.slices.now.scale c.know_lawful.ensures.lawful c.requires.slices.scale
    (slice_of c.args.x c.args.y) c.requires.forward))

pub returns-clause-end : goal.returns-clause-end
returns-clause-end c =
    let s = c.args.slices.now.set.now in
    let rs = round_spans c.args.slices.now.scale (rates c.args.slices.now.scale s.tasks) in
    let many = ap length c.requires.slices.pattern ∙ length-map rs (unit_round s.processors c.args.slices.now.scale (rates c.args.slices.now.scale s.tasks)) in
    last_reached s c.args.slices.now.scale c.know_lawful.ensures.lawful c.requires.slices.scale c.args.x c.args.y c.requires.forward
    c.loop-round.table.lanes c.loop-round.round-index
    (let l = c.loop-round-test.false in omega (arith, l, many)) c.loop-round.invariant.reached

pub push_round-requires-clause-room : goal.push_round-requires-clause-room
push_round-requires-clause-room c =
    let on = c.loop-round-test.true in
    let room = c.loop-round.invariant.room in
    omega (arith, on, room, c.requires.room)

pub returns-clause-whole : goal.returns-clause-whole
returns-clause-whole c = c.loop-round.invariant.reached.whole

pub returns-clause-count : goal.returns-clause-count
returns-clause-count c =
    let off = c.loop-round-test.false in
    let end = c.loop-round.auto.round-index-end in
    let count = c.loop-round.invariant.count in
    omega (arith, off, end, count)

pub returns-clause-room : goal.returns-clause-room
returns-clause-room c =
    let off = c.loop-round-test.false in
    let end = c.loop-round.auto.round-index-end in
    let room = c.loop-round.invariant.room in
    omega (arith, off, end, room)
