use Rattle.std.proofs.Common.{[], List, ap, arith, filter, length, sym, ◌*◌, ◌++◌, ◌-◌, ◌<◌, ◌∙◌, ◌≡◌, ◌≤◌}
use Rattle.std.proofs.lemmas.List.{append-nil, append_assoc}
use Rattle.std.specs.List.{flat_map, range_with_len}
use Rattle.sched_base.specs.declared.rows.Row.{Row}
use Rattle.sched_base.specs.Lanes.{lanes_of}
use Rattle.wrap_sched.specs.Spans.{spans}
use Rattle.wrap_sched.specs.Wrapped.{is_point, slice_rows}
use Rattle.sched_base.proofs.ScheduleLanes.{lanes_of-none, length-lanes_of}
use Rattle.wrap_sched.proofs.PatternLemmas.{spans_next}
use Rattle.wrap_sched.proofs.StepLemmas.{filter_next}
use Rattle.wrap_sched.proofs.TableLemmas.{none_end, none_rounds, room_from, slice_of, wrapped_from}
use Rattle.wrap_sched.proofs.ValidRows.{point_at_zero}
use Rattle.wrap_sched.proofs.tables.push_slices.Goals as goal

pub slices-init : goal.slices-init
slices-init c =
    let s = c.args.slices.now.set.now in
    let m = s.processors in
    let lawful = c.know_lawful.ensures.lawful in
    let some = lawful.some_processors in
    let none : c.args.table.now.lanes ≡ lanes_of m [] = c.requires.none ∙ sym (lanes_of-none m) in
    let end = none_end m c.args.table.now.lanes some none in
    let rounds = none_rounds m c.args.table.now.lanes some none in
    let room = c.requires.room in
    record {
      at = λ l. point_at_zero s.tasks;
      within = omega arith;
      rows = ([], none, wrapped_from s c.args.slices.now.scale);
      end = omega (arith, end);
      whole = ap length none ∙ length-lanes_of m [];
      room = c.requires.room ∙ room_from s c.args.slices.now.scale lawful c.requires.slices.scale c.args.slices.now.pattern.items c.requires.slices.pattern;
      count = omega (arith, rounds, room);
    }

pub push_slice-requires-clause-room : goal.push_slice-requires-clause-room
push_slice-requires-clause-room c =
    let s = c.args.slices.now.set.now in
    let early : c.slices.x < s.horizon = (let on = c.slices-test.true in let is = c.horizon.ensures.value in omega (arith, on, is)) in
    let more = ap (λ xs. length c.args.slices.now.pattern.items * length xs) (filter_next (is_point s.tasks) s.horizon c.slices.x c.next_point-y.result
    (c.slices.invariant.at early) c.next_point-y.ensures) in
    let room = c.slices.invariant.room in
    let l : length c.args.slices.now.pattern.items ≤ c.slices.table.room = omega (arith, more, room) in
    l

pub slices-preserved : goal.slices-preserved
slices-preserved c =
    let s = c.args.slices.now.set.now in
    let f = slice_rows c.args.slices.now.scale s.tasks s.processors in
    let y = c.next_point-y.result in
    let next = c.next_point-y.ensures in
    let early : c.slices.x < s.horizon = (let on = c.slices-test.true in let is = c.horizon.ensures.value in omega (arith, on, is)) in
    let at = c.slices.invariant.at early in
    let more = ap (λ xs. length c.args.slices.now.pattern.items * length xs) (filter_next (is_point s.tasks) s.horizon c.slices.x y at next) in
    let room = c.slices.invariant.room in
    let less = c.push_slice.ensures.room in
    let count = c.slices.invariant.count in
    let grown = c.push_slice.ensures.count in
    let (done, is, all) = c.slices.invariant.rows in
    let rest : List Row = flat_map f (spans (filter (is_point s.tasks) (range_with_len y (s.horizon - y))) s.horizon) in
    record {
      at = next.at;
      within = next.within;
      rows = (
        done ++ f (slice_of c.slices.x y),
        c.push_slice.ensures.lanes done is,
        append_assoc done (f (slice_of c.slices.x y)) rest ∙ ap (λ ss. done ++ flat_map f ss) (sym (spans_next (is_point s.tasks) s.horizon c.slices.x y at
            next)) ∙ all,
      );
      end = c.push_slice.ensures.end;
      whole = c.push_slice.ensures.whole;
      room = omega (arith, more, room, less);
      count = omega (arith, less, count, grown);
    }

pub next_point-y-requires : goal.next_point-y-requires
next_point-y-requires c =
    let on = c.slices-test.true in
    let is = c.horizon.ensures.value in
    omega (arith, on, is)

pub push_slice-requires-clause-forward : goal.push_slice-requires-clause-forward
push_slice-requires-clause-forward c = c.next_point-y.ensures.above

pub push_slice-requires-clause-early : goal.push_slice-requires-clause-early
push_slice-requires-clause-early c = c.next_point-y.ensures.within

pub push_slice-requires-clause-whole : goal.push_slice-requires-clause-whole
push_slice-requires-clause-whole c = c.slices.invariant.whole

pub push_slice-requires-clause-start : goal.push_slice-requires-clause-start
push_slice-requires-clause-start c = c.slices.invariant.end

pub slices-smaller : goal.slices-smaller
slices-smaller c =
    let above = c.next_point-y.ensures.above in
    let within = c.next_point-y.ensures.within in
    omega (arith, above, within)

pub returns-clause-lanes : goal.returns-clause-lanes
returns-clause-lanes c =
    let s = c.args.slices.now.set.now in
    let off = c.slices-test.false in
    let is = c.horizon.ensures.value in
    let none : s.horizon - c.slices.x ≡ 0 = omega (arith, off, is) in
    let (done, are, all) = c.slices.invariant.rows in
    let f = slice_rows c.args.slices.now.scale s.tasks s.processors in
    let rest = ap (λ n. done ++ flat_map f (spans (filter (is_point s.tasks) (range_with_len c.slices.x n)) s.horizon)) none in
    are ∙ ap (lanes_of s.processors) (sym (append-nil done) ∙ sym rest ∙ all)

pub returns-clause-full : goal.returns-clause-full
returns-clause-full c =
    let s = c.args.slices.now.set.now in
    let off = c.slices-test.false in
    let is = c.horizon.ensures.value in
    let none : s.horizon - c.slices.x ≡ 0 = omega (arith, off, is) in
    let rest = ap (λ n. length c.args.slices.now.pattern.items * length (filter (is_point s.tasks) (range_with_len c.slices.x n))) none in
    let room = c.slices.invariant.room in
    omega (arith, rest, room)

pub returns-clause-count : goal.returns-clause-count
returns-clause-count c =
    let s = c.args.slices.now.set.now in
    let off = c.slices-test.false in
    let is = c.horizon.ensures.value in
    let none : s.horizon - c.slices.x ≡ 0 = omega (arith, off, is) in
    let rest = ap (λ n. length c.args.slices.now.pattern.items * length (filter (is_point s.tasks) (range_with_len c.slices.x n))) none in
    let room = c.slices.invariant.room in
    let count = c.slices.invariant.count in
    omega (arith, rest, room, count)
