use Rattle.std.proofs.lemmas.Result.{IfOk-from_err}
use Rattle.std.proofs.Common.{◌<◌, ◌≤◌, ◌*◌, length, map, vec_len, vec_capacity, refl, sym, ap, ◌∙◌, subst}
use Rattle.std.proofs.lemmas.List.{take_all}
use Rattle.sched_base.specs.Tables.{lane_of, rounds_in}
use Rattle.merged_rows.specs.Merging.{merged_lanes}
use Rattle.trace_check.specs.RoundTrip.{row_as_read}
use Rattle.trace_check.proofs.TableLemmas.{room_is, no_rows, has_room, few_more, rows_more}
use Rattle.trace_check.proofs.tables.rows_as_read.Goals as goal

pub loop-p-init : goal.loop-p-init
loop-p-init c =
    let new = c.in_ok-rows.ensures in (
      new.items,
      no_rows (vec_len c.in_ok-rows.rows) _ new.len,
      room_is (length c.args.table.now.lanes) c.args.processors c.from.result c.rounds.result (rounds_in c.args.table.now.lanes)
          (vec_capacity c.in_ok-rows.rows) c.requires.processors c.from.ensures c.rounds.ensures.value new.exact,
    )

pub add_merged-requires-clause-lane : goal.add_merged-requires-clause-lane
add_merged-requires-clause-lane c = subst (λ n. c.loop-p.p < n) (sym c.requires.processors) c.loop-p-test.true

pub add_merged-requires-clause-room : goal.add_merged-requires-clause-room
add_merged-requires-clause-room c =
    let lanes = c.args.table.now.lanes in
    let within : c.loop-p.p < length lanes = subst (λ n. c.loop-p.p < n) (sym c.requires.processors) c.loop-p-test.true in
    has_room (vec_len c.loop-p.rows) (rounds_in lanes) c.loop-p.p (length lanes) (rounds_in lanes) (vec_capacity c.loop-p.rows) c.loop-p.invariant.1 refl
    within c.loop-p.invariant.2

pub loop-p-preserved : goal.loop-p-preserved
loop-p-preserved c =
    let lanes = c.args.table.now.lanes in
    let within : c.loop-p.p < length lanes = subst (λ n. c.loop-p.p < n) (sym c.requires.processors) c.loop-p-test.true in
    let added = c.add_merged.ensures in (
      rows_more lanes c.loop-p.p (lane_of lanes c.loop-p.p) c.loop-p.rows.items c.add_merged.new.rows.items within refl c.loop-p.invariant.0 added.rows,
      few_more (vec_len c.loop-p.rows) (rounds_in lanes) (vec_len c.add_merged.new.rows) c.loop-p.p (rounds_in lanes) c.loop-p.invariant.1 refl added.few,
      subst (λ room. length lanes * rounds_in lanes ≤ room) (sym added.room) c.loop-p.invariant.2,
    )

pub returns-clause-rows : goal.returns-clause-rows
returns-clause-rows c =
    let past : length c.args.table.now.lanes ≤ c.loop-p.p = subst (λ n. n ≤ c.loop-p.p) (sym c.requires.processors) c.loop-p-test.false in
    c.loop-p.invariant.0 ∙ ap (λ lanes. map row_as_read (merged_lanes lanes)) (take_all c.loop-p.p c.args.table.now.lanes past)

pub returns-in_err-rows-clause-rows : goal.returns-in_err-rows-clause-rows
returns-in_err-rows-clause-rows c = IfOk-from_err _ _ c.from_residual.ensures.0
