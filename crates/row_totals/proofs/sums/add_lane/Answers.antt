use Rattle.std.proofs.Common.{◌<◌, [], ◌∷◌, ◌+◌, arith, add-one, length, suc, ap, take}
use Rattle.std.proofs.lemmas.Option.{slice_get_within}
use Rattle.sched_base.specs.declared.rows.Row.{Row}
use Rattle.sched_base.specs.Tables.{lane_of, ticks_in}
use Rattle.row_totals.proofs.SumLemmas.{ticks_in-take-more, ticks_in-take-le, Adds-then, room_after, row_there}
use Rattle.row_totals.proofs.sums.add_lane.Goals as goal

pub add_row-requires-clause-room : goal.add_row-requires-clause-room
add_row-requires-clause-room c =
    let lane = lane_of c.args.table.now.lanes c.args.p in
    let k = c.loop-k.k in
    let within : k < length lane = slice_get_within lane k c.row.result c.row.ensures.value in
    let here = row_there lane k c.row.result c.row.ensures.value in
    room_after (take k lane) (c.row.result ∷ []) lane c.args.sums.now c.loop-k.sums c.loop-k.auto.sums
    (λ j.
    let same = ap (λ (r : Row). ticks_in j (r ∷ [])) here in
    let more = ticks_in-take-more j lane k within in
    let all = ticks_in-take-le j lane (suc k) in
    omega (arith, same, more, all))
    c.requires.room c.loop-k.invariant

pub loop-k-preserved : goal.loop-k-preserved
loop-k-preserved c =
    let lane = lane_of c.args.table.now.lanes c.args.p in
    let k = c.loop-k.k in
    let within : k < length lane = slice_get_within lane k c.row.result c.row.ensures.value in
    let here = row_there lane k c.row.result c.row.ensures.value in
    Adds-then (take k lane) (c.row.result ∷ []) (take (k + 1) lane) c.args.sums.now c.loop-k.sums c.add_row.new.sums c.loop-k.auto.sums
    (λ j.
    let same = ap (λ (r : Row). ticks_in j (r ∷ [])) here in
    rw add-one (let more = ticks_in-take-more j lane k within in omega (arith, more, same)))
    c.loop-k.invariant c.add_row.ensures
