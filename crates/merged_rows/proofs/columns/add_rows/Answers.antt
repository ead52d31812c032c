use Rattle.std.proofs.Common.{◌<◌, [], ◌∷◌, ◌+◌, arith, add-one, length, map, suc, ap, subst, take}
use Rattle.std.proofs.lemmas.List.{take_all}
use Rattle.sched_base.specs.declared.rows.Row.{Row}
use Rattle.sched_base.specs.Tables.{ticks_in}
use Rattle.row_totals.specs.Sums.{Adds}
use Rattle.row_totals.proofs.SumLemmas.{ticks_in-take-more, ticks_in-take-le, Adds-then, room_after, row_there}
use Rattle.merged_rows.specs.Columns.{rows_up_to}
use Rattle.merged_rows.proofs.FormLemmas.{count_in}
use Rattle.merged_rows.proofs.columns.add_rows.Goals as goal

pub add_row-requires-clause-room : goal.add_row-requires-clause-room
add_row-requires-clause-room g c =
    let begun = g.R.RowForm.begun in
    let lane = rows_up_to c.args.p c.args.end (map begun c.args.rows.now) in
    let i = c.loop-i.i in
    let many = count_in begun c.args.rows.now c.args.p c.args.end in
    let within : i < length lane = omega (arith, many, c.loop-i-test.true) in
    let here = row_there lane i c.row_in.result c.row_in.ensures in
    room_after (take i lane) (c.row_in.result ∷ []) lane c.args.sums.now c.loop-i.sums c.loop-i.auto.sums
    (λ j.
    let same = ap (λ (r : Row). ticks_in j (r ∷ [])) here in
    let more = ticks_in-take-more j lane i within in
    let all = ticks_in-take-le j lane (suc i) in
    omega (arith, same, more, all))
    c.requires.room c.loop-i.invariant

pub loop-i-preserved : goal.loop-i-preserved
loop-i-preserved g c =
    let begun = g.R.RowForm.begun in
    let lane = rows_up_to c.args.p c.args.end (map begun c.args.rows.now) in
    let i = c.loop-i.i in
    let many = count_in begun c.args.rows.now c.args.p c.args.end in
    let within : i < length lane = omega (arith, many, c.loop-i-test.true) in
    let here = row_there lane i c.row_in.result c.row_in.ensures in
    Adds-then (take i lane) (c.row_in.result ∷ []) (take (i + 1) lane) c.args.sums.now c.loop-i.sums c.add_row.new.sums c.loop-i.auto.sums
    (λ j.
    let same = ap (λ (r : Row). ticks_in j (r ∷ [])) here in
    rw add-one (let more = ticks_in-take-more j lane i within in omega (arith, more, same)))
    c.loop-i.invariant c.add_row.ensures

pub returns : goal.returns
returns g c =
    let begun = g.R.RowForm.begun in
    let lane = rows_up_to c.args.p c.args.end (map begun c.args.rows.now) in
    let many = count_in begun c.args.rows.now c.args.p c.args.end in
    subst (λ rows. Adds rows c.args.sums.now c.loop-i.sums) (take_all c.loop-i.i lane (omega (arith, many, c.loop-i-test.false))) c.loop-i.invariant
