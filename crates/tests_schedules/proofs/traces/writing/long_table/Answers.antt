use Rattle.std.proofs.Common.{◌≡◌, ◌∙◌, ◌^◌, ◌<◌, ◌+◌, List, [], ◌∷◌, length, refl, sym, ap, subst, add-one, arith}
use Rattle.sched_base.specs.declared.rows.Row.{Row}
use Rattle.sched_base.specs.Tables.{IsRound, end_of, with_round}
use Rattle.tests_schedules.specs.LongTables.{steady_row, steady_rows}
use Rattle.tests_schedules.proofs.LongTableLemmas.{end_after-steady, IsRound-one, row_is}
use Rattle.tests_schedules.proofs.traces.writing.long_table.Goals as goal

pub loop-k-init : goal.loop-k-init
unfolding steady_rows
loop-k-init c = (c.in_ok-table.ensures.none, let room = c.in_ok-table.ensures.room in omega arith)

pub push_round-requires-clause-whole : goal.push_round-requires-clause-whole
push_round-requires-clause-whole c = sym (ap (λ (lanes : List (List Row)). length lanes) c.loop-k.invariant.0)

pub push_round-requires-clause-round : goal.push_round-requires-clause-round
push_round-requires-clause-round c =
    let k = c.loop-k.k in
    let room = c.loop-k.invariant.1 in
    let is = row_is c.row.result k _ _ c.row.ensures c.from.ensures c.from-in-loop-k.ensures in
    let end : end_of c.loop-k.table.lanes ≡ k = ap end_of c.loop-k.invariant.0 ∙ end_after-steady k in
    let small : k + 1 < 2 ^ 127 = omega arith in
    subst (λ (r : Row). IsRound (end_of c.loop-k.table.lanes) (r ∷ [])) (sym is) (IsRound-one (end_of c.loop-k.table.lanes) (steady_row k) refl (sym end)
    (omega arith) small)

pub push_round-requires-clause-room : goal.push_round-requires-clause-room
push_round-requires-clause-room c = let room = c.loop-k.invariant.1 in let below = c.loop-k-test.true in omega arith

pub loop-k-preserved : goal.loop-k-preserved
unfolding steady_rows
loop-k-preserved c =
    let room = c.loop-k.invariant.1 in
    let left = c.push_round.ensures.room in
    let is = row_is c.row.result c.loop-k.k _ _ c.row.ensures c.from.ensures c.from-in-loop-k.ensures in (
      rw add-one (c.push_round.ensures.lanes ∙ ap (λ (lanes : List (List Row)). with_round lanes (c.row.result ∷ [])) c.loop-k.invariant.0
          ∙ ap (λ (r : Row). with_round (steady_rows c.loop-k.k ∷ []) (r ∷ [])) is),
      omega arith,
    )
