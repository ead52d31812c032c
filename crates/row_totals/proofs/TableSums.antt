-- A whole table gives each task less than 2^127 ticks.
use Rattle.std.proofs.Common.{ℕ, zero, suc, ◌^◌, ◌<◌, ◌≡◌, List, [], ◌∷◌, length, take, sym, ap, refl, arith}
use Rattle.std.proofs.lemmas.List.{take_all}
use Rattle.sched_base.specs.declared.rows.Row.{Row}
use Rattle.sched_base.specs.Tables.{lane_of, rounds_in, end_after, end_of, IsTable, all_rows, ticks_in, ticks_before}
use Rattle.sched_base.proofs.TableLemmas.{row_at, end_after-last}
use Rattle.sched_base.proofs.TickLemmas.{ticks_before-le}
use Rattle.row_totals.proofs.SumLemmas.{ticks_in-append}

-- the ticks of all rounds are those of all rows
ticks_before-all : (j k : ℕ) (lanes : List (List Row)) → ((p : ℕ) → p < length lanes → length (lane_of lanes p) ≡ k) → ticks_before j k lanes ≡ ticks_in j
    (all_rows lanes)
ticks_before-all j k [] whole = refl
ticks_before-all j k (lane ∷ lanes) whole =
    let long : length lane ≡ k = whole 0 (omega arith) in
    let here : ticks_in j (take k lane) ≡ ticks_in j lane = ap (ticks_in j) (take_all k lane (omega (arith, long))) in
    let rest = ticks_before-all j k lanes (λ p within. whole (suc p) (omega arith)) in
    let all = ticks_in-append j lane (all_rows lanes) in
    omega (arith, here, rest, all)

-- the last round of a table ends below 2^127
end_fits : (lanes : List (List Row)) (k : ℕ) → IsTable lanes → rounds_in lanes ≡ k → 0 < length lanes → end_of lanes < 2 ^ 127
end_fits lanes zero table rounds some =
    let e : end_of lanes ≡ 0 = ap (end_after 0) (sym (take_all 0 (lane_of lanes 0) (omega (arith, rounds)))) in
    omega (arith, e)
end_fits lanes (suc k) table rounds some =
    let last = row_at lanes table 0 k some (omega (arith, rounds)) in
    let e : end_of lanes ≡ last.0.end = end_after-last (lane_of lanes 0) 0 k last.0 last.1 (omega (arith, rounds)) in
    let f = (table.forward 0 k last.0 last.1).1 in
    omega (arith, e, f)

-- a task stands at most once in a round, so it has no more ticks than passed
pub ticks_fit : (j : ℕ) (lanes : List (List Row)) → IsTable lanes → ticks_in j (all_rows lanes) < 2 ^ 127
ticks_fit j [] table = omega arith
ticks_fit j (lane ∷ lanes) table =
    let all = ticks_before-all j (rounds_in (lane ∷ lanes)) (lane ∷ lanes) table.whole in
    let passed = ticks_before-le (lane ∷ lanes) table j (rounds_in (lane ∷ lanes)) (omega arith) in
    let whole : end_after 0 (take (rounds_in (lane ∷ lanes)) lane) ≡ end_of (lane ∷ lanes) = ap (end_after 0) (take_all (rounds_in (lane ∷ lanes)) lane
    (omega arith)) in
    let end = end_fits (lane ∷ lanes) (rounds_in (lane ∷ lanes)) table refl (omega arith) in
    omega (arith, all, passed, whole, end)
