-- Zeros to which rows are added.
use Rattle.std.proofs.Common.{ℕ, ◌<◌, ◌≡◌, List, length, get_or, replicate, arith}
use Rattle.std.proofs.lemmas.List.{get_or-replicate, length-replicate}
use Rattle.sched_base.specs.declared.rows.Row.{Row}
use Rattle.row_totals.specs.Sums.{HaveRoomFor}
use Rattle.merged_rows.specs.Sums.{TicksFit}

-- zeros have room for what fits
pub room_of_zeros : (n : ℕ) (rows : List Row) → TicksFit rows → HaveRoomFor rows (replicate n 0)
room_of_zeros n rows fit j within =
    let inside : j < n = (let l : length {A = ℕ} (replicate n 0) ≡ n = length-replicate n 0 in omega (arith, l, within)) in
    let z : get_or {A = ℕ} (replicate n 0) j 0 ≡ 0 = get_or-replicate n j 0 0 inside in
    let f = fit j in
    omega (arith, z, f)
