-- The merged rows of a table, and merged rows that are kept, from a place on.
use Rattle.std.proofs.Common.{ℕ, zero, suc, ◌+◌, ◌*◌, ◌<◌, ◌≤◌, ◌≡◌, List, [], ◌∷◌, length, map, drop, Some, None, refl, ap, arith, length-append, add-one}
use Rattle.std.specs.Prelude.{slice_get}
use Rattle.std.specs.List.{AllByRecursion}
use Rattle.sched_base.specs.declared.rows.Row.{Row}
use Rattle.sched_base.specs.Tables.{IsTable, all_rows, lane_of, rounds_in}
use Rattle.row_totals.specs.Sums.{NamesAmong}
use Rattle.merged_rows.specs.Merging.{merged}
use Rattle.merged_rows.proofs.MergeLemmas.{few_merged, names_merged}

-- ---- from a place on

row_first : (rows : List Row) (i : ℕ) (r : Row) → slice_get rows i ≡ Some r → drop i rows ≡ r ∷ drop (suc i) rows
row_first [] i r at = absurd (let e : None ≡ Some r = at in cc)
row_first (q ∷ rows) zero r at = let e : Some q ≡ Some r = at in let e' : q ≡ r = cc in ap (λ (x : Row). x ∷ rows) e'
row_first (q ∷ rows) (suc i) r at = row_first rows i r at

-- the row at a place, and those behind it
pub row_at : (rows : List Row) (i : ℕ) (r : Row) → slice_get rows i ≡ Some r → drop i rows ≡ r ∷ drop (i + 1) rows
row_at rows i r at = rw add-one (row_first rows i r at)

-- past the last row there is none
pub none_past : (rows : List Row) (i : ℕ) → length rows ≤ i → drop i rows ≡ []
none_past [] zero past = refl
none_past [] (suc i) past = refl
none_past (r ∷ rows) zero past = absurd (omega (arith, past))
none_past (r ∷ rows) (suc i) past = none_past rows i (omega (arith, past))

-- ---- the merged rows of a table

pub lane_merged : (lanes : List (List Row)) (p : ℕ) → merged (lane_of lanes p) ≡ lane_of (map merged lanes) p
lane_merged [] p = refl
lane_merged (lane ∷ lanes) zero = refl
lane_merged (lane ∷ lanes) (suc p) = lane_merged lanes p

pub names_merged_lanes : (n : ℕ) (lanes : List (List Row)) → AllByRecursion (NamesAmong n) lanes → AllByRecursion (NamesAmong n) (map merged lanes)
names_merged_lanes n [] names = tt
names_merged_lanes n (lane ∷ lanes) names = (names_merged n lane names.0, names_merged_lanes n lanes names.1)

few_merged_from : (lanes : List (List Row)) (k : ℕ) → ((p : ℕ) → p < length lanes → length (lane_of lanes p) ≤ k) → length (all_rows (map merged lanes))
    ≤ length lanes * k
few_merged_from [] k each = omega arith
few_merged_from (lane ∷ lanes) k each =
    let fewer = few_merged lane in
    let here = each 0 (omega arith) in
    let rest = few_merged_from lanes k (λ p within. each (suc p) (omega (arith, within))) in
    let both = length-append (merged lane) (all_rows (map merged lanes)) in
    omega (arith, fewer, here, rest, both)

-- merged rows are no more than the rows of all rounds
pub few_merged_lanes : (lanes : List (List Row)) (most : ℕ) → IsTable lanes → length lanes * rounds_in lanes ≤ most → length (all_rows (map merged lanes))
    ≤ most
few_merged_lanes lanes most table few =
    let all = few_merged_from lanes (rounds_in lanes) (λ p within. (let whole = table.whole p within in omega (arith, whole))) in
    omega (arith, all, few)
