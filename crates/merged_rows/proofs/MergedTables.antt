-- What is so of the merged rows of a table.
use Rattle.std.proofs.Common.{ℕ, zero, suc, ◌*◌, ◌^◌, ◌<◌, ◌≤◌, ◌≡◌, lit<, List, [], ◌∷◌, Some, length, map, replicate, refl, ap, ◌∙◌, arith, length-append}
use Rattle.std.specs.Prelude.{slice_get}
use Rattle.std.specs.List.{AllByRecursion}
use Rattle.std.proofs.lemmas.List.{length-map}
use Rattle.sched_base.specs.declared.rows.Row.{Row}
use Rattle.sched_base.specs.Lanes.{NamesOneOf}
use Rattle.sched_base.specs.Sets.{SetContents}
use Rattle.sched_base.specs.Tables.{IsTable, all_rows, end_after, lane_of, rounds_in, row_limit, ticks_in}
use Rattle.row_totals.specs.Sums.{NamesAmong, AreForward}
use Rattle.row_totals.proofs.NameLemmas.{names_among}
use Rattle.row_totals.proofs.TableSums.{ticks_fit}
use Rattle.merged_rows.specs.Merging.{merged}
use Rattle.merged_rows.proofs.MergeLemmas.{few_merged, forward_lanes, forward_merged, names_merged, ticks_merged_lanes}
use Rattle.merged_rows.specs.Lawful.{AreLawful}
use Rattle.merged_rows.specs.Sums.{TicksFit}
use Rattle.merged_rows.proofs.PushLemmas.{all_merged}

-- ---- of each lane, merged

all_of : (P Q : List Row → Type 0) → ((rows : List Row) → P rows → Q (merged rows)) → (lanes : List (List Row)) → AllByRecursion P lanes →
    AllByRecursion Q (map merged lanes)
all_of P Q f [] all = tt
all_of P Q f (lane ∷ lanes) all = (f lane all.0, all_of P Q f lanes all.1)

-- ---- how many

few_of_all : (lanes : List (List Row)) → length (all_rows (map merged lanes)) ≤ length (all_rows lanes)
few_of_all [] = omega arith
few_of_all (lane ∷ lanes) =
    let one = few_merged lane in
    let rest = few_of_all lanes in
    let joined = length-append (merged lane) (all_rows (map merged lanes)) in
    let all = length-append lane (all_rows lanes) in
    omega (arith, one, rest, joined, all)

count_of_all : (lanes : List (List Row)) (k : ℕ) → ((p : ℕ) → p < length lanes → length (lane_of lanes p) ≡ k) → length (all_rows lanes) ≡ k * length lanes
count_of_all [] k whole = omega arith
count_of_all (lane ∷ lanes) k whole =
    let long : length lane ≡ k = whole 0 (omega arith) in
    let rest = count_of_all lanes k (λ p within. whole (suc p) (omega (arith, within))) in
    let all = length-append lane (all_rows lanes) in
    omega (arith, long, rest, all)

-- ---- ticks

merged_fit : (lanes : List (List Row)) → IsTable lanes → TicksFit (all_rows (map merged lanes))
merged_fit lanes table j =
    let e : ticks_in j (all_rows (map merged lanes)) ≡ ticks_in j (all_rows lanes) = ap (ticks_in j) (all_merged lanes) ∙ ticks_merged_lanes j lanes
    (forward_lanes lanes table) in
    let f = ticks_fit j lanes table in
    let wide : 2 ^ 127 < 2 ^ 128 = lit< tt in
    omega (arith, e, f, wide)

-- ---- of a table

-- the merged rows of a table of so many rounds, of which each lane names tasks of the set
pub lawful_rows : (s : SetContents) (raw : List (List Row)) (rounds : ℕ) → length raw ≡ s.processors →
    AllByRecursion (AllByRecursion (λ r. NamesOneOf s.tasks r.leaf)) raw
    → IsTable raw → rounds_in raw ≡ rounds → rounds * s.processors ≤ row_limit → AreLawful s (map merged raw)
lawful_rows s raw rounds many names table count few = record {
  processors = length-map raw merged ∙ many;
  names = all_of (AllByRecursion (λ r. NamesOneOf s.tasks r.leaf)) (NamesAmong (length s.tasks)) (λ rows named. names_merged (length s.tasks) rows
      (names_among s.tasks rows named)) raw names;
  forward = all_of AreForward AreForward forward_merged raw (forward_lanes raw table);
  few =
      (let less = few_of_all raw in
      let all = count_of_all raw (rounds_in raw) table.whole in
      let same : rounds_in raw * length raw ≡ rounds * s.processors = ap (λ n. n * length raw) count ∙ ap (λ n. rounds * n) many in
      omega (arith, less, all, same, few));
  fit = merged_fit raw table;
}

-- ---- rounds

-- rows that end at one tick end there
pub end_of_all : (rows : List Row) (before end : ℕ) → 0 < length rows → ((k : ℕ) (r : Row) → slice_get rows k ≡ Some r → r.end ≡ end) →
    end_after before rows ≡ end
end_of_all [] before end some all = absurd (omega (arith, some))
end_of_all (r ∷ []) before end some all = all 0 r refl
end_of_all (r ∷ (q ∷ rows)) before end some all = end_of_all (q ∷ rows) r.end end (omega arith) (λ k s at. all (suc k) s at)

pub merged_none : (m : ℕ) → map merged (replicate m []) ≡ replicate m []
merged_none zero = refl
merged_none (suc m) = ap (λ lanes. [] ∷ lanes) (merged_none m)
