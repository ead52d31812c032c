-- Rows merged as they come, one by one.
use Rattle.std.proofs.Common.{◌≡◌, ◌<◌, ℕ, zero, suc, inl, inr, true, false, List, [], ◌∷◌, ◌++◌, ◌&&◌, None, Some, length, map, eqb, eq-eqb, sym}
use Rattle.std.proofs.Common.{refl, ap, ◌∙◌, arith}
use Rattle.std.specs.Prelude.{slice_get}
use Rattle.std.proofs.lemmas.Bool.{cases_Bool, and_parts, cond-true, cond-false, eqb-true}
use Rattle.sched_base.specs.declared.rows.Row.{Row}
use Rattle.sched_base.specs.declared.rows.Leaf.{Leaf}
use Rattle.sched_base.specs.Tables.{all_rows, lane_of, with_round}
use Rattle.merged_rows.specs.Merging.{shown, lengthened, merge_onto, merged, merged_lanes}
use Rattle.merged_rows.proofs.MergeLemmas.{goes_on}
use Rattle.merged_rows.specs.Columns.{ends_showing}

-- merged rows with one more row after them: where it goes on with the last of them, that one gets longer
abbrev pub merged_with : List Row → Row → List Row
merged_with [] r = r ∷ []
merged_with (q ∷ []) r = merge_onto q (r ∷ [])
merged_with (q ∷ (next ∷ rows)) r = q ∷ merged_with (next ∷ rows) r

-- merged lanes with the rows of one more round
abbrev pub merged_round : List (List Row) → List Row → List (List Row)
merged_round [] rows = []
merged_round (lane ∷ lanes) [] = lane ∷ lanes
merged_round (lane ∷ lanes) (r ∷ rows) = merged_with lane r ∷ merged_round lanes rows

pub onto_on : (r q : Row) (rows : List Row) → goes_on r q ≡ true → merge_onto r (q ∷ rows) ≡ lengthened r q.end ∷ rows
onto_on r q rows e = cond-true (goes_on r q) (lengthened r q.end ∷ rows) (r ∷ (q ∷ rows)) e

pub onto_off : (r q : Row) (rows : List Row) → goes_on r q ≡ false → merge_onto r (q ∷ rows) ≡ r ∷ (q ∷ rows)
onto_off r q rows e = cond-false (goes_on r q) (lengthened r q.end ∷ rows) (r ∷ (q ∷ rows)) e

-- a row that goes on with the first of two goes on with both
pub same_name : (r q next : Row) → goes_on r q ≡ true → goes_on (lengthened r q.end) next ≡ goes_on q next
same_name r q next e = ap (λ n. eqb q.end next.start && eqb n (shown next.leaf)) (eqb-true (shown r.leaf) (shown q.leaf) (and_parts (eqb r.end q.start)
    (eqb (shown r.leaf) (shown q.leaf)) e).1)

-- before and after don't disturb each other
two_onto : (r q last : Row) → merge_onto r (merge_onto q (last ∷ [])) ≡ merged_with (merge_onto r (q ∷ [])) last
two_onto r q last = elim (cases_Bool (goes_on q last)) [
  | inl late ↦ ap (merge_onto r) (onto_on q last [] late) ∙ (elim (cases_Bool (goes_on r q)) [
    | inl early ↦ onto_on r (lengthened q last.end) [] early
        ∙ sym (ap (λ rows. merged_with rows last) (onto_on r q [] early) ∙ onto_on (lengthened r q.end) last [] (same_name r q last early ∙ late))
    | inr not_early ↦ onto_off r (lengthened q last.end) [] not_early
        ∙ sym (ap (λ rows. merged_with rows last) (onto_off r q [] not_early) ∙ ap (λ rows. r ∷ rows) (onto_on q last [] late))
  ])
  | inr not_late ↦ ap (merge_onto r) (onto_off q last [] not_late) ∙ (elim (cases_Bool (goes_on r q)) [
    | inl early ↦ onto_on r q (last ∷ []) early
        ∙ sym (ap (λ rows. merged_with rows last) (onto_on r q [] early) ∙ onto_off (lengthened r q.end) last [] (same_name r q last early ∙ not_late))
    | inr not_early ↦ onto_off r q (last ∷ []) not_early
        ∙ sym (ap (λ rows. merged_with rows last) (onto_off r q [] not_early) ∙ ap (λ rows. r ∷ rows) (onto_off q last [] not_late))
  ])
]

onto_with : (r : Row) (rows : List Row) (last : Row) → merge_onto r (merged_with rows last) ≡ merged_with (merge_onto r rows) last
onto_with r [] last = refl
onto_with r (q ∷ []) last = two_onto r q last
onto_with r (q ∷ (next ∷ rows)) last = elim (cases_Bool (goes_on r q)) [
  | inl on ↦ onto_on r q (merged_with (next ∷ rows) last) on ∙ sym (ap (λ rs. merged_with rs last) (onto_on r q (next ∷ rows) on))
  | inr off ↦ onto_off r q (merged_with (next ∷ rows) last) off ∙ sym (ap (λ rs. merged_with rs last) (onto_off r q (next ∷ rows) off))
]

-- one row more is merged with what is there
pub merged_push : (rows : List Row) (last : Row) → merged (rows ++ last ∷ []) ≡ merged_with (merged rows) last
merged_push [] last = refl
merged_push (r ∷ rows) last = ap (merge_onto r) (merged_push rows last) ∙ onto_with r (merged rows) last

-- a round more is merged with what is there
pub round_push : (lanes : List (List Row)) (rows : List Row) → map merged (with_round lanes rows) ≡ merged_round (map merged lanes) rows
round_push [] rows = refl
round_push (lane ∷ lanes) [] = refl
round_push (lane ∷ lanes) (r ∷ rows) =
    ap (λ first. first ∷ map merged (with_round lanes rows)) (merged_push lane r) ∙ ap (λ rest. merged_with (merged lane) r ∷ rest) (round_push lanes rows)

-- the rows of merged lanes are the merged rows of the lanes
pub all_merged : (lanes : List (List Row)) → all_rows (map merged lanes) ≡ merged_lanes lanes
all_merged [] = refl
all_merged (lane ∷ lanes) = ap (λ rows. merged lane ++ rows) (all_merged lanes)

-- ---- what is shown last

longer : (q : Row) (rows : List Row) (leaf : Leaf) → 0 < length rows → ends_showing (q ∷ rows) leaf ≡ ends_showing rows leaf
longer q [] leaf some = absurd (omega (arith, some))
longer q (r ∷ rows) leaf some = refl

some_with : (rows : List Row) (r : Row) → 0 < length (merged_with rows r)
some_with [] r = omega arith
some_with (q ∷ []) r = elim (cases_Bool (goes_on q r)) [
  | inl on ↦ (let e : length (merge_onto q (r ∷ [])) ≡ 1 = ap length (onto_on q r [] on) in omega (arith, e))
  | inr off ↦ (let e : length (merge_onto q (r ∷ [])) ≡ 2 = ap length (onto_off q r [] off) in omega (arith, e))
]
some_with (q ∷ (next ∷ rows)) r = omega arith

-- merged with one row more, rows end with what that one shows
with_ends : (rows : List Row) (r : Row) → ends_showing (merged_with rows r) r.leaf ≡ true
with_ends [] r = eq-eqb (shown r.leaf) (shown r.leaf) refl
with_ends (q ∷ []) r = elim (cases_Bool (goes_on q r)) [
  | inl on ↦ ap (λ rs. ends_showing rs r.leaf) (onto_on q r [] on) ∙ (and_parts (eqb q.end r.start) (eqb (shown q.leaf) (shown r.leaf)) on).1
  | inr off ↦ ap (λ rs. ends_showing rs r.leaf) (onto_off q r [] off) ∙ eq-eqb (shown r.leaf) (shown r.leaf) refl
]
with_ends (q ∷ (next ∷ rows)) r = longer q (merged_with (next ∷ rows) r) r.leaf (some_with (next ∷ rows) r) ∙ with_ends (next ∷ rows) r

-- so does each lane with a round more
pub round_ends : (lanes : List (List Row)) (rows : List Row) (p : ℕ) (r : Row) → p < length lanes → slice_get rows p ≡ Some r
    → ends_showing (lane_of (map merged (with_round lanes rows)) p) r.leaf ≡ true
round_ends [] rows p r within at = absurd (omega (arith, within))
round_ends (lane ∷ lanes) [] p r within at = absurd (let e : None ≡ Some r = at in cc)
round_ends (lane ∷ lanes) (s ∷ rows) zero r within at =
    let e : Some s ≡ Some r = at in
    let e' : s ≡ r = cc in
    ap (λ rs. ends_showing rs r.leaf) (merged_push lane s) ∙ ap (λ x. ends_showing (merged_with (merged lane) x) r.leaf) e' ∙ with_ends (merged lane) r
round_ends (lane ∷ lanes) (s ∷ rows) (suc p) r within at = round_ends lanes rows p r (omega (arith, within)) at
