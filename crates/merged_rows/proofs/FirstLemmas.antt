-- The first merged row of a lane, from a round on.
use Rattle.std.proofs.Common.{◌≡◌, ◌≤◌, ◌+◌, ℕ, zero, suc, inl, inr, true, false, List, [], ◌∷◌, None, Some, length, drop, sym, refl, ap, ◌∙◌, arith, add-one}
use Rattle.std.specs.Prelude.{slice_get}
use Rattle.std.proofs.lemmas.Bool.{cases_Bool}
use Rattle.sched_base.specs.declared.rows.Row.{Row}
use Rattle.merged_rows.specs.Merging.{lengthened, merge_onto, merged}
use Rattle.merged_rows.proofs.MergeLemmas.{goes_on}
use Rattle.merged_rows.proofs.PushLemmas.{onto_on, onto_off, same_name}

-- a row with which another goes on takes its end
joined : (r q : Row) (rows : List Row) → goes_on r q ≡ true → merge_onto r (merge_onto q rows) ≡ merge_onto (lengthened r q.end) rows
joined r q [] on = onto_on r q [] on
joined r q (s ∷ rows) on = elim (cases_Bool (goes_on q s)) [
  | inl late ↦ ap (merge_onto r) (onto_on q s rows late) ∙ onto_on r (lengthened q s.end) rows on
      ∙ sym (onto_on (lengthened r q.end) s rows (same_name r q s on ∙ late))
  | inr not_late ↦ ap (merge_onto r) (onto_off q s rows not_late) ∙ onto_on r q (s ∷ rows) on
      ∙ sym (onto_off (lengthened r q.end) s rows (same_name r q s on ∙ not_late))
]

-- a row with which the next doesn't go on stays as it is
apart : (r q : Row) (rows : List Row) → goes_on r q ≡ false → merge_onto r (merge_onto q rows) ≡ r ∷ merge_onto q rows
apart r q [] off = onto_off r q [] off
apart r q (s ∷ rows) off = elim (cases_Bool (goes_on q s)) [
  | inl late ↦ ap (merge_onto r) (onto_on q s rows late) ∙ onto_off r (lengthened q s.end) rows off ∙ ap (λ (rs : List Row). r ∷ rs)
      (sym (onto_on q s rows late))
  | inr not_late ↦ ap (merge_onto r) (onto_off q s rows not_late) ∙ onto_off r q (s ∷ rows) off ∙ ap (λ (rs : List Row). r ∷ rs)
      (sym (onto_off q s rows not_late))
]

from_there : (lane : List Row) (k : ℕ) (r : Row) → slice_get lane k ≡ Some r → drop k lane ≡ r ∷ drop (suc k) lane
from_there [] k r at = absurd (let e : None ≡ Some r = at in cc)
from_there (q ∷ lane) zero r at = let e : Some q ≡ Some r = at in let e' : q ≡ r = cc in ap (λ (x : Row). x ∷ lane) e'
from_there (q ∷ lane) (suc k) r at = from_there lane k r at

-- the rows from round k on, merged: that of round k before those behind
pub merged_from : (lane : List Row) (k : ℕ) (r : Row) → slice_get lane k ≡ Some r → merged (drop k lane) ≡ merge_onto r (merged (drop (k + 1) lane))
merged_from lane k r at = rw add-one (ap merged (from_there lane k r at))

-- a row that is held takes the end of the next, which goes on with it
pub held_on : (lane : List Row) (k : ℕ) (held r : Row) → slice_get lane k ≡ Some r → goes_on held r ≡ true
    → merge_onto held (merged (drop k lane)) ≡ merge_onto (lengthened held r.end) (merged (drop (k + 1) lane))
held_on lane k held r at on = ap (merge_onto held) (merged_from lane k r at) ∙ joined held r (merged (drop (k + 1) lane)) on

-- or it is done
pub held_off : (lane : List Row) (k : ℕ) (held r : Row) → slice_get lane k ≡ Some r → goes_on held r ≡ false → merge_onto held (merged (drop k lane)) ≡ held
    ∷ merged (drop k lane)
held_off lane k held r at off =
    ap (merge_onto held) (merged_from lane k r at) ∙ apart held r (merged (drop (k + 1) lane)) off ∙ ap (λ (rs : List Row). held ∷ rs)
    (sym (merged_from lane k r at))

-- past the last round there is no row
pub none_from : (lane : List Row) (k : ℕ) → length lane ≤ k → drop k lane ≡ []
none_from [] zero past = refl
none_from [] (suc k) past = refl
none_from (r ∷ lane) zero past = absurd (omega (arith, past))
none_from (r ∷ lane) (suc k) past = none_from lane k (omega (arith, past))
