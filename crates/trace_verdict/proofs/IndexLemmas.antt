-- Facts on each row, or on each two rows, by their places.
use Rattle.std.proofs.Common.{zero, suc, ℕ, ◌+◌, ◌<◌, ◌≡◌, ◌⊎◌, inl, inr, Bool, true, false, List, [], ◌∷◌, length, Option, sym, refl, subst, arith}
use Rattle.std.specs.List.{AllByRecursion, IsDistinct}
use Rattle.std.specs.List.Sorted.{IsPermutation}
use Rattle.std.proofs.lemmas.Bool.{cases_lt, cases_Bool}
use Rattle.std.proofs.lemmas.Map.Keys.{IsDistinct-IsPermutation}
use Rattle.std.proofs.lemmas.List.Sorted.{IsPermutation-sym}
use Rattle.sched_base.specs.declared.rows.Row.{Row}
use Rattle.sched_base.specs.Rows.{AllApart}
use Rattle.trace_verdict.specs.Orders.{entries_from}
use Rattle.trace_verdict.specs.Overlaps.{clash}
use Rattle.trace_verdict.specs.Faults.{row_at}
use Rattle.trace_verdict.specs.Searches.{hits}
use Rattle.trace_verdict.specs.declared.entries.Entry.{Entry}
use Rattle.trace_verdict.proofs.OverlapLemmas.{clash_parts, clash_from}
use Rattle.trace_verdict.proofs.EntryLemmas.{meets, Clear, Apart, distinct_from_apart, apart_from_distinct}

pub all_at : (P : Row → Type 0) (rs : List Row) → AllByRecursion P rs → (i : ℕ) → i < length rs → P (row_at rs i)
all_at P [] a i h = absurd (omega arith)
all_at P (r ∷ rs) a zero h = a.0
all_at P (r ∷ rs) a (suc i) h = all_at P rs a.1 i (omega arith)

pub all_from : (P : Row → Type 0) (rs : List Row) → ((i : ℕ) → i < length rs → P (row_at rs i)) → AllByRecursion P rs
all_from P [] f = tt
all_from P (r ∷ rs) f = (f 0 (omega arith), all_from P rs (λ i h. f (suc i) (omega arith)))

pub apart_at : (P : Row → Row → Type 0) (rs : List Row) → AllApart P rs → (k i : ℕ) → k < i → i < length rs → P (row_at rs k) (row_at rs i)
apart_at P [] a k i h l = absurd (omega arith)
apart_at P (r ∷ rs) a k zero h l = absurd (omega arith)
apart_at P (r ∷ rs) a zero (suc i) h l = all_at (P r) rs a.0 i (omega arith)
apart_at P (r ∷ rs) a (suc k) (suc i) h l = apart_at P rs a.1 k i (omega arith) (omega arith)

pub apart_from : (P : Row → Row → Type 0) (rs : List Row) → ((k i : ℕ) → k < i → i < length rs → P (row_at rs k) (row_at rs i)) → AllApart P rs
apart_from P [] f = tt
apart_from P (r ∷ rs) f = (
  all_from (P r) rs (λ i h. f 0 (suc i) (omega arith) (omega arith)),
  apart_from P rs (λ k i h l. f (suc k) (suc i) (omega arith) (omega arith)),
)

-- ---- no row at a place below n meets an earlier one

abbrev pub NoHits : (Row → Option ℕ) → List Row → ℕ → Type 0
NoHits key rs n = (k i : ℕ) → k < i → i < n → i < length rs → hits key rs i k ≡ false

pub clear_at : (key : Row → Option ℕ) (n : ℕ) (q : Row) (at : ℕ) (rs : List Row) → Clear key n q at rs → (i : ℕ) → at + i < n → i < length rs →
    meets key q (row_at rs i) ≡ false
clear_at key n q at [] c i h l = absurd (omega arith)
clear_at key n q at (r ∷ rs) c zero h l = c.0 (omega arith)
clear_at key n q at (r ∷ rs) c (suc i) h l = clear_at key n q (at + 1) rs c.1 i (omega arith) (omega arith)

pub clear_from : (key : Row → Option ℕ) (n : ℕ) (q : Row) (at : ℕ) (rs : List Row) → ((i : ℕ) → at + i < n → i < length rs →
    meets key q (row_at rs i) ≡ false) → Clear key n q at rs
clear_from key n q at [] f = tt
clear_from key n q at (r ∷ rs) f = ((λ h. f 0 (omega arith) (omega arith)), clear_from key n q (at + 1) rs (λ i h l. f (suc i) (omega arith) (omega arith)))

pub no_hits_at : (key : Row → Option ℕ) (n at : ℕ) (rs : List Row) → Apart key n at rs → (k i : ℕ) → k < i → at + i < n → i < length rs →
    hits key rs i k ≡ false
no_hits_at key n at [] a k i h m l = absurd (omega arith)
no_hits_at key n at (r ∷ rs) a k zero h m l = absurd (omega arith)
no_hits_at key n at (r ∷ rs) a zero (suc i) h m l = clear_at key n r (at + 1) rs (a.0 (omega arith)) i (omega arith) (omega arith)
no_hits_at key n at (r ∷ rs) a (suc k) (suc i) h m l = no_hits_at key n (at + 1) rs a.1 k i (omega arith) (omega arith) (omega arith)

pub no_hits_from : (key : Row → Option ℕ) (n at : ℕ) (rs : List Row) → ((k i : ℕ) → k < i → at + i < n → i < length rs → hits key rs i k ≡ false) →
    Apart key n at rs
no_hits_from key n at [] f = tt
no_hits_from key n at (r ∷ rs) f = (
  (λ below. clear_from key n r (at + 1) rs (λ i h l. f 0 (suc i) (omega arith) (omega arith) (omega arith))),
  no_hits_from key n (at + 1) rs (λ k i h m l. f (suc k) (suc i) (omega arith) (omega arith) (omega arith)),
)

pub clash_flips : (n : ℕ) (e f : Entry) → clash n e f ≡ true → clash n f e ≡ true
clash_flips n e f h = let p = clash_parts n e f h in clash_from n f e p.second p.first (sym p.key) p.ends p.begins

pub same_from_both : (a b : Bool) → (a ≡ true → b ≡ true) → (b ≡ true → a ≡ true) → a ≡ b
same_from_both true b f g = sym (f refl)
same_from_both false true f g = g refl
same_from_both false false f g = refl

pub clash_sym : (n : ℕ) (e f : Entry) → clash n e f ≡ clash n f e
clash_sym n e f = same_from_both _ _ (clash_flips n e f) (clash_flips n f e)

-- what a walk over sorted entries says of the rows
pub NoHits-from_distinct : (key : Row → Option ℕ) (n : ℕ) (rs : List Row) (es : List Entry) → IsPermutation (entries_from key 0 rs) es →
    IsDistinct (clash n) es → NoHits key rs n
NoHits-from_distinct key n rs es p d =
    let back = IsDistinct-IsPermutation (clash n) (clash_sym n) es (entries_from key 0 rs) (IsPermutation-sym _ _ p) d in
    λ k i h m l. no_hits_at key n 0 rs (apart_from_distinct key n 0 rs back) k i h (omega arith) l

pub distinct-from_NoHits : (key : Row → Option ℕ) (n : ℕ) (rs : List Row) (es : List Entry) → IsPermutation (entries_from key 0 rs) es → NoHits key rs n →
    IsDistinct (clash n) es
distinct-from_NoHits key n rs es p f =
    IsDistinct-IsPermutation (clash n) (clash_sym n) _ es p (distinct_from_apart key n 0 rs (no_hits_from key n 0 rs (λ k i h m l. f k i h (omega arith) l)))

-- ---- the first hit

pub search_below : (f : ℕ → Bool) (n : ℕ) → ((k : ℕ) × (k < n) × (f k ≡ true)) ⊎ ((k : ℕ) → k < n → f k ≡ false)
search_below f zero = inr (λ k h. absurd (omega arith))
search_below f (suc n) =
    elim (search_below f n) [
      | inl found ↦ inl (found.0, omega (arith, found.1), found.2)
      | inr none ↦ (elim (cases_Bool (f n)) [
        | inl t ↦ inl (n, omega arith, t)
        | inr no_hit ↦ inr (λ k h. elim (cases_lt k n) [
          | inl below ↦ none k below
          | inr there ↦ (let e : n ≡ k = omega (arith, h, there) in subst (λ w. f w ≡ false) e no_hit)
        ])
      ])
    ]

pub found_hit : (key : Row → Option ℕ) (i : ℕ) (rs : List Row) (es : List Entry) → IsPermutation (entries_from key 0 rs) es
    → IsDistinct (clash i) es → (IsDistinct (clash (i + 1)) es → ⊥) → (k : ℕ) × (k < i) × (hits key rs i k ≡ true)
found_hit key i rs es p below at =
    elim (search_below (hits key rs i) i) [
      | inl found ↦ found
      | inr none ↦ absurd (at (distinct-from_NoHits key (i + 1) rs es p (λ k j h m l. elim (cases_lt j i) [
        | inl lower ↦ NoHits-from_distinct key i rs es p below k j h lower l
        | inr there ↦ (let e : i ≡ j = omega (arith, m, there) in subst (λ w. hits key rs w k ≡ false) e (none k (omega (arith, h, e))))
      ])))
    ]
