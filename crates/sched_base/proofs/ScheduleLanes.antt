-- What a round adds to the lanes of a schedule.
use Rattle.std.proofs.Common.{◌≡◌, ℕ, zero, suc, ◌+◌, ◌<◌, ◌==◌, Bool, List, [], ◌∷◌, ◌++◌, Some, map, length, replicate, refl, ap, sym, ◌∙◌, arith}
use Rattle.std.proofs.Common.{subst, eq-eqb, inl, inr, cond}
use Rattle.std.specs.Prelude.{slice_get}
use Rattle.std.specs.List.{AllByRecursion, range_with_len}
use Rattle.std.proofs.lemmas.Bool.{cases_Bool, cond-true, cond-false, ne_eqb}
use Rattle.std.proofs.lemmas.List.Elements.{filter-append}
use Rattle.std.proofs.lemmas.List.FromFn.{get_or-map-range_with_len, length-map-range_with_len}
use Rattle.sched_base.specs.declared.rows.Row.{Row}
use Rattle.sched_base.specs.Tables.{lane_of, end_after, end_of, with_round}
use Rattle.sched_base.specs.Lanes.{rows_on, lanes_of}

-- ---- the rows of one processor in a round

-- the first of the rows is left out where it is another processor's
pub rows_on-other : (p : ℕ) (r : Row) (rows : List Row) → (r.processor ≡ p → ⊥) → rows_on p (r ∷ rows) ≡ rows_on p rows
rows_on-other p r rows other = cond-false (r.processor == p) (r ∷ rows_on p rows) (rows_on p rows) (ne_eqb r.processor p other)

pub rows_on-own : (p : ℕ) (r : Row) (rows : List Row) → r.processor ≡ p → rows_on p (r ∷ rows) ≡ r ∷ rows_on p rows
rows_on-own p r rows own = cond-true (r.processor == p) (r ∷ rows_on p rows) (rows_on p rows) (eq-eqb r.processor p own)

-- rows in the order of their processors, of which the first one's is a
pub record AreInOrder (a : ℕ) (rows : List Row) : Type 0 where
  pub own : (k : ℕ) (r : Row) → slice_get rows k ≡ Some r → r.processor ≡ a + k

later : (a : ℕ) (r : Row) (rows : List Row) → AreInOrder a (r ∷ rows) → AreInOrder (a + 1) rows
later a r rows o = record { own = λ k s at. (let is = o.own (suc k) s at in omega (arith, is)) }

-- no row of a lower processor is among them
rows_on-below : (p a : ℕ) (rows : List Row) → AreInOrder a rows → p < a → rows_on p rows ≡ []
rows_on-below p a [] o l = refl
rows_on-below p a (r ∷ rows) o l =
    let is = o.own 0 r refl in
    rows_on-other p r rows (λ same. omega (arith, is, same, l)) ∙ rows_on-below p (a + 1) rows (later a r rows o) (omega (arith, l))

-- each is the only row of its processor
rows_on-one : (a : ℕ) (rows : List Row) → AreInOrder a rows → (k : ℕ) (r : Row) → slice_get rows k ≡ Some r → rows_on (a + k) rows ≡ r ∷ []
rows_on-one a [] o k r at = cc
rows_on-one a (s ∷ rows) o zero r at =
    let e : Some s ≡ Some r = at in
    let same : s ≡ r = cc in
    let is = o.own 0 s refl in
    rows_on-own (a + 0) s rows is ∙ ap (λ xs. s ∷ xs) (rows_on-below (a + 0) (a + 1) rows (later a s rows o) (omega arith)) ∙ ap (λ x. x ∷ []) same
rows_on-one a (s ∷ rows) o (suc k) r at =
    let is = o.own 0 s refl in
    let next : a + suc k ≡ a + 1 + k = omega arith in
    rows_on-other (a + suc k) s rows (λ same. omega (arith, is, same)) ∙ ap (λ p. rows_on p rows) next ∙ rows_on-one (a + 1) rows (later a s rows o) k r at

-- ---- lanes

-- the lanes of n processors from a on
abbrev pub lanes_from : ℕ → ℕ → List Row → List (List Row)
lanes_from a n rows = map (λ p. rows_on p rows) (range_with_len a n)

lanes_from-none : (a n : ℕ) → lanes_from a n [] ≡ replicate n []
lanes_from-none a zero = refl
lanes_from-none a (suc n) = ap (λ lanes. [] ∷ lanes) (lanes_from-none (a + 1) n)

-- `some` are those rows of a round that are of processors from a on
lanes_from-round : (a n : ℕ) (rows round some : List Row) → length some ≡ n → ((k : ℕ) (r : Row) → slice_get some k ≡ Some r → rows_on (a + k) round ≡ r ∷ [])
    → lanes_from a n (rows ++ round) ≡ with_round (lanes_from a n rows) some
lanes_from-round a zero rows round some long one = refl
lanes_from-round a (suc n) rows round [] long one = absurd (omega arith)
lanes_from-round a (suc n) rows round (r ∷ some) long one =
    let e : a + 0 ≡ a = omega arith in
    let first : rows_on a round ≡ r ∷ [] = ap (λ p. rows_on p round) (sym e) ∙ one 0 r refl in
    let lane : rows_on a (rows ++ round) ≡ rows_on a rows ++ r ∷ [] = filter-append (λ x. x.processor == a) rows round ∙ ap (λ xs. rows_on a rows ++ xs)
    first in
    ap (λ xs. xs ∷ lanes_from (a + 1) n (rows ++ round)) lane
    ∙ ap (λ lanes. (rows_on a rows ++ r ∷ []) ∷ lanes)
    (lanes_from-round (a + 1) n rows round some (omega arith) (λ k s at. ap (λ p. rows_on p round) (let next : a + 1 + k ≡ a + suc k = omega arith in next)
    ∙ one (suc k) s at))

pub lanes_of-none : (m : ℕ) → lanes_of m [] ≡ replicate m []
lanes_of-none m = lanes_from-none 0 m

-- one round more
pub lanes_of-round : (m : ℕ) (rows round : List Row) → length round ≡ m → AreInOrder 0 round → lanes_of m (rows ++ round) ≡ with_round (lanes_of m rows) round
lanes_of-round m rows round long o = lanes_from-round 0 m rows round round long (λ k r at. rows_on-one 0 round o k r at)

pub length-lanes_of : (m : ℕ) (rows : List Row) → length (lanes_of m rows) ≡ m
length-lanes_of m rows = length-map-range_with_len (λ p. rows_on p rows) 0 m

pub lane_of-lanes_of : (m : ℕ) (rows : List Row) (p : ℕ) → p < m → lane_of (lanes_of m rows) p ≡ rows_on p rows
lane_of-lanes_of m rows p l = get_or-map-range_with_len (λ q. rows_on q rows) 0 m p p [] l (omega arith)

-- what holds of all rows holds of those of one processor, and so in each lane
rows_on-all : (P : Row → Type 0) (p : ℕ) (rows : List Row) → AllByRecursion P rows → AllByRecursion P (rows_on p rows)
rows_on-all P p [] all = tt
rows_on-all P p (r ∷ rows) all =
    let rest = rows_on-all P p rows all.1 in
    elim (cases_Bool (r.processor == p)) [
      | inl on ↦ subst (λ (b : Bool). AllByRecursion P (cond b (r ∷ rows_on p rows) (rows_on p rows))) (sym on) (all.0, rest)
      | inr off ↦ subst (λ (b : Bool). AllByRecursion P (cond b (r ∷ rows_on p rows) (rows_on p rows))) (sym off) rest
    ]

lanes_from-all : (P : Row → Type 0) (a n : ℕ) (rows : List Row) → AllByRecursion P rows → AllByRecursion (λ lane. AllByRecursion P lane) (lanes_from a n rows)
lanes_from-all P a zero rows all = tt
lanes_from-all P a (suc n) rows all = (rows_on-all P a rows all, lanes_from-all P (a + 1) n rows all)

pub lanes_of-all : (P : Row → Type 0) (m : ℕ) (rows : List Row) → AllByRecursion P rows → AllByRecursion (λ lane. AllByRecursion P lane) (lanes_of m rows)
lanes_of-all P m rows all = lanes_from-all P 0 m rows all

-- ---- ends

end_after-push : (before : ℕ) (rows : List Row) (r : Row) → end_after before (rows ++ r ∷ []) ≡ r.end
end_after-push before [] r = refl
end_after-push before (s ∷ rows) r = end_after-push s.end rows r

-- a round ends where its first row does
pub end_of-with_round : (lanes : List (List Row)) (round : List Row) (end : ℕ) → length round ≡ length lanes → 0 < length lanes →
    ((r : Row) → slice_get round 0 ≡ Some r → r.end ≡ end)
    → end_of (with_round lanes round) ≡ end
end_of-with_round [] round end same some is = absurd (omega arith)
end_of-with_round (lane ∷ lanes) [] end same some is = absurd (omega arith)
end_of-with_round (lane ∷ lanes) (r ∷ round) end same some is = end_after-push 0 lane r ∙ is r refl
