-- First fit over the rates of packs.
use Rattle.std.proofs.Common.{◌≡◌, ℕ, zero, suc, ◌+◌, ◌<◌, ◌≤◌, Bool, true, false, List, [], ◌∷◌, ◌++◌, length, get_or, set, nat_le, refl, ap, arith}
use Rattle.std.proofs.Common.{inl, inr, sym, subst}
use Rattle.std.proofs.lemmas.Bool.{cases_Bool, leb-true, leb-false}
use Rattle.std.specs.List.{AllByRecursion}
use Rattle.sched_base.specs.FirstFit.{first_with_room, with_item}

pub record IsRoom (scale r : ℕ) (ss : List ℕ) (b : ℕ) : Type 0 where
  pub low : b ≤ length ss
  pub full : (k : ℕ) → k < b → scale < get_or ss k 0 + r
  pub fits : b < length ss → get_or ss b 0 + r ≤ scale

abbrev pub room_case : ℕ → Bool → ℕ
room_case rest room = elim room [ true ↦ 0 | false ↦ suc rest ]

pub room_is : (scale r : ℕ) (ss : List ℕ) → IsRoom scale r ss (first_with_room scale r ss)
room_is scale r [] = record { low = omega arith; full = λ k l. absurd (omega arith); fits = λ l. absurd (omega arith) }
room_is scale r (s ∷ ss) =
    let ih = room_is scale r ss in
    elim (cases_Bool (nat_le (s + r) scale)) [
      | inl e ↦ (let P : ℕ → Type 0 = λ b. IsRoom scale r (s ∷ ss) b in
          let f = leb-true (s + r) scale e in
          subst P (sym (ap (room_case (first_with_room scale r ss)) e)) (record { low = omega arith; full = λ k l. absurd (omega arith); fits = λ l. f }))
      | inr e ↦ (let P : ℕ → Type 0 = λ b. IsRoom scale r (s ∷ ss) b in
          let f = leb-false (s + r) scale e in
          let low = ih.low in
          subst P (sym (ap (room_case (first_with_room scale r ss)) e))
          (record { low = omega (arith, low); full = full f ih; fits = λ l. ih.fits (omega arith) }))
    ]
  where
    full : scale < s + r → IsRoom scale r ss (first_with_room scale r ss) → (k : ℕ) → k < suc (first_with_room scale r ss) → scale < get_or (s ∷ ss) k 0 + r
    full f ih zero l = f
    full f ih (suc k) l = ih.full k (omega arith)

pub with_item_old : (r b : ℕ) (ss : List ℕ) → b < length ss → set ss b (get_or ss b 0 + r) ≡ with_item r b ss
with_item_old r b [] l = absurd (omega arith)
with_item_old r zero (s ∷ ss) l = refl
with_item_old r (suc b) (s ∷ ss) l = ap (λ xs. s ∷ xs) (with_item_old r b ss (omega arith))

pub with_item_new : (r b : ℕ) (ss : List ℕ) → length ss ≤ b → ss ++ r ∷ [] ≡ with_item r b ss
with_item_new r b [] l = refl
with_item_new r zero (s ∷ ss) l = absurd (omega arith)
with_item_new r (suc b) (s ∷ ss) l = ap (λ xs. s ∷ xs) (with_item_new r b ss (omega arith))

-- any two rates exceed the scale
abbrev pub PairsExceed : ℕ → List ℕ → Type 0
PairsExceed scale [] = Unit {0}
PairsExceed scale (s ∷ ss) = AllByRecursion (λ y. scale < s + y) ss × PairsExceed scale ss

pub all_more : (scale s t : ℕ) (ss : List ℕ) → s ≤ t → AllByRecursion (λ y. scale < s + y) ss → AllByRecursion (λ y. scale < t + y) ss
all_more scale s t [] l a = tt
all_more scale s t (y ∷ ss) l a = ((let b = a.0 in omega (arith, b, l)), all_more scale s t ss l a.1)

pub all_with_item : (scale s r b : ℕ) (ss : List ℕ) → scale < s + r → AllByRecursion (λ y. scale < s + y) ss → AllByRecursion (λ y. scale < s + y)
    (with_item r b ss)
all_with_item scale s r b [] f a = (f, tt)
all_with_item scale s r zero (y ∷ ss) f a = ((let b = a.0 in omega (arith, b)), a.1)
all_with_item scale s r (suc b) (y ∷ ss) f a = (a.0, all_with_item scale s r b ss f a.1)

pub pairs_with_item : (scale r b : ℕ) (ss : List ℕ) → IsRoom scale r ss b → PairsExceed scale ss → PairsExceed scale (with_item r b ss)
pairs_with_item scale r b [] room h = (tt, tt)
pairs_with_item scale r zero (s ∷ ss) room h = (all_more scale s (s + r) ss (omega arith) h.0, h.1)
pairs_with_item scale r (suc b) (s ∷ ss) room h =
    let low = room.low in (
      all_with_item scale s r b ss (room.full 0 (omega arith)) h.0,
      pairs_with_item scale r b ss (record { low = omega (arith, low); full = λ k l. room.full (suc k) (omega arith); fits = λ l. room.fits (omega arith) })
          h.1,
    )

pub pairs_at : (scale : ℕ) (ss : List ℕ) → PairsExceed scale ss → (i j : ℕ) → i < j → j < length ss → scale < get_or ss i 0 + get_or ss j 0
pairs_at scale [] h i j l m = absurd (omega arith)
pairs_at scale (s ∷ ss) h zero zero l m = absurd (omega arith)
pairs_at scale (s ∷ ss) h zero (suc j) l m = all_at ss j h.0 (omega arith)
  where
    all_at : (ys : List ℕ) (k : ℕ) → AllByRecursion (λ y. scale < s + y) ys → k < length ys → scale < s + get_or ys k 0
    all_at [] k a b = absurd (omega arith)
    all_at (y ∷ ys) zero a b = a.0
    all_at (y ∷ ys) (suc k) a b = all_at ys k a.1 (omega arith)
pairs_at scale (s ∷ ss) h (suc i) zero l m = absurd (omega arith)
pairs_at scale (s ∷ ss) h (suc i) (suc j) l m = pairs_at scale ss h.1 i j (omega arith) (omega arith)

pub with_item_some : (r b : ℕ) (ss : List ℕ) → length ss ≤ length (with_item r b ss)
with_item_some r b [] = omega arith
with_item_some r zero (s ∷ ss) = omega arith
with_item_some r (suc b) (s ∷ ss) = let ih = with_item_some r b ss in omega (arith, ih)

pub with_item_one : (r b : ℕ) (ss : List ℕ) → 0 < length (with_item r b ss)
with_item_one r b [] = omega arith
with_item_one r zero (s ∷ ss) = omega arith
with_item_one r (suc b) (s ∷ ss) = omega arith

pub with_item_last : (r b : ℕ) (ss : List ℕ) → length ss ≤ b → (n : ℕ) → n ≡ length ss → with_item r n (ss ++ 0 ∷ []) ≡ with_item r b ss
with_item_last r b [] l zero e = ap (λ x. x ∷ []) (omega arith)
with_item_last r b [] l (suc n) e = absurd (omega arith)
with_item_last r zero (s ∷ ss) l n e = absurd (omega arith)
with_item_last r (suc b) (s ∷ ss) l zero e = absurd (omega arith)
with_item_last r (suc b) (s ∷ ss) l (suc n) e = ap (λ xs. s ∷ xs) (with_item_last r b ss (omega arith) n (omega arith))
