-- What a further round leaves true of a table.
use Rattle.std.proofs.Common.{◌≡◌, ◌⊎◌, inl, inr, ℕ, zero, suc, ◌+◌, ◌<◌, List, [], ◌∷◌, ◌++◌, Some, None, length, get_or, replicate, refl, sym, ap, ◌∙◌, arith}
use Rattle.std.specs.Prelude.{slice_get}
use Rattle.std.proofs.lemmas.Option.{slice_get_within, slice_get-get_or}
use Rattle.std.proofs.lemmas.List.{length_push, nil_from_length}
use Rattle.sched_base.specs.declared.rows.Row.{Row}
use Rattle.sched_base.specs.declared.rows.Leaf.TheVariants.{Empty}
use Rattle.sched_base.specs.Tables.{lane_of, RowAt, rounds_in, end_after, end_of, IsRound, IsTable, with_round}

-- a place of a list with one element more is one of before, or the new one
pub slice_get-push : {X : Type 0} (xs : List X) (y x : X) (k : ℕ) → slice_get (xs ++ y ∷ []) k ≡ Some x → ((k < length xs) × (slice_get xs k ≡ Some x))
    ⊎ ((k ≡ length xs) × (y ≡ x))
slice_get-push [] y x zero h = let e : Some y ≡ Some x = h in inr (refl, cc)
slice_get-push [] y x (suc k) h = cc
slice_get-push (z ∷ xs) y x zero h = inl (omega arith, h)
slice_get-push (z ∷ xs) y x (suc k) h = elim (slice_get-push xs y x k h) [ inl a ↦ inl (omega arith, a.1) | inr b ↦ inr (omega arith, b.1) ]

-- a row of the table with one round more is one of before, or one of that round
pub RowAt-with_round : (lanes : List (List Row)) (rows : List Row) (p k : ℕ) (r : Row) → RowAt (with_round lanes rows) p k r
    → ((k < length (lane_of lanes p)) × RowAt lanes p k r) ⊎ ((p < length lanes) × (k ≡ length (lane_of lanes p)) × (slice_get rows p ≡ Some r))
RowAt-with_round [] rows p k r h = absurd (let e : None ≡ Some r = h in cc)
RowAt-with_round (lane ∷ lanes) [] p k r h = inl (omega (arith, slice_get_within (lane_of (lane ∷ lanes) p) k r h), h)
RowAt-with_round (lane ∷ lanes) (s ∷ rows) zero k r h = elim (slice_get-push lane s r k h) [ inl a ↦ inl a | inr b ↦ inr (omega arith, b.0, ap Some b.1) ]
RowAt-with_round (lane ∷ lanes) (s ∷ rows) (suc p) k r h = elim (RowAt-with_round lanes rows p k r h) [ inl a ↦ inl a | inr b ↦ inr (omega arith, b.1, b.2) ]

pub length-with_round : (lanes : List (List Row)) (rows : List Row) → length (with_round lanes rows) ≡ length lanes
length-with_round [] rows = refl
length-with_round (lane ∷ lanes) [] = refl
length-with_round (lane ∷ lanes) (r ∷ rows) = ap suc (length-with_round lanes rows)

-- each lane is longer by one
pub length-lane_of-with_round : (lanes : List (List Row)) (rows : List Row) (p : ℕ) → length rows ≡ length lanes → p < length lanes →
    length (lane_of (with_round lanes rows) p) ≡ length (lane_of lanes p) + 1
length-lane_of-with_round [] rows p same within = absurd (omega arith)
length-lane_of-with_round (lane ∷ lanes) [] p same within = absurd (omega arith)
length-lane_of-with_round (lane ∷ lanes) (r ∷ rows) zero same within = length_push lane r
length-lane_of-with_round (lane ∷ lanes) (r ∷ rows) (suc p) same within = length-lane_of-with_round lanes rows p (omega arith) (omega arith)

-- the last row of a lane tells where it ends
pub end_after-last : (rows : List Row) (before k : ℕ) (r : Row) → slice_get rows k ≡ Some r → k + 1 ≡ length rows → end_after before rows ≡ r.end
end_after-last [] before k r h last = cc
end_after-last (s ∷ []) before zero r h last = let e : Some s ≡ Some r = h in let same : s ≡ r = cc in ap (λ (x : Row). x.end) same
end_after-last (s ∷ (t ∷ rows)) before zero r h last = absurd (omega arith)
end_after-last (s ∷ rows) before (suc k) r h last = end_after-last rows s.end k r h (omega arith)

-- a row stands on a lane that is there
pub lane_within : (lanes : List (List Row)) (p k : ℕ) (r : Row) → RowAt lanes p k r → p < length lanes
lane_within [] p k r at = absurd (let e : None ≡ Some r = at in cc)
lane_within (lane ∷ lanes) zero k r at = omega arith
lane_within (lane ∷ lanes) (suc p) k r at = let w = lane_within lanes p k r at in omega (arith, w)

-- stands where there is no row, and is never looked at
abbrev pub no_row : Row
no_row = record { processor = 0; start = 0; end = 0; leaf = Empty }

-- each round has a row of each processor
pub row_at : (lanes : List (List Row)) → IsTable lanes → (p k : ℕ) → p < length lanes → k < rounds_in lanes → (r : Row) × RowAt lanes p k r
row_at lanes h p k within round =
    let whole : length (lane_of lanes p) ≡ rounds_in lanes = h.whole p within in
    (get_or (lane_of lanes p) k no_row, slice_get-get_or (lane_of lanes p) k no_row (omega (arith, whole)))

-- a row stands on a processor and in a round that are there
pub row_within : (lanes : List (List Row)) → IsTable lanes → (p k : ℕ) (r : Row) → RowAt lanes p k r → (p < length lanes) × (k < rounds_in lanes)
row_within lanes h p k r at =
    let inside : p < length lanes = lane_within lanes p k r at in
    let whole : length (lane_of lanes p) ≡ rounds_in lanes = h.whole p inside in
    let early : k < length (lane_of lanes p) = slice_get_within (lane_of lanes p) k r at in
    (inside, omega (arith, whole))

module _ (lanes : List (List Row)) (rows : List Row) (h : IsTable lanes) (whole : length rows ≡ length lanes) (round : IsRound (end_of lanes) rows) where
  -- a place in the new round is no place of before
  not_before : (p q k : ℕ) (r : Row) → RowAt lanes p k r → k ≡ length (lane_of lanes q) → q < length lanes → ⊥
  not_before p q k r at here within =
      let inside : p < length lanes = lane_within lanes p k r at in
      let early : k < length (lane_of lanes p) = slice_get_within (lane_of lanes p) k r at in
      let a : length (lane_of lanes p) ≡ rounds_in lanes = h.whole p inside in
      let b : length (lane_of lanes q) ≡ rounds_in lanes = h.whole q within in
      absurd (omega (arith, a, b))

  -- the last round ends where the table does
  ends_there : (p k : ℕ) (r : Row) → RowAt lanes p k r → k + 1 ≡ length (lane_of lanes p) → end_of lanes ≡ r.end
  ends_there p k r at last =
      let inside : p < length lanes = lane_within lanes p k r at in
      let whole_p : length (lane_of lanes p) ≡ rounds_in lanes = h.whole p inside in
      let at0 : RowAt lanes 0 k (get_or (lane_of lanes 0) k r) = slice_get-get_or (lane_of lanes 0) k r (omega (arith, whole_p)) in
      let same = (h.together 0 p k (get_or (lane_of lanes 0) k r) r at0 at).1 in
      end_after-last (lane_of lanes 0) 0 k (get_or (lane_of lanes 0) k r) at0 (omega (arith, whole_p)) ∙ same

  pub IsTable-with_round : IsTable (with_round lanes rows)
  IsTable-with_round = record {
    whole = λ p within.
        let inside : p < length lanes = omega (arith, length-with_round lanes rows) in
        length-lane_of-with_round lanes rows p whole inside ∙ ap (λ n. n + 1) (h.whole p inside) ∙ sym (length-lane_of-with_round lanes rows 0 whole
        (omega arith));
    own = λ p k r at. elim (RowAt-with_round lanes rows p k r at) [ inl a ↦ h.own p k r a.1 | inr b ↦ round.own p r b.2 ];
    forward = λ p k r at. elim (RowAt-with_round lanes rows p k r at) [ inl a ↦ h.forward p k r a.1 | inr b ↦ round.forward p r b.2 ];
    first = λ p r at. elim (RowAt-with_round lanes rows p 0 r at) [
      | inl a ↦ h.first p r a.1
      | inr b ↦ (let none : lane_of lanes 0 ≡ [] = nil_from_length (lane_of lanes 0) (let w = h.whole p b.0 in omega (arith, w, b.1)) in
          round.starts p r b.2 ∙ ap (end_after 0) none)
    ];
    next = λ p k r s at then. elim (RowAt-with_round lanes rows p k r at) [
      | inl a ↦ elim (RowAt-with_round lanes rows p (k + 1) s then) [
        | inl a' ↦ h.next p k r s a.1 a'.1
        | inr b' ↦ round.starts p s b'.2 ∙ ends_there p k r a.1 b'.1
      ]
      | inr b ↦ elim (RowAt-with_round lanes rows p (k + 1) s then) [
        | inl a' ↦ absurd (omega arith)
        | inr b' ↦ absurd (omega arith)
      ]
    ];
    together = λ p q k r s at there. elim (RowAt-with_round lanes rows p k r at) [
      | inl a ↦ elim (RowAt-with_round lanes rows q k s there) [
        | inl a' ↦ h.together p q k r s a.1 a'.1
        | inr b' ↦ absurd (not_before p q k r a.1 b'.1 b'.0)
      ]
      | inr b ↦ elim (RowAt-with_round lanes rows q k s there) [
        | inl a' ↦ absurd (not_before q p k s a'.1 b.1 b.0)
        | inr b' ↦ (round.starts p r b.2 ∙ sym (round.starts q s b'.2), round.ends p q r s b.2 b'.2)
      ]
    ];
    once = λ p q k r s task at there is is'. elim (RowAt-with_round lanes rows p k r at) [
      | inl a ↦ elim (RowAt-with_round lanes rows q k s there) [
        | inl a' ↦ h.once p q k r s task a.1 a'.1 is is'
        | inr b' ↦ absurd (not_before p q k r a.1 b'.1 b'.0)
      ]
      | inr b ↦ elim (RowAt-with_round lanes rows q k s there) [
        | inl a' ↦ absurd (not_before q p k s a'.1 b.1 b.0)
        | inr b' ↦ round.once p q r s task b.2 b'.2 is is'
      ]
    ];
  }

-- lanes with no row have none
lane_of-none : (n p : ℕ) → lane_of (replicate n []) p ≡ []
lane_of-none zero p = refl
lane_of-none (suc n) zero = refl
lane_of-none (suc n) (suc p) = lane_of-none n p

is_none : (n p k : ℕ) (r : Row) → RowAt (replicate n []) p k r → ⊥
is_none n p k r at = let e : None ≡ Some r = rw (lane_of-none n p) at at in cc

-- a table with no round
pub IsTable-none : (n : ℕ) → IsTable (replicate n [])
IsTable-none n = record {
  whole = λ p within. ap length (lane_of-none n p ∙ sym (lane_of-none n 0));
  own = λ p k r at. absurd (is_none n p k r at);
  forward = λ p k r at. absurd (is_none n p k r at);
  first = λ p r at. absurd (is_none n p 0 r at);
  next = λ p k r s at then. absurd (is_none n p k r at);
  together = λ p q k r s at there. absurd (is_none n p k r at);
  once = λ p q k r s task at there is is'. absurd (is_none n p k r at);
}
