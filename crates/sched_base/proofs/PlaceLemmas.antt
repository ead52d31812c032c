-- Each pack that runs is placed, on one processor; and while the same packs run they keep their processors.
use Rattle.std.proofs.Common.{Bool, List, None, Option, Some, [], ap, ap₂, arith, eq-eqb, eqb, false, find, get_or, inl, inr, le_refl, length, map}
use Rattle.std.proofs.Common.{mul-le-mul_right, not, refl, suc, sym, true, zero-add, ℕ, ◌&&◌, ◌+◌, ◌<◌, ◌∙◌, ◌∷◌, ◌≡◌, ◌≤◌, ◌⊎◌}
use Rattle.std.proofs.Math.Bool.{and-true}
use Rattle.std.proofs.lemmas.Bool.{and_left, and_parts, and_right, both_ways, cases_Bool, cases_lt, not-true}
use Rattle.std.proofs.lemmas.List.{get_or_past, length-map}
use Rattle.std.specs.List.{range_with_len}
use Rattle.sched_base.specs.Counting.{bit, sum_to}
use Rattle.sched_base.specs.Candidates.{is_at}
use Rattle.sched_base.specs.Places.{Placing, back_and_filled, comes_back, filled, filled_up, is_held, is_running, kept, onto_next, place, returned, waiting}
use Rattle.sched_base.proofs.CountingLemmas.{bit_at, bit_le, bit_off}
use Rattle.sched_base.proofs.SumLemmas.{sum_to-add, sum_to-same}
use Rattle.sched_base.proofs.ListLemmas.{filter_none, find_none, find_passes, length-passing, times_at_most, times_from}
use Rattle.sched_base.proofs.EarliestLemmas.{is_at_one, is_at_some}
use Rattle.sched_base.proofs.HeldLemmas.{free, held, held-zero, held_filled, held_filled_at_most, held_kept, held_some, length-filled}
use Rattle.sched_base.proofs.HeldLemmas.{length-returned, runs_within, sum_held}

module _ (runs : List Bool) (last onto : List (Option ℕ)) where
  -- the pack that comes back to processor p
  abbrev pub back_to : ℕ → Option ℕ
  back_to p = find (comes_back runs last onto p) (range_with_len 0 (length runs))

  -- it runs, keeps no processor, and held p last
  pub back_is : (p i : ℕ) → is_at (back_to p) i ≡ true → (is_running runs i ≡ true) × (is_held onto i ≡ false) × (is_at (get_or last i None) p ≡ true)
  back_is p i at =
      let passes = find_passes (comes_back runs last onto p) (range_with_len 0 (length runs)) i (is_at_some (back_to p) i at) in
      let both = and_parts (is_running runs i) (not (is_held onto i) && is_at (get_or last i None) p) passes in
      let more = and_parts (not (is_held onto i)) (is_at (get_or last i None) p) both.1 in
      (both.0, not-true (is_held onto i) more.0, more.1)

  -- a pack that keeps its processor comes back to none
  pub returned_kept : (i : ℕ) → is_held onto i ≡ true → (p : ℕ) (rest : List (Option ℕ)) → held (returned runs last onto p rest) i ≡ held rest i
  returned_kept i e p [] = refl
  returned_kept i e p (Some j ∷ rest) = let ih = returned_kept i e (suc p) rest in omega (arith, ih)
  returned_kept i e p (None ∷ rest) =
      let ih = returned_kept i e (suc p) rest in
      elim (cases_Bool (is_at (back_to p) i)) [
        | inl at ↦ absurd (both_ways (is_held onto i) (back_is p i at).1 e)
        | inr off ↦ omega (arith, ih, bit_off (is_at (back_to p) i) off)
      ]

  -- past the processor that it held last a pack comes back to none
  pub returned_past : (i q : ℕ) → ((p : ℕ) → is_at (get_or last i None) p ≡ true → p < q) → (p : ℕ) → q ≤ p → (rest : List (Option ℕ)) → held rest i ≡ 0 →
      held (returned runs last onto p rest) i ≡ 0
  returned_past i q h p l [] z = refl
  returned_past i q h p l (Some j ∷ rest) z = let ih = returned_past i q h (suc p) (omega arith) rest (omega arith) in omega (arith, ih)
  returned_past i q h p l (None ∷ rest) z =
      let ih = returned_past i q h (suc p) (omega arith) rest (omega arith) in
      elim (cases_Bool (is_at (back_to p) i)) [
        | inl at ↦ absurd (let less = h p (back_is p i at).2 in omega (arith, less))
        | inr off ↦ omega (arith, ih, bit_off (is_at (back_to p) i) off)
      ]

  -- a pack that keeps no processor comes back to one at most, and only where it runs
  pub returned_once : (i p : ℕ) (rest : List (Option ℕ)) → held rest i ≡ 0 → held (returned runs last onto p rest) i ≤ bit (is_running runs i)
  returned_once i p [] z = omega arith
  returned_once i p (Some j ∷ rest) z = let ih = returned_once i (suc p) rest (omega arith) in omega (arith, ih)
  returned_once i p (None ∷ rest) z =
      let ih = returned_once i (suc p) rest (omega arith) in
      elim (cases_Bool (is_at (back_to p) i)) [
        | inl at ↦
            (let is = back_is p i at in
            let none = returned_past i (suc p) (λ q e. (let same = is_at_one (get_or last i None) q p e is.2 in omega (arith, same))) (suc p)
            (le_refl (suc p)) rest (omega arith) in
            omega (arith, none, bit_le (is_at (back_to p) i), bit_at (is_running runs i) is.0))
        | inr off ↦ omega (arith, ih, bit_off (is_at (back_to p) i) off)
      ]

module _ (runs : List Bool) (places : Placing) (once : (i : ℕ) → held places.onto i ≤ 1) where
  -- the packs on the processors that stay
  abbrev pub kept_now : List (Option ℕ)
  kept_now = map (kept runs) places.onto

  -- with those that come back
  abbrev pub returned_now : List (Option ℕ)
  returned_now = returned runs places.last kept_now 0 kept_now

  -- a pack that runs on keeps at most one processor
  pub kept_once : (i : ℕ) → held kept_now i ≤ bit (is_running runs i)
  kept_once i =
      let e = held_kept runs places.onto i in
      let m = mul-le-mul_right (bit (is_running runs i)) (once i) in
      omega (arith, e, m)

  -- none comes back where it is held
  pub returned_at_most : (i : ℕ) → held returned_now i ≤ bit (is_running runs i)
  returned_at_most i =
      elim (cases_Bool (is_held kept_now i)) [
        | inl on ↦ (let e = returned_kept runs places.last kept_now i on 0 kept_now in let k = kept_once i in omega (arith, e, k))
        | inr off ↦ returned_once runs places.last kept_now i 0 kept_now (held-zero kept_now i off)
      ]

  -- whether pack i runs and is not placed yet
  abbrev pub waits_now : ℕ → Bool
  waits_now i = is_running runs i && not (is_held returned_now i)

  -- held, or waiting
  pub held_or_waiting : (i : ℕ) → held returned_now i + bit (waits_now i) ≡ bit (is_running runs i)
  held_or_waiting i =
      let most = returned_at_most i in
      let one = bit_le (is_running runs i) in
      elim (cases_Bool (is_held returned_now i)) [
        | inl on ↦ (let some = held_some returned_now i on in
            let z = bit_off (waits_now i) (and_right (is_running runs i) (not (is_held returned_now i)) (ap not on)) in
            omega (arith, most, one, some, z))
        | inr off ↦ (let z = held-zero returned_now i off in
            let e = ap (λ b. bit (is_running runs i && b)) (ap not off) in
            let t = and-true (is_running runs i) in
            omega (arith, z, e, ap bit t))
      ]

  -- no pack on two processors, and none that does not run
  pub placed_at_most : (i : ℕ) → held (onto_next runs places) i ≤ bit (is_running runs i)
  unfolding onto_next
  placed_at_most i =
      let f = held_filled_at_most returned_now (waiting runs returned_now) i in
      let w = times_at_most waits_now (length runs) 0 i in
      let e = held_or_waiting i in
      omega (arith, f, w, e)

  -- no processor goes away
  pub length-onto : length (onto_next runs places) ≡ length places.onto
  unfolding onto_next
  length-onto = length-filled returned_now (waiting runs returned_now) ∙ length-returned runs places.last kept_now 0 kept_now ∙ length-map places.onto
      (kept runs)

  -- where the waiting packs find room, each pack that runs is placed
  pub placed_where : length (waiting runs returned_now) ≤ free returned_now → (i : ℕ) → held (onto_next runs places) i ≡ bit (is_running runs i)
  unfolding onto_next
  placed_where fits i =
      let f = held_filled returned_now (waiting runs returned_now) i fits in
      let e = held_or_waiting i in
      elim (cases_lt i (length runs)) [
        | inl l ↦ (let at = times_from waits_now (length runs) 0 i (omega arith) (omega arith) in omega (arith, f, e, at))
        | inr l ↦
            (let z = bit_off (is_running runs i) (get_or_past runs i false l) in
            let at = times_at_most waits_now (length runs) 0 i in
            omega (arith, f, e, at, z))
      ]

  -- where no more packs run than there are processors, each pack that runs is placed
  pub placed_all : sum_to (length runs) (λ i. bit (is_running runs i)) ≤ length places.onto → (i : ℕ) → held (onto_next runs places) i ≡ bit (is_running runs i)
  unfolding onto_next
  placed_all room i =
      let w = length-passing waits_now (length runs) 0 in
      let w' = sum_to-same (length runs) (λ k. bit (waits_now (0 + k))) (λ k. bit (waits_now k))
      (λ k l. ap (λ x. bit (waits_now x)) (zero-add k)) in
      let all = sum_held (length runs) returned_now (λ j some. runs_within runs j (elim (cases_Bool (is_running runs j))
      [ inl on ↦ on | inr off ↦ (let most = returned_at_most j in let z = bit_off (is_running runs j) off in absurd (omega (arith, most, z, some))) ])) in
      let long = length-returned runs places.last kept_now 0 kept_now ∙ length-map places.onto (kept runs) in
      let split = sum_to-add (length runs) (λ k. held returned_now k) (λ k. bit (waits_now k)) in
      let whole = sum_to-same (length runs) (λ k. held returned_now k + bit (waits_now k)) (λ k. bit (is_running runs k)) (λ k l. held_or_waiting k) in
      let fits : length (waiting runs returned_now) ≤ free returned_now = omega (arith, w, w', all, long, split, whole, room) in
      placed_where fits i

-- where each pack that is held runs, all are kept
pub kept_all : (runs : List Bool) (onto : List (Option ℕ)) → ((i : ℕ) → 0 < held onto i → is_running runs i ≡ true) → map (kept runs) onto ≡ onto
kept_all runs [] h = refl
kept_all runs (None ∷ onto) h = ap (λ xs. None ∷ xs) (kept_all runs onto (λ i l. h i (omega arith)))
kept_all runs (Some j ∷ onto) h =
    let here = bit_at (eqb j j) (eq-eqb j j refl) in
    let on = h j (omega (arith, here)) in
    ap₂ (λ (x : Option ℕ) (xs : List (Option ℕ)). x ∷ xs) (ap (λ (b : Bool). elim b as (λ y. Option ℕ) [ true ↦ Some j | false ↦ None ]) on)
    (kept_all runs onto (λ i l. h i (omega arith)))

-- where no processor is free, none comes back
pub returned_full : (runs : List Bool) (last onto : List (Option ℕ)) (p : ℕ) (rest : List (Option ℕ)) → free rest ≡ 0 → returned runs last onto p rest ≡ rest
returned_full runs last onto p [] z = refl
returned_full runs last onto p (None ∷ rest) z = absurd (omega arith)
returned_full runs last onto p (Some j ∷ rest) z = ap (λ xs. Some j ∷ xs) (returned_full runs last onto (suc p) rest z)

-- nor where none has cause to
pub returned_none : (runs : List Bool) (last onto : List (Option ℕ)) → ((p i : ℕ) → comes_back runs last onto p i ≡ false) →
    (p : ℕ) (rest : List (Option ℕ)) → returned runs last onto p rest ≡ rest
returned_none runs last onto h p [] = refl
returned_none runs last onto h p (None ∷ rest) = ap₂ (λ (x : Option ℕ) (xs : List (Option ℕ)). x ∷ xs) (find_none (comes_back runs last onto p)
    (range_with_len 0 (length runs)) (h p)) (returned_none runs last onto h (suc p) rest)
returned_none runs last onto h p (Some j ∷ rest) = ap (λ xs. Some j ∷ xs) (returned_none runs last onto h (suc p) rest)

-- where no processor is free, none is filled
pub filled_full : (onto : List (Option ℕ)) (packs : List ℕ) → free onto ≡ 0 → filled onto packs ≡ onto
filled_full [] packs z = refl
filled_full (None ∷ onto) packs z = absurd (omega arith)
filled_full (Some j ∷ onto) packs z = ap (λ xs. Some j ∷ xs) (filled_full onto packs z)

-- nor where no pack waits
pub filled_nobody : (onto : List (Option ℕ)) → filled onto [] ≡ onto
filled_nobody [] = refl
filled_nobody (None ∷ onto) = ap (λ xs. None ∷ xs) (filled_nobody onto)
filled_nobody (Some j ∷ onto) = ap (λ xs. Some j ∷ xs) (filled_nobody onto)

-- after filling no processor is free, or each pack that waited found one
pub free_filled : (onto : List (Option ℕ)) (packs : List ℕ) → (free (filled onto packs) ≡ 0) ⊎ (length packs ≤ free onto)
free_filled [] [] = inl refl
free_filled [] (pack ∷ packs) = inl refl
free_filled (Some j ∷ onto) packs = free_filled onto packs
free_filled (None ∷ onto) [] = inr (omega arith)
free_filled (None ∷ onto) (pack ∷ packs) =
    elim (free_filled onto packs) [ inl z ↦ inl z | inr l ↦ inr (omega arith) ]

-- once more with the same packs: nothing moves
pub onto_still : (runs : List Bool) (places : Placing) → ((i : ℕ) → held places.onto i ≤ 1) → onto_next runs (place runs places) ≡ onto_next runs places
unfolding onto_next
onto_still runs places once = go (free_filled (returned_now runs places once) (waiting runs (returned_now runs places once)))
  where
    next : List (Option ℕ)
    next = onto_next runs places

    on_runs : (i : ℕ) → 0 < held next i → is_running runs i ≡ true
    on_runs i l = elim (cases_Bool (is_running runs i)) [
      | inl on ↦ on
      | inr off ↦ (let m = placed_at_most runs places once i in let z = bit_off (is_running runs i) off in absurd (omega (arith, m, z, l)))
    ]

    all_kept : map (kept runs) next ≡ next
    all_kept = kept_all runs next on_runs

    after : returned runs (place runs places).last next 0 next ≡ next → filled_up runs next ≡ next → onto_next runs (place runs places) ≡ next
    after r f = ap (back_and_filled runs (place runs places).last) all_kept ∙ ap (filled_up runs) r ∙ f

    go : (free next ≡ 0) ⊎ (length (waiting runs (returned_now runs places once)) ≤ free (returned_now runs places once)) →
        onto_next runs (place runs places) ≡ next
    go (inl z) = after (returned_full runs (place runs places).last next 0 next z) (filled_full next (waiting runs next) z)
    go (inr fits) =
        (let all : (i : ℕ) → held next i ≡ bit (is_running runs i) = placed_where runs places once fits in
        let covered : (i : ℕ) → (is_running runs i && not (is_held next i)) ≡ false = (λ i. elim (cases_Bool (is_running runs i)) [
          | inr off ↦ and_left (is_running runs i) (not (is_held next i)) off
          | inl on ↦ elim (cases_Bool (is_held next i)) [
            | inl yes' ↦ and_right (is_running runs i) (not (is_held next i)) (ap not yes')
            | inr no' ↦ (let z = held-zero next i no' in let a = all i in let o = bit_at (is_running runs i) on in absurd (omega (arith, z, a, o)))
          ]
        ]) in
        after
        (returned_none runs (place runs places).last next (λ p i. elim (cases_Bool (is_running runs i)) [
          | inr off ↦ and_left (is_running runs i) _ off
          | inl on ↦ and_right (is_running runs i) _ (and_left (not (is_held next i)) _ (sym (ap (λ (b : Bool). b && not (is_held next i)) on) ∙ covered i))
        ]) 0 next)
        (ap (filled next) (filter_none (λ i. is_running runs i && not (is_held next i)) (range_with_len 0 (length runs)) covered) ∙ filled_nobody next))
