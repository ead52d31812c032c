-- Which processors hold another pack than before.
use Rattle.std.proofs.Common.{◌≡◌, ◌≢◌, ℕ, zero, suc, ◌+◌, ◌<◌, ◌≤◌, ◌&&◌, ◌||◌, not, Bool, true, false, List, [], ◌∷◌, map, find, length, get_or}
use Rattle.std.proofs.Common.{Option, Some, None, refl, ap, arith, inl, inr, sym, ◌∙◌}
use Rattle.std.specs.List.{range_with_len, list_any}
use Rattle.std.specs.Option.{option_or}
use Rattle.std.proofs.lemmas.Bool.{cases_Bool, and_from}
use Rattle.std.proofs.lemmas.List.{get_or-map, length-map}
use Rattle.std.proofs.lemmas.List.FromFn.{get_or-map-range_with_len}
use Rattle.sched_base.specs.Candidates.{is_at}
use Rattle.sched_base.specs.Counting.{bit}
use Rattle.sched_base.specs.Places.{Placing, is_running, is_held, kept, returned, comes_back, filled, waiting, onto_next, holder_from, place}
use Rattle.sched_base.proofs.CountingLemmas.{bit_at, bit_off}
use Rattle.sched_base.proofs.EarliestLemmas.{is_at_some}
use Rattle.sched_base.proofs.HeldLemmas.{held, held_at, runs_within}
use Rattle.sched_base.proofs.PlaceLemmas.{placed_at_most}
use Rattle.cpu_assign.specs.Noted.{IsNoted}
use Rattle.cpu_assign.specs.Changed.{stopping}
use Rattle.cpu_assign.proofs.BackLemmas.{returned_at}
use Rattle.cpu_assign.proofs.HolderLemmas.{holds_within}
use Rattle.cpu_assign.proofs.ListedLemmas.{passing_index, stopped_are}
use Rattle.cpu_assign.proofs.NoteLemmas.{noted_next, onto_once}
use Rattle.cpu_assign.proofs.StepLemmas.{steps_are_next}

-- who has a pack keeps it while the free ones are filled
filled_keeps : (onto : List (Option ℕ)) (packs : List ℕ) (q i : ℕ) → get_or onto q None ≡ Some i → get_or (filled onto packs) q None ≡ Some i
filled_keeps [] packs q i e = e
filled_keeps (Some j ∷ os) packs zero i e = e
filled_keeps (Some j ∷ os) packs (suc q) i e = filled_keeps os packs q i e
filled_keeps (None ∷ os) packs zero i e = absurd (let s : None ≡ Some i = e in cc)
filled_keeps (None ∷ os) [] (suc q) i e = filled_keeps os [] q i e
filled_keeps (None ∷ os) (j ∷ packs) (suc q) i e = filled_keeps os packs q i e

kept_on : (runs : List Bool) (i : ℕ) → is_running runs i ≡ true → kept runs (Some i) ≡ Some i
kept_on runs i on = ap (λ (b : Bool). elim b as (λ y. Option ℕ) [ true ↦ Some i | false ↦ None ]) on

-- a pack that is on no processor has none found
holder_none : (os : List (Option ℕ)) (p i : ℕ) (before : Option ℕ) → held os i ≡ 0 → holder_from p os i before ≡ before
holder_none [] p i before e = refl
holder_none (o ∷ os) p i before e = elim (cases_Bool (is_at o i)) [
  | inl on ↦ absurd (let b = bit_at (is_at o i) on in omega (arith, b, e))
  | inr off ↦
      (let b = bit_off (is_at o i) off in
      ap (λ (c : Bool). elim c as (λ y. Option ℕ) [ true ↦ Some p | false ↦ holder_from (suc p) os i before ]) off ∙ holder_none os (suc p) i before
      (omega (arith, b, e)))
]

-- a pack that is held is on some processor
held_where : (os : List (Option ℕ)) (i : ℕ) → is_held os i ≡ true → (q : ℕ) × (get_or os q None ≡ Some i)
held_where [] i e = absurd (let s : false ≡ true = e in cc)
held_where (o ∷ os) i e = elim (cases_Bool (is_at o i)) [
  | inl on ↦ (0, is_at_some o i on)
  | inr off ↦ (let r = held_where os i (sym (ap (λ (b : Bool). b || list_any (λ o. is_at o i) os) off) ∙ e) in (suc r.0, r.1))
]

module _ (runs : List Bool) (places : Placing) (h : IsNoted places.onto places.last) (long : length places.last ≡ length runs) where
  -- a pack that runs on stays
  stays : (q i : ℕ) → is_running runs i ≡ true → get_or places.onto q None ≡ Some i → get_or (onto_next runs places) q None ≡ Some i
  stays q i on at =
      let stay = map (kept runs) places.onto in
      let l = holds_within places.onto q i at in
      let same = length-map places.onto (kept runs) in
      let k : get_or stay q None ≡ Some i = get_or-map (kept runs) places.onto q None None l ∙ ap (kept runs) at ∙ kept_on runs i on in
      let back : get_or (returned runs places.last stay 0 stay) q None ≡ Some i =
      returned_at runs places.last stay 0 stay q (omega (arith, l, same)) ∙ ap (λ o. option_or o (find (comes_back runs places.last stay (0 + q))
      (range_with_len 0 (length runs)))) k in
      ap (λ os. get_or os q None) (sym (steps_are_next runs places)) ∙ filled_keeps _ _ q i back

  at_most : (i : ℕ) → held (onto_next runs places) i ≤ bit (is_running runs i)
  at_most i = placed_at_most runs places (onto_once places.onto places.last h) i

  -- a pack that is on a processor runs
  on_runs : (q i : ℕ) → get_or (onto_next runs places) q None ≡ Some i → is_running runs i ≡ true
  on_runs q i at = elim (cases_Bool (is_running runs i)) [
    | inl on ↦ on
    | inr off ↦ absurd (let z = bit_off (is_running runs i) off in let most = at_most i in let some = held_at (onto_next runs places) q i
        (holds_within (onto_next runs places) q i at) at in omega (arith, z, most, some))
  ]

  -- one that stopped held the processor last where it was
  left : (q i : ℕ) → is_running runs i ≡ false → get_or places.onto q None ≡ Some i → get_or (place runs places).last i None ≡ Some q
  left q i off at =
      let n = h.noted q i at in
      let b = n.0 in
      let z = bit_off (is_running runs i) off in
      let most = at_most i in
      get_or-map-range_with_len (λ j. holder_from 0 (onto_next runs places) j (get_or places.last j None)) 0 (length runs) i i None (omega (arith, b, long))
      (omega arith)
      ∙ holder_none (onto_next runs places) 0 i (get_or places.last i None) (omega (arith, z, most)) ∙ n.1

  same_some : (a b : ℕ) → Some a ≡ Some b → a ≡ b
  same_some a b e = cc

  -- one that is on a processor that was free was on none
  came : (q j : ℕ) → get_or places.onto q None ≡ None → get_or (onto_next runs places) q None ≡ Some j → is_held places.onto j ≡ false
  came q j free at = elim (cases_Bool (is_held places.onto j)) [
    | inr off ↦ off
    | inl on ↦ absurd (
        let w = held_where places.onto j on in
        let n = noted_next runs places h long in
        let there = (n.noted w.0 j (stays w.0 j (on_runs q j at) w.1)).1 in
        let here = (n.noted q j at).1 in
        let same = same_some q w.0 (sym here ∙ there) in
        let e : None ≡ Some j = sym free ∙ ap (λ x. get_or places.onto x None) same ∙ w.1 in cc)
  ]

  -- A pack that a processor holds was there before, unless it begins.
  pub held_before : (q i : ℕ) → get_or (place runs places).onto q None ≡ Some i →
      ((k : ℕ) → k < length (waiting runs places.onto) → get_or (waiting runs places.onto) k 0 ≢ i) → get_or places.onto q None ≡ Some i
  held_before q i at not_begun = elim (cases_Bool (is_held places.onto i)) [
    | inl on ↦
        (let w = held_where places.onto i on in
        let n = noted_next runs places h long in
        let there = (n.noted w.0 i (stays w.0 i (on_runs q i at) w.1)).1 in
        let here = (n.noted q i at).1 in
        let same = same_some q w.0 (sym here ∙ there) in
        ap (λ x. get_or places.onto x None) same ∙ w.1)
    | inr off ↦ absurd (
        let on = on_runs q i at in
        let w = passing_index (λ j. is_running runs j && not (is_held places.onto j)) (length runs) 0 i (omega arith) (let l = runs_within runs i on in
        omega (arith, l)) (and_from (is_running runs i) (not (is_held places.onto i)) on (ap not off)) in
        not_begun w.0 w.1 w.2)
  ]

  -- A processor holds what it held before, unless a pack that stopped or began holds it, or held it last.
  pub moved : (q : ℕ) → ((k : ℕ) → k < length (stopping runs places.onto) → get_or (place runs places).last (get_or (stopping runs places.onto) k 0) None ≢
      Some q) →
      ((k : ℕ) → k < length (waiting runs places.onto) → get_or (place runs places).last (get_or (waiting runs places.onto) k 0) None ≢ Some q) →
      get_or (place runs places).onto q None ≡ get_or places.onto q None
  moved q not_stopped not_begun = go (get_or places.onto q None) refl
    where
      fill : (o : Option ℕ) → get_or (onto_next runs places) q None ≡ o → get_or places.onto q None ≡ None → o ≡ None
      fill None e at = refl
      fill (Some j) e at = absurd (
          let on = on_runs q j e in
          let off = came q j at e in
          let w = passing_index (λ i. is_running runs i && not (is_held places.onto i)) (length runs) 0 j (omega arith) (let l = runs_within runs j on in
          omega (arith, l)) (and_from (is_running runs j) (not (is_held places.onto j)) on (ap not off)) in
          not_begun w.0 w.1 (ap (λ x. get_or (place runs places).last x None) w.2 ∙ ((noted_next runs places h long).noted q j e).1))

      go : (o : Option ℕ) → get_or places.onto q None ≡ o → get_or (place runs places).onto q None ≡ get_or places.onto q None
      go None at = fill (get_or (onto_next runs places) q None) refl at ∙ sym at
      go (Some i) at = elim (cases_Bool (is_running runs i)) [
        | inl on ↦ stays q i on at ∙ sym at
        | inr off ↦ absurd (
            let w = (stopped_are runs places.onto places.last (stopping runs places.onto) h long refl).all q i at off in
            not_stopped w.0 w.1 (ap (λ x. get_or (place runs places).last x None) w.2 ∙ left q i off at))
      ]
