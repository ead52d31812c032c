-- On how many processors a pack is, and how many are free.
use Rattle.std.proofs.Common.{Bool, List, None, Option, Some, [], ap, ap₂, arith, cond, count_by, eq-eqb, eqb, false, get_or, inl, inr, length, map}
use Rattle.std.proofs.Common.{refl, replicate, subst, suc, sym, true, zero, ℕ, ◌*◌, ◌+◌, ◌<◌, ◌||◌, ◌∙◌, ◌∷◌, ◌≡◌, ◌≤◌}
use Rattle.std.proofs.lemmas.Bool.{both_ways, cases_Bool, cases_eq, cases_lt, ne_eqb}
use Rattle.std.proofs.lemmas.List.{get_or_past}
use Rattle.std.proofs.lemmas.List.Sums.{sum_by-cons}
use Rattle.std.specs.List.{list_any}
use Rattle.sched_base.specs.Counting.{bit, sum_to}
use Rattle.sched_base.specs.Candidates.{is_at}
use Rattle.sched_base.specs.Places.{filled, is_held, is_running, kept, returned}
use Rattle.sched_base.proofs.CountingLemmas.{bit_at, bit_off, cond_bit}
use Rattle.sched_base.proofs.SumLemmas.{sum_to-add, sum_to-one, sum_to-same, sum_to-zero}
use Rattle.sched_base.proofs.ListLemmas.{times}

-- on how many processors pack i is
abbrev pub held : List (Option ℕ) → ℕ → ℕ
held [] i = 0
held (o ∷ onto) i = bit (is_at o i) + held onto i

-- how many processors hold no pack
abbrev pub free : List (Option ℕ) → ℕ
free [] = 0
free (None ∷ onto) = suc (free onto)
free (Some i ∷ onto) = free onto

-- a pack that is not held is on none
pub held-zero : (onto : List (Option ℕ)) (i : ℕ) → is_held onto i ≡ false → held onto i ≡ 0
held-zero [] i e = refl
held-zero (o ∷ onto) i e = elim (cases_Bool (is_at o i)) [
  | inl f ↦ absurd (both_ways (is_at o i || list_any (λ o. is_at o i) onto) e (ap (λ (b : Bool). b || list_any (λ o. is_at o i) onto) f))
  | inr f ↦ (let ih = held-zero onto i (sym (ap (λ (b : Bool). b || list_any (λ o. is_at o i) onto) f) ∙ e) in omega (arith, ih, bit_off (is_at o i) f))
]

-- and one that is held on some
pub held_some : (onto : List (Option ℕ)) (i : ℕ) → is_held onto i ≡ true → 0 < held onto i
held_some [] i e = cc
held_some (o ∷ onto) i e = elim (cases_Bool (is_at o i)) [
  | inl f ↦ omega (arith, bit_at (is_at o i) f)
  | inr f ↦ (let ih = held_some onto i (sym (ap (λ (b : Bool). b || list_any (λ o. is_at o i) onto) f) ∙ e) in omega (arith, ih))
]

-- a pack that runs stays where it is, and another one goes
pub held_kept : (runs : List Bool) (onto : List (Option ℕ)) (i : ℕ) → held (map (kept runs) onto) i ≡ held onto i * bit (is_running runs i)
held_kept runs [] i = omega arith
held_kept runs (None ∷ onto) i = let ih = held_kept runs onto i in omega (arith, ih)
held_kept runs (Some j ∷ onto) i =
    let ih = held_kept runs onto i in
    let one : bit (is_at (kept runs (Some j)) i) ≡ bit (eqb j i) * bit (is_running runs i) =
    elim (cases_Bool (is_running runs j)) [
      | inl on ↦
          (let e = ap (λ (b : Bool). bit (is_at (elim b as (λ x. Option ℕ) [ true ↦ Some j | false ↦ None ]) i)) on in
          elim (cases_eq j i) [
            | inl same ↦ (let P : ℕ → Type 0 = λ x. is_running runs x ≡ true in let r = bit_at (is_running runs i) (subst P same on) in
                omega (arith, e, ap (λ w. bit (eqb j i) * w) r))
            | inr ne ↦ (let z = bit_off (eqb j i) (ne_eqb j i ne) in omega (arith, e, z, ap (λ w. w * bit (is_running runs i)) z))
          ])
      | inr off ↦
          (let e = ap (λ (b : Bool). bit (is_at (elim b as (λ x. Option ℕ) [ true ↦ Some j | false ↦ None ]) i)) off in
          elim (cases_eq j i) [
            | inl same ↦ (let P : ℕ → Type 0 = λ x. is_running runs x ≡ false in let r = bit_off (is_running runs i) (subst P same off) in
                omega (arith, e, ap (λ w. bit (eqb j i) * w) r))
            | inr ne ↦ (let z = bit_off (eqb j i) (ne_eqb j i ne) in omega (arith, e, ap (λ w. w * bit (is_running runs i)) z))
          ])
    ] in
    omega (arith, ih, one)

-- at first no pack is held
pub held_nobody : (m i : ℕ) → held (replicate m None) i ≡ 0
held_nobody zero i = refl
held_nobody (suc m) i = let ih = held_nobody m i in omega (arith, ih)

-- the pack of a processor is held
pub held_at : (onto : List (Option ℕ)) (q i : ℕ) → q < length onto → get_or onto q None ≡ Some i → 0 < held onto i
held_at [] q i l e = absurd (omega arith)
held_at (o ∷ onto) zero i l e = let a = bit_at (is_at o i) (ap (λ z. is_at z i) e ∙ eq-eqb i i refl) in omega (arith, a)
held_at (o ∷ onto) (suc q) i l e = let ih = held_at onto q i (omega arith) e in omega (arith, ih)

-- a pack that runs is one of them
pub runs_within : (runs : List Bool) (i : ℕ) → is_running runs i ≡ true → i < length runs
runs_within runs i e = elim (cases_lt i (length runs)) [
  | inl l ↦ l
  | inr l ↦ absurd (both_ways (is_running runs i) (get_or_past runs i false l) e)
]

-- the waiting packs are all placed, where as many processors are free
pub held_filled : (onto : List (Option ℕ)) (packs : List ℕ) (i : ℕ) → length packs ≤ free onto → held (filled onto packs) i ≡ held onto i + times packs i
held_filled [] [] i l = refl
held_filled [] (pack ∷ packs) i l = absurd (omega arith)
held_filled (Some j ∷ onto) packs i l = let ih = held_filled onto packs i l in omega (arith, ih)
held_filled (None ∷ onto) [] i l = let ih = held_filled onto [] i (omega arith) in omega (arith, ih)
held_filled (None ∷ onto) (pack ∷ packs) i l = let ih = held_filled onto packs i (omega arith) in omega (arith, ih)

-- each waiting pack is placed at most once
pub held_filled_at_most : (onto : List (Option ℕ)) (packs : List ℕ) (i : ℕ) → held (filled onto packs) i ≤ held onto i + times packs i
held_filled_at_most [] packs i = omega arith
held_filled_at_most (Some j ∷ onto) packs i = let ih = held_filled_at_most onto packs i in omega (arith, ih)
held_filled_at_most (None ∷ onto) [] i = let ih = held_filled_at_most onto [] i in omega (arith, ih)
held_filled_at_most (None ∷ onto) (pack ∷ packs) i = let ih = held_filled_at_most onto packs i in omega (arith, ih)

-- filling takes no processor away
pub length-filled : (onto : List (Option ℕ)) (packs : List ℕ) → length (filled onto packs) ≡ length onto
length-filled [] packs = refl
length-filled (Some j ∷ onto) packs = ap suc (length-filled onto packs)
length-filled (None ∷ onto) [] = ap suc (length-filled onto [])
length-filled (None ∷ onto) (pack ∷ packs) = ap suc (length-filled onto packs)

-- coming back takes none away
pub length-returned : (runs : List Bool) (last onto : List (Option ℕ)) (p : ℕ) (rest : List (Option ℕ)) → length (returned runs last onto p rest) ≡ length rest
length-returned runs last onto p [] = refl
length-returned runs last onto p (Some j ∷ rest) = ap suc (length-returned runs last onto (suc p) rest)
length-returned runs last onto p (None ∷ rest) = ap suc (length-returned runs last onto (suc p) rest)

-- each processor is held or free
pub sum_held : (c : ℕ) (onto : List (Option ℕ)) → ((i : ℕ) → 0 < held onto i → i < c) → sum_to c (λ i. held onto i) + free onto ≡ length onto
sum_held c [] h = let z = sum_to-zero c (λ i. 0) (λ k l. refl) in omega (arith, z)
sum_held c (None ∷ onto) h =
    let ih = sum_held c onto (λ i l. h i (omega arith)) in
    let same = sum_to-same c (λ i. 0 + held onto i) (λ i. held onto i) (λ k l. omega arith) in
    omega (arith, ih, same)
sum_held c (Some j ∷ onto) h =
    let ih = sum_held c onto (λ i l. h i (omega arith)) in
    let parts = sum_to-add c (λ i. bit (eqb j i)) (λ i. held onto i) in
    let here = bit_at (eqb j j) (eq-eqb j j refl) in
    let one = sum_to-one c (λ i. bit (eqb j i)) j (h j (omega (arith, here))) (λ k l ne. bit_off (eqb j k) (ne_eqb j k (λ s. ne (sym s)))) in
    omega (arith, ih, parts, here, one)

-- the sum over processors is one over packs
abbrev pub sum_on : (ℕ → ℕ) → List (Option ℕ) → ℕ
sum_on v [] = 0
sum_on v (None ∷ onto) = sum_on v onto
sum_on v (Some i ∷ onto) = v i + sum_on v onto

-- where each pack that is held is one of the first c
pub sum_on_packs : (c : ℕ) (v : ℕ → ℕ) (onto : List (Option ℕ)) → ((i : ℕ) → 0 < held onto i → i < c) → sum_on v onto ≡ sum_to c (λ i. held onto i * v i)
sum_on_packs c v [] h = sym (sum_to-zero c (λ i. 0 * v i) (λ k l. omega arith))
sum_on_packs c v (None ∷ onto) h =
    let ih = sum_on_packs c v onto (λ i l. h i (omega arith)) in
    let same = sum_to-same c (λ i. (0 + held onto i) * v i) (λ i. held onto i * v i) (λ k l. omega arith) in
    omega (arith, ih, same)
sum_on_packs c v (Some j ∷ onto) h =
    let ih = sum_on_packs c v onto (λ i l. h i (omega arith)) in
    let parts = sum_to-add c (λ i. bit (eqb j i) * v i) (λ i. held onto i * v i) in
    let same = sum_to-same c (λ i. (bit (eqb j i) + held onto i) * v i) (λ i. bit (eqb j i) * v i + held onto i * v i) (λ k l. omega arith) in
    let here = bit_at (eqb j j) (eq-eqb j j refl) in
    let one = sum_to-one c (λ i. bit (eqb j i) * v i) j (h j (omega (arith, here))) (λ k l ne. (let z = bit_off (eqb j k) (ne_eqb j k (λ s. ne (sym s))) in
    omega (arith, ap (λ b. b * v k) z))) in
    let at = ap (λ b. b * v j) here in
    omega (arith, ih, parts, same, one, at)

-- equal values make equal sums
pub sum_on-same : (v w : ℕ → ℕ) (onto : List (Option ℕ)) → ((i : ℕ) → v i ≡ w i) → sum_on v onto ≡ sum_on w onto
sum_on-same v w [] h = refl
sum_on-same v w (None ∷ onto) h = sum_on-same v w onto h
sum_on-same v w (Some i ∷ onto) h = let ih = sum_on-same v w onto h in let here = h i in omega (arith, ih, here)

-- the processors that hold pack i, counted
pub held_count : (onto : List (Option ℕ)) (i : ℕ) → count_by (λ o. is_at o i) onto ≡ held onto i
held_count [] i = refl
held_count (o ∷ onto) i = sum_by-cons (λ o. cond (is_at o i) 1 0) o onto ∙ ap₂ (λ x y. x + y) (cond_bit (is_at o i)) (held_count onto i)
