-- The processors of packs that are held are told.
use Rattle.std.proofs.Common.{◌≡◌, ◌≢◌, ℕ, ◌+◌, ◌<◌, List, length, get_or, get_or-set_same, Option, None, Some, refl, ap, arith, inl, inr, sym, subst}
use Rattle.std.proofs.Common.{subst₂, ◌∙◌}
use Rattle.std.proofs.lemmas.Bool.{cases_lt}
use Rattle.std.proofs.Math.ListN.{set}
use Rattle.event_core.specs.Told.{AreHeldTold}
use Rattle.event_core.proofs.ToldLemmas.{set_other}

-- at first none is
pub held_none : (onto : List (Option ℕ)) (packs told : List ℕ) → AreHeldTold onto packs told 0 0
held_none onto packs told = record { few = omega arith; each = λ k q l. absurd (omega (arith, l)); processors = λ j l. absurd (omega (arith, l)) }

-- a pack that no processor holds
held_skip : (onto : List (Option ℕ)) (packs told : List ℕ) (n count : ℕ) → ((q : ℕ) → get_or onto q None ≢ Some (get_or packs n 0)) → AreHeldTold onto packs
    told n count → AreHeldTold onto packs told (n + 1) count
held_skip onto packs told n count none t = record {
  few = (let f = t.few in omega (arith, f));
  each = λ k q l at. elim (cases_lt k n) [
    | inl low ↦ t.each k q low at
    | inr high ↦ absurd (
        let same : k ≡ n = omega (arith, l, high) in
        none q (at ∙ ap (λ m. Some (get_or packs m 0)) same))
  ];
  processors = t.processors;
}

-- and one that processor p alone holds
held_step : (onto : List (Option ℕ)) (packs told told' : List ℕ) (n count p : ℕ) → count < length told → told' ≡ set told count p → p < length onto →
    ((q : ℕ) → get_or onto q None ≡ Some (get_or packs n 0) → p ≡ q) →
    AreHeldTold onto packs told n count → AreHeldTold onto packs told' (n + 1) (count + 1)
held_step onto packs told told' n count p room is within here t = record {
  few = (let f = t.few in omega (arith, f));
  each = λ k q l at. elim (cases_lt k n) [
    | inl low ↦ (let (j, m, e) = t.each k q low at in (j, omega (arith, m), older j m ∙ e))
    | inr high ↦
        (let same : k ≡ n = omega (arith, l, high) in
        (count, omega arith, newest ∙ here q (at ∙ ap (λ m. Some (get_or packs m 0)) same)))
  ];
  processors = λ j l. elim (cases_lt j count) [
    | inl low ↦ (let e = older j low in let w = t.processors j low in omega (arith, e, w))
    | inr high ↦
        (let same : j ≡ count = omega (arith, l, high) in
        let e = ap (λ m. get_or told' m 0) same in
        omega (arith, e, newest, within))
  ];
}
  where
    newest : get_or told' count 0 ≡ p
    newest = ap (λ (xs : List ℕ). get_or xs count 0) is ∙ own
      where
        own : get_or (set told count p) count 0 ≡ p
        own = rw get_or-set_same

    older : (j : ℕ) → j < count → get_or told' j 0 ≡ get_or told j 0
    older j l = ap (λ (xs : List ℕ). get_or xs j 0) is ∙ set_other told count p j (λ e. omega (arith, l, e))

-- the next pack is done
pub held_next : (onto : List (Option ℕ)) (packs told told' : List ℕ) (n count count' : ℕ) (o : Option ℕ) → count < length told →
    ((q : ℕ) → get_or onto q None ≡ Some (get_or packs n 0) → o ≡ Some q) → ((q : ℕ) → o ≡ Some q → q < length onto) →
    ((q : ℕ) → o ≡ Some q → (count' ≡ count + 1) × (told' ≡ set told count q)) → (o ≡ None → (count' ≡ count) × (told' ≡ told)) → AreHeldTold onto packs
    told n count → AreHeldTold onto packs told' (n + 1) count'
held_next onto packs told told' n count count' None room holder within some none t =
    let (same, still) = none refl in
    subst₂ (λ (m : ℕ) (xs : List ℕ). AreHeldTold onto packs xs (n + 1) m) (sym same) (sym still) (held_skip onto packs told n count
    (λ q at. let e : None ≡ Some q = holder q at in cc) t)
held_next onto packs told told' n count count' (Some p) room holder within some none t =
    let (more, is) = some p refl in
    subst (λ (m : ℕ). AreHeldTold onto packs told' (n + 1) m) (sym more)
    (held_step onto packs told told' n count p room is (within p refl) (λ q at. let e : Some p ≡ Some q = holder q at in cc) t)
