-- Lists of what begins at a unit.
use Rattle.std.proofs.Common.{◌≡◌, ◌≢◌, ℕ, zero, suc, ◌+◌, ◌<◌, ◌≤◌, ◌++◌, ◌==◌, Bool, true, false, List, [], ◌∷◌, length, take, refl, ap, arith, inl}
use Rattle.std.proofs.Common.{inr, sym, ◌∙◌, eq-eqb, get_or, get_or-set_same, get_or-set_other}
use Rattle.std.proofs.lemmas.Bool.{cases_eq, cases_lt}
use Rattle.std.proofs.lemmas.List.{length-map, length-take-le, length-append, map-append, get_or-map, get_or-take, take_more_set}
use Rattle.std.proofs.Math.ListN.{set}
use Rattle.sched_base.specs.Counting.{bit}
use Rattle.sched_base.specs.declared.rows.NodeId.{NodeId}
use Rattle.run_tree.specs.Tree.{numbers}
use Rattle.release_calendar.specs.Calendars.{AreListed, ending}

-- a node of the first ones of a list
pub node_among : (begun : List NodeId) (count k : ℕ) (none : NodeId) → count ≤ length begun → k < length (numbers (take count begun)) → (k < length begun)
    × ((get_or begun k none).0 ≡ get_or (numbers (take count begun)) k 0)
node_among begun count k none c l =
    let long = length-map (take count begun) (λ (n : NodeId). n.0) in
    let all = length-take-le count begun c in
    let b : k < count = omega (arith, l, long, all) in (
      omega (arith, b, c),
      ap (λ (n : NodeId). n.0) (sym (get_or-take count begun k none b)) ∙ sym (get_or-map (λ (n : NodeId). n.0) (take count begun) k
          none 0 (omega (arith, b, all))),
    )

-- one more is put behind the first ones
pub one_more : (begun : List NodeId) (count : ℕ) (n : NodeId) → count < length begun → numbers (take (count + 1) (set begun count n)) ≡ numbers
    (take count begun) ++ n.0 ∷ []
one_more begun count n l = ap numbers (take_more_set begun count n l) ∙ map-append (λ (n : NodeId). n.0) (take count begun) (n ∷ [])

-- one node more is marked and listed
pub listed_step : (due due' : List Bool) (begun begun' : List ℕ) (x : ℕ) → x < length due → due' ≡ set due x true → begun' ≡ begun ++ x ∷ [] →
    AreListed due begun → AreListed due' begun'
listed_step due due' begun begun' x b is_due is_begun h = record {
  all = λ y on. elim (cases_eq y x) [
    | inl same ↦ (length begun, (let e = longer in omega (arith, e)), last ∙ sym same)
    | inr ne ↦ (let old = h.all y (sym (there y ne) ∙ on) in (old.0, (let e = longer in let l = old.1 in omega (arith, e, l)), first old.0 old.1 ∙ old.2))
  ];
  marked = λ k l. elim (cases_lt k (length begun)) [
    | inl m ↦ ap (λ z. get_or due' z false) (first k m) ∙ still (get_or begun k 0) (h.marked k m)
    | inr m ↦ (let e = longer in let at : k ≡ length begun = omega (arith, l, e, m) in ap (λ z. get_or due' z false) (ap (λ z. get_or begun' z 0) at ∙ last)
        ∙ here)
  ];
}
  where
    longer : length begun' ≡ length begun + 1
    longer = ap (λ (xs : List ℕ). length xs) is_begun ∙ length-append begun (x ∷ [])

    last : get_or begun' (length begun) 0 ≡ x
    last = ap (λ (xs : List ℕ). get_or xs (length begun) 0) is_begun ∙ at_end begun
      where
        at_end : (xs : List ℕ) → get_or (xs ++ x ∷ []) (length xs) 0 ≡ x
        at_end [] = refl
        at_end (y ∷ ys) = at_end ys

    first : (k : ℕ) → k < length begun → get_or begun' k 0 ≡ get_or begun k 0
    first k l = ap (λ (xs : List ℕ). get_or xs k 0) is_begun ∙ before begun k l
      where
        before : (xs : List ℕ) (k : ℕ) → k < length xs → get_or (xs ++ x ∷ []) k 0 ≡ get_or xs k 0
        before [] k l = absurd (omega (arith, l))
        before (y ∷ ys) zero l = refl
        before (y ∷ ys) (suc k) l = before ys k (omega (arith, l))

    here : get_or due' x false ≡ true
    here = ap (λ (xs : List Bool). get_or xs x false) is_due ∙ own
      where
        own : get_or (set due x true) x false ≡ true
        own = rw get_or-set_same

    there : (y : ℕ) → y ≢ x → get_or due' y false ≡ get_or due y false
    there y ne = ap (λ (xs : List Bool). get_or xs y false) is_due ∙ other
      where
        other : get_or (set due x true) y false ≡ get_or due y false
        other = rw get_or-set_other refl

    still : (y : ℕ) → get_or due y false ≡ true → get_or due' y false ≡ true
    still y on = elim (cases_eq y x) [ inl same ↦ ap (λ z. get_or due' z false) same ∙ here | inr ne ↦ there y ne ∙ on ]

-- no more end at a unit than there are
pub ending_most : (u : ℕ) (ends : List ℕ) → ending u ends ≤ length ends
ending_most u [] = omega arith
ending_most u (end ∷ ends) = let one = bit_most (end == u) in let rest = ending_most u ends in omega (arith, one, rest)
  where
    bit_most : (b : Bool) → bit b ≤ 1
    bit_most true = omega arith
    bit_most false = omega arith

-- one at least ends there where this one does
pub ending_some : (u : ℕ) (ends : List ℕ) (i : ℕ) → i < length ends → get_or ends i 0 ≡ u → 0 < ending u ends
ending_some u [] i l e = absurd (omega (arith, l))
ending_some u (x ∷ xs) zero l e = let on : bit (x == u) ≡ 1 = ap bit (eq-eqb x u e) in omega (arith, on)
ending_some u (x ∷ xs) (suc i) l e = let r = ending_some u xs i (omega (arith, l)) e in omega (arith, r)
