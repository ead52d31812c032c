-- The packs of level 0 that were looked at.
use Rattle.std.proofs.Common.{◌≡◌, ◌≢◌, ℕ, zero, suc, ◌<◌, ◌≤◌, ◌++◌, Bool, true, false, List, [], ◌∷◌, length, get_or, Option, None, refl, ap, arith}
use Rattle.std.proofs.Common.{inl, inr, sym, subst, subst₂, not, ◌&&◌, ◌∙◌}
use Rattle.std.proofs.lemmas.Bool.{cases_lt, cases_eq}
use Rattle.std.proofs.lemmas.List.{length-append, append-nil}
use Rattle.run_tree.specs.Tree.{Tree, IsTree, level}
use Rattle.run_tree.specs.Schedule.{packs_at}
use Rattle.tree_select.proofs.LevelLemmas.{pack_of_level}
use Rattle.cpu_assign.specs.Changed.{ChangeLists, with_pack}
use Rattle.event_core.specs.Serving.{AreSeen, IsAmong, first_served}
use Rattle.event_core.proofs.SettledPacks.{first_apart}

-- in an empty list nothing stands
none_in : (xs : List ℕ) (k : ℕ) → xs ≡ [] → k < length xs → ⊥
none_in xs k e l = let n = ap (λ (ys : List ℕ). length ys) e in omega (arith, n, l)

pub seen_none : (t : Tree) (serves : List (Option ℕ)) (changes : ChangeLists) → changes.seen ≡ [] → changes.stopped ≡ [] → changes.begun ≡ [] →
    AreSeen t serves serves changes
seen_none t serves changes seen stopped begun = record {
  within = λ k l. absurd (none_in changes.seen k seen l);
  same = λ i l no. refl;
  stops = λ k l. absurd (none_in changes.stopped k stopped l);
  begins = λ k l. absurd (none_in changes.begun k begun l);
}

-- what stands in a list stands in a longer one
get_left : (xs : List ℕ) (x k : ℕ) → k < length xs → get_or (xs ++ x ∷ []) k 0 ≡ get_or xs k 0
get_left [] x k l = absurd (omega (arith, l))
get_left (y ∷ xs) x zero l = refl
get_left (y ∷ xs) x (suc k) l = get_left xs x k (omega (arith, l))

get_last : (xs : List ℕ) (x : ℕ) → get_or (xs ++ x ∷ []) (length xs) 0 ≡ x
get_last [] x = refl
get_last (y ∷ xs) x = get_last xs x

among_more : (xs : List ℕ) (x y : ℕ) → IsAmong xs y → IsAmong (xs ++ x ∷ []) y
among_more xs x y (k, l, e) = let n = length-append xs (x ∷ []) in (k, omega (arith, n, l), get_left xs x k l ∙ e)

among_last : (xs : List ℕ) (x : ℕ) → IsAmong (xs ++ x ∷ []) x
among_last xs x = let n = length-append xs (x ∷ []) in (length xs, omega (arith, n), get_last xs x)

-- one more that may be listed is seen
listed_among : (xs seen : List ℕ) (i : ℕ) (on : Bool) → ((k : ℕ) → k < length xs → IsAmong seen (get_or xs k 0)) → (k : ℕ) → k < length (with_pack xs i on)
    → IsAmong (seen ++ i ∷ []) (get_or (with_pack xs i on) k 0)
listed_among xs seen i false all k l =
    let e = append-nil xs in
    let n = ap (λ (ys : List ℕ). length ys) e in
    subst (λ (ys : List ℕ). IsAmong (seen ++ i ∷ []) (get_or ys k 0)) (sym e) (among_more seen i (get_or xs k 0) (all k (omega (arith, l, n))))
listed_among xs seen i true all k l = elim (cases_lt k (length xs)) [
  | inl low ↦ subst (λ y. IsAmong (seen ++ i ∷ []) y) (sym (get_left xs i k low)) (among_more seen i (get_or xs k 0) (all k low))
  | inr high ↦
      (let n = length-append xs (i ∷ []) in
      let e : k ≡ length xs = omega (arith, l, n, high) in
      subst (λ y. IsAmong (seen ++ i ∷ []) y) (sym (ap (λ j. get_or (xs ++ i ∷ []) j 0) e ∙ get_last xs i)) (among_last seen i))
]

-- one pack more is looked at
pub seen_step : (t : Tree) (first before after : List (Option ℕ)) (was now : ChangeLists) (p i : ℕ) → i < length (packs_at t 0) → p ≡ get_or (packs_at t 0)
    i 0 → (stops begins : Bool) →
    ((q : ℕ) → q ≢ p → get_or after q None ≡ get_or before q None) → now.seen ≡ was.seen ++ i ∷ [] → now.stopped ≡ with_pack was.stopped i stops →
    now.begun ≡ with_pack was.begun i begins →
    AreSeen t first before was → AreSeen t first after now
seen_step t first before after was now p i l at stops begins others seen stopped begun s = record {
  within = λ k m. subst (λ (xs : List ℕ). k < length xs → get_or xs k 0 < length (packs_at t 0)) (sym seen) (λ b. elim (cases_lt k (length was.seen)) [
    | inl low ↦ (let e = get_left was.seen i k low in let w = s.within k low in omega (arith, e, w))
    | inr high ↦
        (let n = length-append was.seen (i ∷ []) in
        let e = ap (λ j. get_or (was.seen ++ i ∷ []) j 0) (let f : k ≡ length was.seen = omega (arith, b, n, high) in f) ∙ get_last was.seen i in
        omega (arith, e, l))
  ]) m;
  same = λ j m no. elim (cases_eq j i) [
    | inl is ↦ absurd (no (subst (λ (xs : List ℕ). IsAmong xs j) (sym seen) (subst (λ y. IsAmong (was.seen ++ i ∷ []) y) (sym is) (among_last was.seen i))))
    | inr ne ↦
        others (get_or (packs_at t 0) j 0) (λ e. first_apart t j i m l ne (e ∙ at))
        ∙ s.same j m (λ a. no (subst (λ (xs : List ℕ). IsAmong xs j) (sym seen) (among_more was.seen i j a)))
  ];
  stops = λ k m. subst (λ (xs : List ℕ). IsAmong xs (get_or now.stopped k 0)) (sym seen)
      (subst (λ (xs : List ℕ). k < length xs → IsAmong (was.seen ++ i ∷ []) (get_or xs k 0)) (sym stopped) (listed_among was.stopped was.seen i stops
      s.stops k) m);
  begins = λ k m. subst (λ (xs : List ℕ). IsAmong xs (get_or now.begun k 0)) (sym seen)
      (subst (λ (xs : List ℕ). k < length xs → IsAmong (was.seen ++ i ∷ []) (get_or xs k 0)) (sym begun) (listed_among was.begun was.seen i begins s.begins
      k) m);
}

-- where it serves the same member and neither stops nor begins, it needn't be listed
pub seen_same : (t : Tree) (first before after : List (Option ℕ)) (was now : ChangeLists) (p i : ℕ) (stops begins : Bool) →
    ((q : ℕ) → q ≢ p → get_or after q None ≡ get_or before q None) → get_or after p None ≡ get_or before p None →
    now.seen ≡ was.seen → stops ≡ false → begins ≡ false → now.stopped ≡ with_pack was.stopped i stops → now.begun ≡ with_pack was.begun i begins →
    AreSeen t first before was → AreSeen t first after now
seen_same t first before after was now p i stops begins others own seen stays rests stopped begun s = record {
  within = λ k m. subst (λ (xs : List ℕ). k < length xs → get_or xs k 0 < length (packs_at t 0)) (sym seen) (λ b. s.within k b) m;
  same = λ j m no. every (get_or (packs_at t 0) j 0) ∙ s.same j m (λ a. no (subst (λ (xs : List ℕ). IsAmong xs j) (sym seen) a));
  stops = λ k m. subst₂ (λ (xs ys : List ℕ). k < length xs → IsAmong ys (get_or xs k 0)) (sym (none_more was.stopped now.stopped stops stays stopped))
      (sym seen) (s.stops k) m;
  begins = λ k m. subst₂ (λ (xs ys : List ℕ). k < length xs → IsAmong ys (get_or xs k 0)) (sym (none_more was.begun now.begun begins rests begun))
      (sym seen) (s.begins k) m;
}
  where
    every : (q : ℕ) → get_or after q None ≡ get_or before q None
    every q = elim (cases_eq q p) [
      | inl is ↦ ap (λ x. get_or after x None) is ∙ own ∙ sym (ap (λ x. get_or before x None) is)
      | inr ne ↦ others q ne
    ]

    none_more : (xs ys : List ℕ) (on : Bool) → on ≡ false → ys ≡ with_pack xs i on → ys ≡ xs
    none_more xs ys on off e = e ∙ ap (λ (b : Bool). with_pack xs i b) off ∙ append-nil xs

-- what is on a processor as it runs neither stops nor begins
pub none_stops : (runs held : Bool) → runs ≡ held → (not runs && held) ≡ false
none_stops true held e = refl
none_stops false held e = sym e

pub none_begins : (runs held : Bool) → runs ≡ held → (runs && not held) ≡ false
none_begins false held e = refl
none_begins true held e = ap (λ (b : Bool). not b) (sym e)

-- before that nothing changed in level 0
pub seen_since : (t : Tree) (first before after : List (Option ℕ)) (changes : ChangeLists) → ((k : ℕ) → k < length (packs_at t 0) →
    first_served t before k ≡ first_served t first k) → AreSeen t before after changes → AreSeen t first after changes
seen_since t first before after changes still s = record {
  within = s.within;
  same = λ i l no. s.same i l no ∙ still i l;
  stops = s.stops;
  begins = s.begins;
}

-- a pack above level 0 is none of level 0
pub above_first : (t : Tree) → IsTree t → (l i p : ℕ) → 1 ≤ l → i < length (packs_at t l) → p ≡ get_or (packs_at t l) i 0 → (k : ℕ) →
    k < length (packs_at t 0) → get_or (packs_at t 0) k 0 ≢ p
above_first t h l i p high b at k c same =
    let low = (pack_of_level t h 0 k c).1 in
    let up = (pack_of_level t h l i b).1 in
    let e = ap (level t) (same ∙ at) in
    omega (arith, low, up, e, high)
