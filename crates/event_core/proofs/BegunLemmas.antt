-- Windows that begin: their members get dues and ends, and their packs are marked.
use Rattle.std.proofs.Common.{◌≡◌, ◌≢◌, ℕ, ◌+◌, ◌<◌, Bool, true, false, List, [], length, get_or, refl, ap, ap₂, arith, inl, inr, sym, subst, ◌∙◌}
use Rattle.std.proofs.Common.{get_or-set_same, get_or-set_other}
use Rattle.std.proofs.lemmas.Bool.{cases_eq, both_ways}
use Rattle.std.proofs.lemmas.List.{length-set}
use Rattle.std.proofs.Math.ListN.{set}
use Rattle.run_tree.specs.Tree.{Tree, IsTree, IsMember, home, place, member}
use Rattle.event_core.specs.Serving.{due_of, AreBegun}

-- ---- numbers below the next one

below_self : (n : ℕ) → n < n + 1
below_self n = omega arith

below_next : (j n : ℕ) → j < n → j < n + 1
below_next j n l = omega arith

below_other : (j n : ℕ) → j < n + 1 → j ≢ n → j < n
below_other j n l ne = omega arith

pub begun_none : (t : Tree) (begins ends begun remains : List ℕ) (ready : List (List ℕ)) (stale : List Bool) → AreBegun t begins ends begun remains ready
    stale remains ready stale 0
begun_none t begins ends begun remains ready stale = record {
  same = refl;
  filled = λ j x l e i. absurd (omega (arith, l));
  put = λ j x l e i. absurd (omega (arith, l));
  marked = λ j x l e i. absurd (omega (arith, l));
  kept = λ x none. refl;
  kept_end = λ x i none. refl;
  long = λ p. refl;
  unmarked = λ p off. off;
  as_many = refl;
}

-- the place of a member stands in its pack's knockout, which stays as long
pub begun_places : (t : Tree) (ready ready' : List (List ℕ)) (x : ℕ) → ((p : ℕ) → length (get_or ready' p []) ≡ length (get_or ready p [])) →
    place t x < length (get_or ready (home t x) []) → place t x < length (get_or ready' (home t x) [])
begun_places t ready ready' x long l = (let e = long (home t x) in omega (arith, e, l))

pub begun_of : (t : Tree) (begins ends begun remains : List ℕ) (ready : List (List ℕ)) (stale : List Bool) (remains' : List ℕ) (ready' : List (List ℕ))
    (stale' : List Bool) (n m : ℕ) → n ≡ m →
    AreBegun t begins ends begun remains ready stale remains' ready' stale' n → AreBegun t begins ends begun remains ready stale remains' ready' stale' m
begun_of t begins ends begun remains ready stale remains' ready' stale' n m e a = subst (λ (k : ℕ). AreBegun t begins ends begun remains ready stale
    remains' ready' stale' k) e a

-- one member more
module _ (t : Tree) (h : IsTree t) (begins ends begun remains : List ℕ) (ready : List (List ℕ)) (stale : List Bool) (remains' : List ℕ)
    (ready' : List (List ℕ)) (stale' : List Bool) (remains'' : List ℕ) (ready'' : List (List ℕ)) (stale'' : List Bool)
    (n x : ℕ) (i : IsMember t x) (at : x ≡ get_or begun n 0) (long_r : length remains' ≡ length t.nodes) (long_k : length ready' ≡ length t.nodes)
    (long_s : length stale' ≡ length t.nodes) (in_pack : place t x < length (get_or ready' (home t x) []))
    (er : remains'' ≡ set remains' x (due_of t begins ends x)) (ek : ready'' ≡ set ready' (home t x) (set (get_or ready' (home t x) []) (place t x)
    (get_or ends x 0))) (es : stale'' ≡ set stale' (home t x) true) where
  home_in : home t x < length t.nodes
  home_in = (h.homes_are x i).0.0

  own_due : get_or remains'' x 0 ≡ due_of t begins ends x
  own_due = ap (λ (xs : List ℕ). get_or xs x 0) er ∙ get_or-set_same remains' x (due_of t begins ends x) 0 (subst (λ (l : ℕ). x < l) (sym long_r) i.0)

  other_due : (y : ℕ) → y ≢ x → get_or remains'' y 0 ≡ get_or remains' y 0
  other_due y ne = ap (λ (xs : List ℕ). get_or xs y 0) er ∙ get_or-set_other remains' x y (due_of t begins ends x) 0 ne

  own_list : get_or ready'' (home t x) [] ≡ set (get_or ready' (home t x) []) (place t x) (get_or ends x 0)
  own_list = ap (λ (ks : List (List ℕ)). get_or ks (home t x) []) ek ∙ get_or-set_same ready' (home t x) (set (get_or ready' (home t x) []) (place t x)
      (get_or ends x 0)) [] (subst (λ (l : ℕ). home t x < l) (sym long_k) home_in)

  other_list : (p : ℕ) → p ≢ home t x → get_or ready'' p [] ≡ get_or ready' p []
  other_list p ne = ap (λ (ks : List (List ℕ)). get_or ks p []) ek ∙ get_or-set_other ready' (home t x) p (set (get_or ready' (home t x) []) (place t x)
      (get_or ends x 0)) [] ne

  own_end : get_or (get_or ready'' (home t x) []) (place t x) 0 ≡ get_or ends x 0
  own_end = ap (λ (xs : List ℕ). get_or xs (place t x) 0) own_list ∙ get_or-set_same (get_or ready' (home t x) []) (place t x) (get_or ends x 0) 0 in_pack

  -- of another member the end stays
  other_end : (y : ℕ) → IsMember t y → y ≢ x → get_or (get_or ready'' (home t y) []) (place t y) 0 ≡ get_or (get_or ready' (home t y) []) (place t y) 0
  other_end y j ne = elim (cases_eq (home t y) (home t x)) [
    | inr apart ↦ ap (λ (xs : List ℕ). get_or xs (place t y) 0) (other_list (home t y) apart)
    | inl same ↦
        (let places : place t y ≢ place t x = (λ e. ne (sym (h.homes_are y j).2 ∙ ap₂ (member t) same e ∙ (h.homes_are x i).2)) in
        let P : ℕ → Type 0 = λ p. get_or (get_or ready'' p []) (place t y) 0 ≡ get_or (get_or ready' p []) (place t y) 0 in
        subst P (sym same) (ap (λ (xs : List ℕ). get_or xs (place t y) 0) own_list ∙ get_or-set_other (get_or ready' (home t x) []) (place t x) (place t y)
        (get_or ends x 0) 0 places))
  ]

  own_mark : get_or stale'' (home t x) false ≡ true
  own_mark = ap (λ (xs : List Bool). get_or xs (home t x) false) es ∙ get_or-set_same stale' (home t x) true false (subst (λ (l : ℕ). home t x < l)
      (sym long_s) home_in)

  other_mark : (p : ℕ) → p ≢ home t x → get_or stale'' p false ≡ get_or stale' p false
  other_mark p ne = ap (λ (xs : List Bool). get_or xs p false) es ∙ get_or-set_other stale' (home t x) p true false ne

  still_marked : (p : ℕ) → get_or stale' p false ≡ true → get_or stale'' p false ≡ true
  still_marked p on = elim (cases_eq p (home t x)) [ inl same ↦ ap (λ q. get_or stale'' q false) same ∙ own_mark | inr ne ↦ other_mark p ne ∙ on ]

  pub begun_step : AreBegun t begins ends begun remains ready stale remains' ready' stale' n → AreBegun t begins ends begun remains ready stale remains''
      ready'' stale'' (n + 1)
  begun_step was = record {
    same = ap (λ (xs : List ℕ). length xs) er ∙ length-set remains' x (due_of t begins ends x) ∙ was.same;
    filled = λ j y l e k. elim (cases_eq y x) [
      | inl same ↦ (let P : ℕ → Type 0 = λ z. get_or remains'' z 0 ≡ due_of t begins ends z in subst P (sym same) own_due)
      | inr ne ↦ other_due y ne ∙ was.filled j y (before j y l e ne) e k
    ];
    put = λ j y l e k. elim (cases_eq y x) [
      | inl same ↦ (let P : ℕ → Type 0 = λ z. get_or (get_or ready'' (home t z) []) (place t z) 0 ≡ get_or ends z 0 in subst P (sym same) own_end)
      | inr ne ↦ other_end y k ne ∙ was.put j y (before j y l e ne) e k
    ];
    marked = λ j y l e k. elim (cases_eq y x) [
      | inl same ↦ (let P : ℕ → Type 0 = λ z. get_or stale'' (home t z) false ≡ true in subst P (sym same) own_mark)
      | inr ne ↦ still_marked (home t y) (was.marked j y (before j y l e ne) e k)
    ];
    kept = λ y none. other_due y (not_own y none) ∙ was.kept y (λ j l. none j (below_next j n l));
    kept_end = λ y k none. other_end y k (not_own y none) ∙ was.kept_end y k (λ j l. none j (below_next j n l));
    long = λ p. (elim (cases_eq p (home t x)) [
      | inl same ↦ (let P : ℕ → Type 0 = λ z. length (get_or ready'' z []) ≡ length (get_or ready' z []) in
          subst P (sym same) (ap (λ (xs : List ℕ). length xs) own_list ∙ length-set (get_or ready' (home t x) []) (place t x) (get_or ends x 0)))
      | inr ne ↦ ap (λ (xs : List ℕ). length xs) (other_list p ne)
    ]) ∙ was.long p;
    unmarked = λ p off. elim (cases_eq p (home t x)) [
      | inl same ↦ absurd (both_ways (get_or stale'' p false) off (ap (λ q. get_or stale'' q false) same ∙ own_mark))
      | inr ne ↦ was.unmarked p (sym (other_mark p ne) ∙ off)
    ];
    as_many = ap (λ (xs : List Bool). length xs) es ∙ length-set stale' (home t x) true ∙ was.as_many;
  }
    where
      before : (j y : ℕ) → j < n + 1 → get_or begun j 0 ≡ y → y ≢ x → j < n
      before j y l e ne = elim (cases_eq j n) [
        | inl same ↦ absurd (ne (sym e ∙ ap (λ k. get_or begun k 0) same ∙ sym at))
        | inr other ↦ below_other j n l other
      ]

      not_own : (y : ℕ) → ((j : ℕ) → j < n + 1 → get_or begun j 0 ≢ y) → y ≢ x
      not_own y none e = none n (below_self n) (sym (e ∙ at))

-- a node that is no member is passed over
pub begun_skip : (t : Tree) (begins ends begun remains : List ℕ) (ready : List (List ℕ)) (stale : List Bool) (remains' : List ℕ) (ready' : List (List ℕ))
    (stale' : List Bool) (n : ℕ) → (IsMember t (get_or begun n 0) → ⊥) →
    AreBegun t begins ends begun remains ready stale remains' ready' stale' n → AreBegun t begins ends begun remains ready stale remains' ready' stale' (n + 1)
begun_skip t begins ends begun remains ready stale remains' ready' stale' n none was = record {
  same = was.same;
  filled = λ j x l e i. was.filled j x (before j x l e i) e i;
  put = λ j x l e i. was.put j x (before j x l e i) e i;
  marked = λ j x l e i. was.marked j x (before j x l e i) e i;
  kept = λ x other. was.kept x (λ j l. other j (below_next j n l));
  kept_end = λ x i other. was.kept_end x i (λ j l. other j (below_next j n l));
  long = was.long;
  unmarked = was.unmarked;
  as_many = was.as_many;
}
  where
    before : (j x : ℕ) → j < n + 1 → get_or begun j 0 ≡ x → IsMember t x → j < n
    before j x l e i = elim (cases_eq j n) [
      | inl same ↦ absurd (none (subst (λ (y : ℕ). IsMember t y) (sym e ∙ ap (λ k. get_or begun k 0) same) i))
      | inr other ↦ below_other j n l other
    ]
