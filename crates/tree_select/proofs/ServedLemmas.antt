-- One member for another.
use Rattle.std.proofs.Common.{ltb, option_map, ◌≡◌, ◌≢◌, ℕ, ◌<◌, ◌≤◌, ◌&&◌, Bool, true, false, List, length, Option, Some, None, refl, ap, ap₂, arith}
use Rattle.std.proofs.Common.{inl, inr, sym, subst, le_refl, ◌∙◌, get_or, eq-eqb}
use Rattle.std.proofs.lemmas.Bool.{cases_eq, ne_eqb}
use Rattle.std.proofs.Math.ListN.{set}
use Rattle.sched_base.specs.Candidates.{is_at}
use Rattle.sched_base.proofs.EarliestLemmas.{same_earliest}
use Rattle.run_tree.specs.Tree.{Tree, IsTree, IsPack, IsMember, kind_at, home, place, members, member, level}
use Rattle.tree_select.specs.Selected.{picked}
use Rattle.tree_select.specs.Marked.{IsServed, AreServed, IsTurned, IsPlaced, IsHanded, served_by, primal_at}
use Rattle.tree_select.proofs.MarkedLemmas.{primal_is, apart, same_at, other_at}

module _ (t : Tree) (h : IsTree t) where
  pub placed_none : (p : ℕ) (on : Bool) (stale runs : List Bool) → IsPlaced t p None on stale runs stale runs
  placed_none p on stale runs = record {
    led = λ led. led;
    pack = refl;
    each = λ j l. refl;
    unmarked = λ q i off. (off, refl);
    others = λ q j i ne l. refl;
    marks = λ q i low. refl;
    long = refl;
  }

  pub placed_one : (p k m : ℕ) (on : Bool) (stale runs stale' runs' : List Bool) → IsPack t p → k < length (members t p) → m ≡ member t p k →
      IsTurned t m on stale runs stale' runs' → IsPlaced t p (Some k) on stale runs stale' runs'
  placed_one p k m on stale runs stale' runs' i l at turned = record {
    led = turned.led;
    pack = turned.others p (apart t h p m i own.0) (no_primal p (le_refl (level t p)));
    each = λ j b. (let its = h.members_are p j i b in
        elim (cases_eq k j) [
          | inl same ↦ (let P : ℕ → Type 0 = λ x. get_or runs' (member t p x) false ≡ elim (is_at (Some k) x)
              [ true ↦ on | false ↦ get_or runs (member t p x) false ] in
              subst P same (ap (λ x. get_or runs' x false) (sym at) ∙ turned.own
              ∙ sym (ap (λ (c : Bool). elim c as (λ z. Bool) [ true ↦ on | false ↦ get_or runs (member t p k) false ]) (eq-eqb k k refl))))
          | inr ne ↦ turned.others (member t p j) (λ e. ne (sym own.2 ∙ ap (place t) (sym e) ∙ its.2)) (member_no_primal (member t p j) its.0)
              ∙ sym (ap (λ (c : Bool). elim c as (λ z. Bool) [ true ↦ on | false ↦ get_or runs (member t p j) false ]) (ne_eqb k j ne))
        ]);
    unmarked = λ q j off. (let old = turned.unmarked q off in (old.0, old.1 (apart t h q m j own.0)));
    others = λ q j i' ne b. (let its = h.members_are q j i' b in turned.others (member t q j) (λ e. ne (sym its.1 ∙ ap (home t) e ∙ own.1))
        (member_no_primal (member t q j) its.0));
    marks = λ q j low. turned.marks q (no_primal q low);
    long = turned.long;
  }
    where
      own : IsMember t m × (home t m ≡ p) × (place t m ≡ k)
      own = (let P : ℕ → Type 0 = λ x. IsMember t x × (home t x ≡ p) × (place t x ≡ k) in subst P (sym at) (h.members_are p k i l))

      no_primal : (q : ℕ) → level t p ≤ level t q → primal_at (kind_at t m) ≢ Some q
      no_primal q low e = let up = (primal_is t h m q own.0.0 e).2 in let s = ap (level t) own.1 in omega (arith, up, s, low)

      member_no_primal : (x : ℕ) → IsMember t x → primal_at (kind_at t m) ≢ Some x
      member_no_primal x j e = apart t h x x (primal_is t h m x own.0.0 e).0 j refl

  -- the node at a place of a pack is one of its members
  pub node_member : (p m : ℕ) (k : Option ℕ) → IsPack t p → ((j : ℕ) → k ≡ Some j → j < length (members t p)) → Some m ≡ option_map (member t p) k →
      IsMember t m
  node_member p m None i within e = cc
  node_member p m (Some k) i within e = (let at : m ≡ member t p k = cc in let P : ℕ → Type 0 = λ x. IsMember t x in
      subst P (sym at) (h.members_are p k i (within k refl)).0)

  pub placed_node : (p m : ℕ) (k : Option ℕ) (on : Bool) (stale runs stale' runs' : List Bool) → IsPack t p → ((j : ℕ) → k ≡ Some j →
      j < length (members t p)) → Some m ≡ option_map (member t p) k → IsTurned t m on stale runs stale' runs' → IsPlaced t p k on stale runs stale' runs'
  placed_node p m None on stale runs stale' runs' i within e turned = cc
  placed_node p m (Some k) on stale runs stale' runs' i within e turned = (let at : m ≡ member t p k = cc in placed_one p k m on stale runs stale' runs' i
      (within k refl) at turned)

  pub placed_nobody : (p : ℕ) (k : Option ℕ) (on : Bool) (stale runs : List Bool) → None ≡ option_map (member t p) k → IsPlaced t p k on stale runs stale runs
  placed_nobody p None on stale runs e = placed_none p on stale runs
  placed_nobody p (Some k) on stale runs e = cc

  -- the same member goes on
  pub handed_same : (p : ℕ) (was next : Option ℕ) (stale runs : List Bool) → was ≡ next → ((j : ℕ) → j < length (members t p) → get_or runs (member t p j)
      false ≡ is_at was j) → IsHanded t p next stale runs stale runs
  handed_same p was next stale runs e own = record {
    led = λ led. led;
    pack = refl;
    each = λ j l. own j l ∙ ap (λ o. is_at o j) e;
    unmarked = λ q i off. (off, refl);
    others = λ q j i ne l. refl;
    marks = λ q i low. refl;
    long = refl;
  }

  -- one stops, then another starts
  pub handed_on : (p : ℕ) (was next : Option ℕ) (stale runs stale' runs' stale'' runs'' : List Bool) → ((j : ℕ) → j < length (members t p) →
      get_or runs (member t p j) false ≡ is_at was j) →
      IsPlaced t p was false stale runs stale' runs' → IsPlaced t p next true stale' runs' stale'' runs'' → IsHanded t p next stale runs stale'' runs''
  handed_on p was next stale runs stale' runs' stale'' runs'' own a b = record {
    led = λ led. b.led (a.led led);
    pack = b.pack ∙ a.pack;
    each = λ j l. b.each j l ∙ ap (λ (c : Bool). elim (is_at next j) as (λ z. Bool) [ true ↦ true | false ↦ c ]) (a.each j l ∙ none j l) ∙ same (is_at next j);
    unmarked = λ q i off. (let late = b.unmarked q i off in let early = a.unmarked q i late.0 in (early.0, late.1 ∙ early.1));
    others = λ q j i ne l. b.others q j i ne l ∙ a.others q j i ne l;
    marks = λ q i low. b.marks q i low ∙ a.marks q i low;
    long = b.long ∙ a.long;
  }
    where
      none : (j : ℕ) → j < length (members t p) → elim (is_at was j) as (λ z. Bool) [ true ↦ false | false ↦ get_or runs (member t p j) false ] ≡ false
      none j l = go (is_at was j) refl
        where
          go : (c : Bool) → is_at was j ≡ c → elim c as (λ z. Bool) [ true ↦ false | false ↦ get_or runs (member t p j) false ] ≡ false
          go true e = refl
          go false e = own j l ∙ e

      same : (c : Bool) → elim c as (λ z. Bool) [ true ↦ true | false ↦ false ] ≡ c
      same true = refl
      same false = refl

  -- what is at a place that a pack serves by
  pub by_served : (on : Bool) (o : Option ℕ) (j : ℕ) → is_at (served_by on o) j ≡ (on && is_at o j)
  by_served true o j = refl
  by_served false o j = refl

  -- after that all packs that aren't marked are served
  pub handed_served : (remains ends : List ℕ) (p : ℕ) (chosen : Option ℕ) (stale runs stale' runs' : List Bool) → IsPack t p → p < length stale →
      IsHanded t p (served_by (get_or runs p false) chosen) (set stale p false) runs stale' runs' →
      chosen ≡ picked t remains ends p → AreServed t remains ends stale runs → AreServed t remains ends stale' runs'
  handed_served remains ends p chosen stale runs stale' runs' i b x is served q j off = elim (cases_eq q p) [
    | inl same ↦ (let P : ℕ → Type 0 = λ y. IsServed t remains ends runs' y in
        subst P (sym same) (λ k l. x.each k l ∙ by_served (get_or runs p false) chosen k ∙ ap₂ (λ (c : Bool) (o : Option ℕ). c && is_at o k) (sym x.pack) is))
    | inr ne ↦ (let old = x.unmarked q j off in
        λ k l. x.others q k j ne l ∙ served q j (sym (other_at t h stale p q false ne) ∙ old.0) k l ∙ ap (λ (c : Bool). c && is_at (picked t remains ends q)
        k) (sym old.1))
  ]

  pub handed_mark : (p : ℕ) (next : Option ℕ) (stale runs stale' runs' : List Bool) → IsPack t p → p < length stale → IsHanded t p next (set stale p false)
      runs stale' runs' → get_or stale' p false ≡ false
  handed_mark p next stale runs stale' runs' i b x = x.marks p i (le_refl (level t p)) ∙ same_at t h stale p false b

  pub handed_marks : (p : ℕ) (next : Option ℕ) (stale runs stale' runs' : List Bool) → IsHanded t p next (set stale p false) runs stale' runs' → (q : ℕ) →
      IsPack t q → q ≢ p → level t p ≤ level t q → get_or stale' q false ≡ get_or stale q false
  handed_marks p next stale runs stale' runs' x q j ne low = x.marks q j low ∙ other_at t h stale p q false ne

  pub handed_unmarked : (p : ℕ) (next : Option ℕ) (stale runs stale' runs' : List Bool) → IsHanded t p next (set stale p false) runs stale' runs' →
      (q : ℕ) → IsPack t q → q ≢ p → get_or stale' q false ≡ false → get_or stale q false ≡ false
  handed_unmarked p next stale runs stale' runs' x q j ne off = sym (other_at t h stale p q false ne) ∙ (x.unmarked q j off).0

  -- where at each member as much as before is left or nothing still is, and its window ends as before, the pack stays served
  pub still_served : (remains ends remains' ends' : List ℕ) (runs : List Bool) (p : ℕ) →
      ((k : ℕ) → k < length (members t p) → get_or ends (member t p k) 0 ≡ get_or ends' (member t p k) 0) →
      ((k : ℕ) → k < length (members t p) → ltb 0 (get_or remains (member t p k) 0) ≡ ltb 0 (get_or remains' (member t p k) 0)) →
      IsServed t remains ends runs p → IsServed t remains' ends' runs p
  still_served remains ends remains' ends' runs p same_ends some_left was k l =
      was k l
      ∙ ap (λ (o : Option ℕ). get_or runs p false && is_at o k)
      (same_earliest (λ m. get_or ends m 0) (λ m. get_or remains m 0) (λ m. get_or ends' m 0) (λ m. get_or remains' m 0) (members t p) same_ends some_left)
