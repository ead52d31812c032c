-- One member of a pack for another, among those that run.
use Rattle.std.proofs.Common.{option_map, ◌≡◌, ◌≢◌, ℕ, ◌+◌, ◌<◌, Bool, true, false, List, length, Option, Some, None, refl, ap, ap₂, arith, inl, inr}
use Rattle.std.proofs.Common.{sym, subst, ◌∙◌, get_or, eq-eqb, get_or-set_same, get_or-set_other}
use Rattle.std.proofs.lemmas.Bool.{cases_eq, ne_eqb}
use Rattle.std.proofs.lemmas.List.{length-set}
use Rattle.std.proofs.Math.ListN.{set}
use Rattle.sched_base.specs.Candidates.{is_at}
use Rattle.run_tree.specs.Tree.{Tree, IsTree, IsPack, IsMember, home, place, members, member}
use Rattle.server_budget.specs.Dues.{DueContents}
use Rattle.event_core.specs.Serving.{dry_by, no_tick, with_place, IsOver}

module _ (t : Tree) (h : IsTree t) (p : ℕ) (i : IsPack t p) where
  with_long : (k : Option ℕ) (on : Bool) (runs : List Bool) → length (with_place t p k on runs) ≡ length runs
  with_long None on runs = refl
  with_long (Some k) on runs = length-set runs (member t p k) on

  with_other : (k : Option ℕ) (on : Bool) (runs : List Bool) (x : ℕ) → ((j : ℕ) → k ≡ Some j → j < length (members t p)) → home t x ≢ p →
      get_or (with_place t p k on runs) x false ≡ get_or runs x false
  with_other None on runs x within apart = refl
  with_other (Some k) on runs x within apart = (let ne : x ≢ member t p k = (λ e. apart (ap (home t) e ∙ (h.members_are p k i (within k refl)).1)) in
      rw get_or-set_other refl)

  with_rest : (k : Option ℕ) (on : Bool) (runs : List Bool) (x : ℕ) → ((j : ℕ) → k ≡ Some j → j < length (members t p)) → (IsMember t x → ⊥) →
      get_or (with_place t p k on runs) x false ≡ get_or runs x false
  with_rest None on runs x within none = refl
  with_rest (Some k) on runs x within none = (let ne : x ≢ member t p k =
      (λ e. none (subst (λ (y : ℕ). IsMember t y) (sym e) (h.members_are p k i (within k refl)).0)) in rw get_or-set_other refl)

  with_at : (k : Option ℕ) (on : Bool) (runs : List Bool) (j : ℕ) → length runs ≡ length t.nodes → ((n : ℕ) → k ≡ Some n → n < length (members t p)) →
      j < length (members t p) →
      get_or (with_place t p k on runs) (member t p j) false ≡ elim (is_at k j) as (λ z. Bool) [ true ↦ on | false ↦ get_or runs (member t p j) false ]
  with_at None on runs j long within l = refl
  with_at (Some k) on runs j long within l = elim (cases_eq k j) [
    | inl same ↦
        (let its = (h.members_are p k i (within k refl)).0 in
        let b : member t p k < length runs = (let c = its.0 in omega (arith, c, long)) in
        let here : get_or (set runs (member t p k) on) (member t p k) false ≡ on = rw get_or-set_same in
        ap (λ x. get_or (set runs (member t p k) on) (member t p x) false) (sym same) ∙ here
        ∙ sym (ap (λ (c : Bool). elim c as (λ z. Bool) [ true ↦ on | false ↦ get_or runs (member t p j) false ]) (eq-eqb k j same)))
    | inr ne ↦
        (let other : member t p j ≢ member t p k = (λ e. ne (sym (h.members_are p k i (within k refl)).2 ∙ ap (place t) (sym e) ∙ (h.members_are p j i l).2)) in
        let there : get_or (set runs (member t p k) on) (member t p j) false ≡ get_or runs (member t p j) false = rw get_or-set_other refl in
        there ∙ sym (ap (λ (c : Bool). elim c as (λ z. Bool) [ true ↦ on | false ↦ get_or runs (member t p j) false ]) (ne_eqb k j ne)))
  ]

  -- the same by the node that stands at the place
  pub with_node : (k : Option ℕ) (m : ℕ) (on : Bool) (runs : List Bool) → Some m ≡ option_map (member t p) k → set runs m on ≡ with_place t p k on runs
  with_node None m on runs e = cc
  with_node (Some j) m on runs e = (let at : m ≡ member t p j = cc in ap (λ x. set runs x on) at)

  pub with_nobody : (k : Option ℕ) (on : Bool) (runs : List Bool) → None ≡ option_map (member t p) k → runs ≡ with_place t p k on runs
  with_nobody None on runs e = refl
  with_nobody (Some j) on runs e = cc

  pub runs_node : (k : Option ℕ) (m : ℕ) (on : Bool) (runs : List Bool) → Some m ≡ option_map (member t p) k → ((j : ℕ) → k ≡ Some j →
      get_or runs (member t p j) false ≡ on) → get_or runs m false ≡ on
  runs_node None m on runs e is = cc
  runs_node (Some j) m on runs e is = (let at : m ≡ member t p j = cc in ap (λ x. get_or runs x false) at ∙ is j refl)

  pub dry_node : (d : DueContents) (k : Option ℕ) (m : ℕ) → Some m ≡ option_map (member t p) k → d.tick + get_or d.remains m 0 ≡ dry_by t d p k
  dry_node d None m e = cc
  dry_node d (Some j) m e = (let at : m ≡ member t p j = cc in ap (λ x. d.tick + get_or d.remains x 0) at)

  pub dry_nobody : (d : DueContents) (k : Option ℕ) → None ≡ option_map (member t p) k → no_tick ≡ dry_by t d p k
  dry_nobody d None e = refl
  dry_nobody d (Some j) e = cc

  -- a member that runs, by its node
  pub runs_at_node : (k : Option ℕ) (m : ℕ) (runs : List Bool) → Some m ≡ option_map (member t p) k → ((j : ℕ) → k ≡ Some j → j < length (members t p)) →
      ((j : ℕ) → j < length (members t p) → get_or runs (member t p j) false ≡ is_at k j) → get_or runs m false ≡ true
  runs_at_node k m runs e within own = runs_node k m true runs e (λ j is. own j (within j is) ∙ ap (λ o. is_at o j) is ∙ eq-eqb j j refl)

  -- another member than the one that runs rests
  pub other_rests : (was next : Option ℕ) (m : ℕ) (runs : List Bool) → was ≢ next → Some m ≡ option_map (member t p) next → ((j : ℕ) → next ≡ Some j →
      j < length (members t p)) →
      ((j : ℕ) → j < length (members t p) → get_or runs (member t p j) false ≡ is_at was j) → get_or runs m false ≡ false
  other_rests was next m runs ne e within own = runs_node next m false runs e (λ j is. own j (within j is) ∙ off was j (λ same. ne (same ∙ sym is)))
    where
      off : (o : Option ℕ) (j : ℕ) → o ≢ Some j → is_at o j ≡ false
      off None j apart = refl
      off (Some k) j apart = ne_eqb k j (λ same. apart (ap (λ (x : ℕ). Some x) same))

  -- one node for another, by their places
  pub with_nodes : (was next : Option ℕ) (m n : ℕ) (runs : List Bool) → Some m ≡ option_map (member t p) was → Some n ≡ option_map (member t p) next →
      set (set runs m false) n true ≡ with_place t p next true (with_place t p was false runs)
  with_nodes was next m n runs e f = ap (λ (rs : List Bool). set rs n true) (with_node was m false runs e) ∙ with_node next n true (with_place t p was false
      runs) f

  -- the tick at which what runs at a place has nothing left stays while ticks and dues do
  pub dry_still : (d d' : DueContents) (k : Option ℕ) (m : ℕ) → d'.tick ≡ d.tick → d'.remains ≡ d.remains → Some m ≡ option_map (member t p) k →
      d.tick + get_or d.remains m 0 ≡ dry_by t d' p k
  dry_still d d' k m tick remains e = ap₂ (λ (n : ℕ) (rs : List ℕ). n + get_or rs m 0) (sym tick) (sym remains) ∙ dry_node d' k m e

  -- once the one that ran has stopped, none of them runs
  pub none_runs : (was : Option ℕ) (runs runs' : List Bool) (j : ℕ) → length runs ≡ length t.nodes → ((n : ℕ) → was ≡ Some n → n < length (members t p)) →
      j < length (members t p) →
      ((n : ℕ) → n < length (members t p) → get_or runs (member t p n) false ≡ is_at was n) → runs' ≡ with_place t p was false runs →
      get_or runs' (member t p j) false ≡ false
  none_runs was runs runs' j long within l own is = ap (λ (xs : List Bool). get_or xs (member t p j) false) is ∙ with_at was false runs j long within l
      ∙ go (is_at was j) refl
    where
      go : (c : Bool) → is_at was j ≡ c → elim c as (λ z. Bool) [ true ↦ false | false ↦ get_or runs (member t p j) false ] ≡ false
      go true e = refl
      go false e = own j l ∙ e

  -- then the other one alone does
  pub is_over : (was next : Option ℕ) (runs runs' runs'' : List Bool) → length runs ≡ length t.nodes → ((n : ℕ) → was ≡ Some n → n < length (members t p)) →
      ((n : ℕ) → next ≡ Some n → n < length (members t p)) →
      ((n : ℕ) → n < length (members t p) → get_or runs (member t p n) false ≡ is_at was n) → runs' ≡ with_place t p was false runs →
      runs'' ≡ with_place t p next true runs' → IsOver t p next runs runs''
  is_over was next runs runs' runs'' long before after own stopped started = record {
    each = λ k l. ap (λ (xs : List Bool). get_or xs (member t p k) false) started ∙ with_at next true runs' k long' after l
        ∙ ap (λ (b : Bool). elim (is_at next k) as (λ z. Bool) [ true ↦ true | false ↦ b ]) (none_runs was runs runs' k long before l own stopped)
        ∙ same (is_at next k);
    others = λ x j apart. ap (λ (xs : List Bool). get_or xs x false) started ∙ with_other next true runs' x after apart
        ∙ ap (λ (xs : List Bool). get_or xs x false) stopped ∙ with_other was false runs x before apart;
    rest = λ x none. ap (λ (xs : List Bool). get_or xs x false) started ∙ with_rest next true runs' x after none
        ∙ ap (λ (xs : List Bool). get_or xs x false) stopped ∙ with_rest was false runs x before none;
    long = ap (λ (xs : List Bool). length xs) started ∙ with_long next true runs' ∙ ap (λ (xs : List Bool). length xs) stopped ∙ with_long was false runs;
  }
    where
      long' : length runs' ≡ length t.nodes
      long' = ap (λ (xs : List Bool). length xs) stopped ∙ with_long was false runs ∙ long

      same : (c : Bool) → elim c as (λ z. Bool) [ true ↦ true | false ↦ false ] ≡ c
      same true = refl
      same false = refl

  -- nothing changes
  pub over_same : (was next : Option ℕ) (runs : List Bool) → was ≡ next → ((n : ℕ) → n < length (members t p) → get_or runs (member t p n) false ≡ is_at was
      n) → IsOver t p next runs runs
  over_same was next runs e own = record { each = λ k l. own k l ∙ ap (λ o. is_at o k) e; others = λ x j apart. refl; rest = λ x none. refl; long = refl }

  -- so a list of all nodes and one of the dues go on saying the same of members
  pub agree_still : (next : Option ℕ) (runs runs' dues dues' : List Bool) → IsOver t p next dues dues' → ((x : ℕ) → IsMember t x →
      get_or dues x false ≡ get_or runs x false) →
      ((k : ℕ) → k < length (members t p) → get_or runs' (member t p k) false ≡ is_at next k) →
      ((q k : ℕ) → IsPack t q → q ≢ p → k < length (members t q) → get_or runs' (member t q k) false ≡ get_or runs (member t q k) false) →
      (x : ℕ) → IsMember t x → get_or dues' x false ≡ get_or runs' x false
  agree_still next runs runs' dues dues' over was now others x j =
      let at = h.homes_are x j in
      elim (cases_eq (home t x) p) [
        | inl same ↦ (let P : ℕ → Type 0 = λ y. get_or dues' y false ≡ get_or runs' y false in
            let Q : ℕ → Type 0 = λ q. place t x < length (members t q) × (member t q (place t x) ≡ x) in
            let mine = subst Q same (at.1, at.2) in
            subst P mine.1 (over.each (place t x) mine.0 ∙ sym (now (place t x) mine.0)))
        | inr apart ↦ over.others x j apart ∙ was x j
            ∙ sym (let P : ℕ → Type 0 = λ y. get_or runs' y false ≡ get_or runs y false in subst P at.2 (others (home t x) (place t x) at.0 apart at.1))
      ]

  -- what stands at a place of the pack is a member
  pub member_of : (k : ℕ) → k < length (members t p) → IsMember t (member t p k)
  member_of k l = (h.members_are p k i l).0
