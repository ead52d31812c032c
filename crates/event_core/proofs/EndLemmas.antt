-- The first tick at which a member that runs has nothing left.
use Rattle.std.proofs.Common.{◌≡◌, ℕ, ◌+◌, ◌-◌, ◌<◌, ◌≤◌, true, false, List, length, get_or, Option, Some, None, refl, ap, arith, inl, inr, sym}
use Rattle.std.proofs.Common.{subst, ◌∙◌, eq-eqb}
use Rattle.std.proofs.lemmas.Bool.{cases_Bool, both_ways, eqb-true}
use Rattle.sched_base.specs.Candidates.{is_at}
use Rattle.run_tree.specs.Tree.{Tree, IsTree, IsPack, IsMember, kind_at, is_pack, home, place, member}
use Rattle.tree_select.specs.Marked.{AreFreshFrom}
use Rattle.server_budget.specs.Dues.{DueContents}
use Rattle.event_core.specs.Serving.{ServingContents, no_tick, dry_by, AreOfPacks, IsServing, IsSoonest}
use Rattle.event_core.specs.Ticks.{IsFirstTick}
use Rattle.event_core.specs.Steps.{IsShortest}

-- the first of all ticks is the first of those of packs, since no other node has one
pub soonest_of_packs : (t : Tree) (dry : List ℕ) (most least : ℕ) → AreOfPacks t dry → most < no_tick → IsFirstTick dry most least → IsSoonest t dry most least
soonest_of_packs t dry most least ticks early first = record {
  below = first.below;
  all = λ p i. first.all p (let l = i.0 in let long = ticks.long in omega (arith, l, long));
  one = elim first.one [ inl none ↦ inl none | inr found ↦ inr (found.0, of_pack found.0 found.1 found.2, found.2) ];
}
  where
    of_pack : (x : ℕ) → x < length dry → least ≡ get_or dry x 0 → IsPack t x
    of_pack x l e =
        let long = ticks.long in
        let within : x < length t.nodes = omega (arith, l, long) in
        elim (cases_Bool (is_pack (kind_at t x))) [
          | inl pack ↦ (within, pack)
          | inr member ↦ absurd (let far = ticks.members x (within, member) in let b = first.below in omega (arith, far, b, e, early))
        ]

-- ---- which are the ticks of the round

-- what is at a place
pub at_is : (o : Option ℕ) (k : ℕ) → is_at o k ≡ true → o ≡ Some k
at_is None k e = absurd (both_ways false refl e)
at_is (Some j) k e = ap (λ n. Some n) (eqb-true j k e)

module _ (t : Tree) (h : IsTree t) (d : DueContents) (ends : List ℕ) (s : ServingContents) (v : IsServing t d ends s) (fresh : AreFreshFrom t s.stale 0) where
  -- the tick at which a pack's member runs dry is known of all
  pub dry_known : (p : ℕ) → IsPack t p → get_or s.dry p 0 ≡ dry_by t d p (get_or s.serves p None)
  dry_known p i = v.told p i (fresh p i (omega arith))

  -- a member that runs is the one that its pack serves
  pub is_served : (x : ℕ) → IsMember t x → get_or s.runs x false ≡ true → get_or s.serves (home t x) None ≡ Some (place t x)
  is_served x i on =
      let at = h.homes_are x i in
      let P : ℕ → Type 0 = λ y. get_or s.runs y false ≡ true in
      at_is (get_or s.serves (home t x) None) (place t x) (sym (v.at (home t x) (place t x) at.0 at.1) ∙ subst P (sym at.2) on)

  pub dry_of_member : (x : ℕ) → IsMember t x → get_or s.runs x false ≡ true → get_or s.dry (home t x) 0 ≡ d.tick + get_or d.remains x 0
  dry_of_member x i on =
      let at = h.homes_are x i in
      dry_known (home t x) at.0 ∙ ap (dry_by t d (home t x)) (is_served x i on) ∙ ap (λ y. d.tick + get_or d.remains y 0) at.2

  -- the one that a pack serves runs
  pub served_runs : (p k : ℕ) → IsPack t p → get_or s.serves p None ≡ Some k → IsMember t (member t p k) × (get_or s.runs (member t p k) false ≡ true)
  served_runs p k i e =
      let l = v.within p k i e in
      ((h.members_are p k i l).0, v.at p k i l ∙ ap (λ o. is_at o k) e ∙ eq-eqb k k refl)

  pub is_shortest : (most end : ℕ) → d.tick ≤ most → most < no_tick → IsSoonest t s.dry most end → IsShortest t s.runs d.remains (most - d.tick)
      (length t.nodes) (end - d.tick)
  is_shortest most end early fits e = record {
    below = (let b = e.below in omega (arith, b));
    all = λ x l i on. (let at = h.homes_are x i in let b = e.all (home t x) at.0 in let dry = dry_of_member x i on in omega (arith, b, dry));
    one = elim e.one [
      | inl same ↦ inl (ap (λ n. n - d.tick) same)
      | inr found ↦ inr (of_pack found.0 found.1 found.2 (get_or s.serves found.0 None) refl)
    ];
  }
    where
      of_pack : (p : ℕ) → IsPack t p → end ≡ get_or s.dry p 0 → (o : Option ℕ) → get_or s.serves p None ≡ o → (x : ℕ) × IsMember t x
          × (get_or s.runs x false ≡ true) × (end - d.tick ≡ get_or d.remains x 0)
      of_pack p i at None none = absurd (let far = dry_known p i ∙ ap (dry_by t d p) none in let b = e.below in omega (arith, far, at, b, fits))
      of_pack p i at (Some k) some =
          let run = served_runs p k i some in
          let dry = dry_known p i ∙ ap (dry_by t d p) some in
          (member t p k, run.0, run.1, omega (arith, dry, at))
