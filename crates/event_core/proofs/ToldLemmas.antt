-- Processors that aren't told show what they showed.
use Rattle.std.proofs.Common.{◌≡◌, ◌≢◌, ℕ, zero, suc, ◌+◌, ◌*◌, ◌<◌, ◌≤◌, Bool, true, false, List, [], ◌∷◌, length, get_or, get_or-set_same}
use Rattle.std.proofs.Common.{get_or-set_other, Option, None, Some, refl, ap, arith, inl, inr, sym, subst, subst₂, ◌∙◌}
use Rattle.std.specs.List.{AllByRecursion}
use Rattle.std.proofs.lemmas.Bool.{cases_lt, le-ltb}
use Rattle.std.proofs.Math.ListN.{set}
use Rattle.sched_base.specs.declared.rows.Leaf.{Leaf}
use Rattle.sched_base.specs.declared.rows.Leaf.TheVariants.{Empty, Idle, Task, Wait}
use Rattle.sched_base.specs.declared.rows.Row.{Row}
use Rattle.sched_base.specs.declared.sets.Task as declared
use Rattle.sched_base.specs.Candidates.{is_at}
use Rattle.sched_base.specs.Places.{Placing, place}
use Rattle.sched_base.specs.Sets.{task_at}
use Rattle.run_tree.specs.Tree.{Tree, IsPack, leaf, members}
use Rattle.run_tree.specs.Schedule.{packs_at, shown}
use Rattle.run_tree.specs.Plans.{PlanContents, IsPlan}
use Rattle.run_tree.proofs.TreeLemmas.{first_is_pack}
use Rattle.cpu_assign.specs.Changed.{ChangeLists, AreChanged}
use Rattle.cpu_assign.specs.Noted.{IsNoted}
use Rattle.cpu_assign.proofs.MovedLemmas.{held_before}
use Rattle.event_core.specs.Cores.{CoreContents, IsCoreOf}
use Rattle.event_core.specs.Rounds.{IsRoundUpTo, rows_of_round}
use Rattle.event_core.specs.Serving.{ServingContents, AreAt, AreSeen, IsAmong}
use Rattle.event_core.specs.Steps.{leaf_by, leaf_shown}
use Rattle.event_core.specs.Told.{AllReleased, AreHeldTold, AreTold, IsTold}
use Rattle.event_core.proofs.RowsGone.{pack_within, row_gone, shows}

-- ---- what is told

pub set_other : (xs : List ℕ) (p x j : ℕ) → j ≢ p → get_or (set xs p x) j 0 ≡ get_or xs j 0
set_other xs p x j ne = rw get_or-set_other refl

-- at first none is
pub told_none : (places : Placing) (packs told : List ℕ) → AreTold places packs told 0 0
told_none places packs told = record { few = omega arith; each = λ k q l. absurd (omega (arith, l)); processors = λ j l. absurd (omega (arith, l)) }

-- a pack without a processor
pub told_skip : (places : Placing) (packs told : List ℕ) (n count : ℕ) → get_or places.last (get_or packs n 0) None ≡ None → AreTold places packs told n
    count → AreTold places packs told (n + 1) count
told_skip places packs told n count none t = record {
  few = (let f = t.few in omega (arith, f));
  each = λ k q l at. elim (cases_lt k n) [
    | inl low ↦ t.each k q low at
    | inr high ↦ absurd (
        let same : k ≡ n = omega (arith, l, high) in
        let e : None ≡ Some q = sym none ∙ ap (λ m. get_or places.last (get_or packs m 0) None) (sym same) ∙ at in cc)
  ];
  processors = t.processors;
}

-- and one with a processor
pub told_step : (places : Placing) (packs told told' : List ℕ) (n count p : ℕ) → IsNoted places.onto places.last → count < length told →
    told' ≡ set told count p → get_or places.last (get_or packs n 0) None ≡ Some p →
    AreTold places packs told n count → AreTold places packs told' (n + 1) (count + 1)
told_step places packs told told' n count p noted room is here t = record {
  few = (let f = t.few in omega (arith, f));
  each = λ k q l at. elim (cases_lt k n) [
    | inl low ↦ (let (j, m, e) = t.each k q low at in (j, omega (arith, m), older j m ∙ e))
    | inr high ↦
        (let same : k ≡ n = omega (arith, l, high) in
        let e : Some p ≡ Some q = sym here ∙ ap (λ m. get_or places.last (get_or packs m 0) None) (sym same) ∙ at in
        (count, omega arith, newest ∙ same_some p q e))
  ];
  processors = λ j l. elim (cases_lt j count) [
    | inl low ↦ (let e = older j low in let w = t.processors j low in omega (arith, e, w))
    | inr high ↦
        (let same : j ≡ count = omega (arith, l, high) in
        let e = ap (λ m. get_or told' m 0) same in
        let w = noted.within (get_or packs n 0) p here in
        omega (arith, e, newest, w))
  ];
}
  where
    same_some : (a b : ℕ) → Some a ≡ Some b → a ≡ b
    same_some a b e = cc

    newest : get_or told' count 0 ≡ p
    newest = ap (λ (xs : List ℕ). get_or xs count 0) is ∙ own
      where
        own : get_or (set told count p) count 0 ≡ p
        own = rw get_or-set_same

    older : (j : ℕ) → j < count → get_or told' j 0 ≡ get_or told j 0
    older j l = ap (λ (xs : List ℕ). get_or xs j 0) is ∙ set_other told count p j (λ e. omega (arith, l, e))

-- the next pack is done
pub told_next : (places : Placing) (packs told told' : List ℕ) (n count count' : ℕ) (o : Option ℕ) → IsNoted places.onto places.last → count < length told →
    get_or places.last (get_or packs n 0) None ≡ o →
    ((q : ℕ) → o ≡ Some q → (count' ≡ count + 1) × (told' ≡ set told count q)) → (o ≡ None → (count' ≡ count) × (told' ≡ told)) → AreTold places packs told
    n count → AreTold places packs told' (n + 1) count'
told_next places packs told told' n count count' None noted room at some none t =
    let (same, still) = none refl in
    subst₂ (λ (m : ℕ) (xs : List ℕ). AreTold places packs xs (n + 1) m) (sym same) (sym still) (told_skip places packs told n count at t)
told_next places packs told told' n count count' (Some q) noted room at some none t =
    let (more, is) = some q refl in
    subst (λ (m : ℕ). AreTold places packs told' (n + 1) m) (sym more) (told_step places packs told told' n count q noted room is at t)

-- ---- what is shown

-- no task waits
none_waits : (tasks : List declared.Task) (scale tick : ℕ) → AllByRecursion (λ k. k.offset * scale ≤ tick) tasks → (j : ℕ) →
    (task_at tasks j).offset * scale ≤ tick
none_waits [] scale tick all j = omega arith
none_waits (k ∷ tasks) scale tick all zero = all.0
none_waits (k ∷ tasks) scale tick all (suc j) = none_waits tasks scale tick all.1 j

-- so each leaf is shown as it is, from there on
shown_released : (tasks : List declared.Task) (scale tick : ℕ) → AllByRecursion (λ k. k.offset * scale ≤ tick) tasks → (start : ℕ) → tick ≤ start →
    (l : Leaf) → shown tasks scale start l ≡ l
shown_released tasks scale tick all start late (Task id) =
    let w = none_waits tasks scale tick all id.0 in
    ap (λ (b : Bool). elim b as (λ y. Leaf) [ true ↦ Wait id | false ↦ Task id ]) (le-ltb start ((task_at tasks id.0).offset * scale) (omega (arith, w, late)))
shown_released tasks scale tick all start late (Wait id) = refl
shown_released tasks scale tick all start late (Idle number) = refl
shown_released tasks scale tick all start late Empty = refl

-- of members that run by both lists alike the same leaf runs
leaf_alike : (t : Tree) (runs runs' : List Bool) (ms : List ℕ) → ((k : ℕ) → k < length ms → get_or runs' (get_or ms k 0) false ≡ get_or runs (get_or ms k 0)
    false) → leaf_by t runs' ms ≡ leaf_by t runs ms
leaf_alike t runs runs' [] same = refl
leaf_alike t runs runs' (x ∷ xs) same =
    ap (λ (b : Bool). elim b as (λ y. Leaf) [ true ↦ leaf t x | false ↦ leaf_by t runs' xs ]) (same 0 (omega arith))
    ∙ ap (λ (l : Leaf). elim (get_or runs x false) as (λ y. Leaf) [ true ↦ leaf t x | false ↦ l ]) (leaf_alike t runs runs' xs
    (λ k l. same (suc k) (omega (arith, l))))

module _ (t : Tree) (s s' : ServingContents) (p : ℕ) (is : IsPack t p) (a : AreAt t s) (a' : AreAt t s') where
  pub leaf_stays : get_or s'.serves p None ≡ get_or s.serves p None → leaf_by t s'.runs (members t p) ≡ leaf_by t s.runs (members t p)
  leaf_stays e = leaf_alike t s.runs s'.runs (members t p) (λ k l. a'.at p k is l ∙ ap (λ o. is_at o k) e ∙ sym (a.at p k is l))

module _ (p : PlanContents) (h : IsPlan p) (c c' : CoreContents) (b : IsCoreOf p c) (b' : IsCoreOf p c') (round : IsRoundUpTo p c.tick c'.tick)
    (runs : List Bool) (long : length c.places.last ≡ length runs) (changes : ChangeLists) (changed : AreChanged runs c.places.onto changes)
    (placed : c'.places ≡ place runs c.places)
    (noted : IsNoted c.places.onto c.places.last) (seen : AreSeen p.tree c.serving.serves c'.serving.serves changes)
    (told : List ℕ) (count : ℕ) (tells : AreHeldTold c'.places.onto changes.seen told (length changes.seen) count)
    (q : ℕ) (l : q < p.tree.processors) (not_told : IsTold told count q → ⊥) where
  -- no pack that was looked at holds the processor
  not_seen : (i : ℕ) → IsAmong changes.seen i → get_or c'.places.onto q None ≢ Some i
  not_seen i (k, m, e) at = not_told (tells.each k q m (at ∙ ap (λ (j : ℕ). Some j) (sym e)))

  -- but one does
  holds : (i : ℕ) × (get_or c'.places.onto q None ≡ Some i)
  holds = go (get_or c'.places.onto q None) refl
    where
      go : (o : Option ℕ) → get_or c'.places.onto q None ≡ o → (i : ℕ) × (get_or c'.places.onto q None ≡ Some i)
      go None e = absurd (let is = b'.shown c.tick round in
          shows p h c.tick c'.serving.runs is.says c'.places.onto is.onto c'.tick q l Empty (ap (leaf_shown p c'.serving.runs c.tick) (sym e)) refl)
      go (Some i) e = (i, e)

  pub stays : get_or c'.places.onto q None ≡ get_or c.places.onto q None
  stays =
      let (i, at) = holds in
      at ∙ sym (held_before runs c.places noted long q i (ap (λ (s : Placing). get_or s.onto q None) (sym placed) ∙ at)
      (λ k m is. (let (j, n, e) = seen.begins k (subst (λ (xs : List ℕ). k < length xs) (sym changed.begins) m) in
      not_seen i (j, n, e ∙ ap (λ (xs : List ℕ). get_or xs k 0) changed.begins ∙ is) at)))

  on_at : AreAt p.tree c.serving
  on_at = record { within = b.serving.within; at = b.serving.at }

  on_at' : AreAt p.tree c'.serving
  on_at' = record { within = b'.serving.within; at = b'.serving.at }

  leaf_same : (start : ℕ) → AllReleased p start → start ≤ c.tick → (o : Option ℕ) → get_or c'.places.onto q None ≡ o → ((i : ℕ) → o ≡ Some i →
      i < length (packs_at p.tree 0)) →
      leaf_shown p c'.serving.runs c.tick o ≡ leaf_shown p c.serving.runs start o
  leaf_same start released later None at within = refl
  leaf_same start released later (Some i) at within =
      let m = within i refl in
      let pack = get_or (packs_at p.tree 0) i 0 in
      let same = seen.same i m (λ a. not_seen i a at) in
      shown_released p.set.tasks p.tree.scale start released c.tick later (leaf_by p.tree c'.serving.runs (members p.tree pack))
      ∙ leaf_stays p.tree c.serving c'.serving pack (first_is_pack p.tree h.tree.tree i m) on_at on_at' same
      ∙ sym (shown_released p.set.tasks p.tree.scale start released start (omega arith) (leaf_by p.tree c.serving.runs (members p.tree pack)))

  pub shows_same : (start : ℕ) (none : Row) → AllReleased p start → IsRoundUpTo p start c.tick →
      (get_or (rows_of_round p c.tick c'.tick) q none).leaf ≡ (get_or (rows_of_round p start c.tick) q none).leaf
  shows_same start none released before =
      let above = before.above in
      let was = b.shown start before in
      let is = b'.shown c.tick round in
      ap (λ (r : Row). r.leaf) (row_gone p h c.tick c'.serving.runs is.says c'.places.onto is.onto c'.tick q l none)
      ∙ leaf_same start released (omega (arith, above)) (get_or c'.places.onto q None) refl
      (λ i e. pack_within p h c.tick q i l (ap (λ (os : List (Option ℕ)). get_or os q None) (sym is.onto) ∙ e))
      ∙ ap (leaf_shown p c.serving.runs start) stays
      ∙ sym (ap (λ (r : Row). r.leaf) (row_gone p h start c.serving.runs was.says c.places.onto was.onto c.tick q l none))
