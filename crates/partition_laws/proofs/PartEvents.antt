-- The events of a plan are those of its parts' own plans.
use Rattle.std.proofs.Common.{ap, ap₂, arith, div-add-mod', false, inl, inr, mul-le-mul_right, subst, suc, sym, true, zero, ℕ, ◌%◌, ◌*◌, ◌+◌, ◌/◌}
use Rattle.std.proofs.Common.{◌<◌, ◌∙◌, ◌≡◌, ◌⊎◌}
use Rattle.std.proofs.lemmas.Bool.{both_ways, cases_Bool, cases_eq, false_from_ne_true}
use Rattle.run_tree.specs.Boundaries.{set_boundary}
use Rattle.run_tree.specs.Plans.{IsPlan, PlanContents}
use Rattle.run_tree.specs.Rounds.{is_event}
use Rattle.run_tree.specs.Runs.{runs}
use Rattle.run_tree.specs.Tree.{IsLeaf, IsMember, Tree, home, is_leaf, is_pack, kind_at, leaf, member, place, primal}
use Rattle.run_tree.proofs.KindLemmas.{KindOf, dual_no_leaf, kind_of, not_pack_leaf}
use Rattle.run_tree.proofs.RunLemmas.{left_at, left_is, on_time}
use Rattle.sched_laws.proofs.Packs.{server_serves}
use Rattle.partition_laws.specs.Parts.{AreParts, IsPartPlan, Parts}
use Rattle.partition_laws.proofs.AlikeLeaves.{alike_boundary, alike_task}
use Rattle.partition_laws.proofs.LongTicks.{step_at, step_inside}
use Rattle.partition_laws.proofs.PartNodes.{dual_there, leaf_there, member_there, plan_leaves, some_ticks, unit_there}
use Rattle.partition_laws.proofs.PartTicks.{none_there, runs_there, some_there}
use Rattle.partition_laws.proofs.PlanEvents.{Begins, Dries, begin_event, dry_event, event_parts}

-- a member that runs has something left
pub some_left : (p : PlanContents) → IsPlan p → (n x : ℕ) → IsMember p.tree x → runs (set_boundary p.set.tasks) p.tree x n ≡ true →
    0 < left_at (set_boundary p.set.tasks) p.tree n x
some_left p is n x m =
    let b = set_boundary p.set.tasks in
    let (i, l, same) = is.tree.tree.homes_are x m in
    let law = server_serves b p.tree is.tree.tree (plan_leaves p is) (home p.tree x) i in
    let P : ℕ → Type 0 = λ y. runs b p.tree y n ≡ true → 0 < left_at b p.tree n y in
    let y = member p.tree (home p.tree x) (place p.tree x) in
    let at = left_is b p.tree y n (on_time b p.tree is.tree.tree (plan_leaves p is) y n (is.tree.tree.members_are (home p.tree x) (place p.tree x) i l).0) in
    subst P same (λ run. (let left = law.has_left (place p.tree x) n l run in omega (arith, left, at)))

module _ (whole own : PlanContents) (onto : ℕ → ℕ) (f : ℕ) (w : IsPlan whole) (o : IsPlan own) (is : IsPartPlan whole own onto f) where
  -- the ticks of a unit that went by
  pub part_of_unit : (n : ℕ) → n % whole.tree.scale ≡ f * (n / f % own.tree.scale) + n % f
  part_of_unit n =
      let a = div-add-mod' n f in
      let b = div-add-mod' (n / f) own.tree.scale in
      let c = div-add-mod' n whole.tree.scale in
      let d : n / whole.tree.scale * whole.tree.scale ≡ n / f / own.tree.scale * (f * own.tree.scale) =
      ap₂ (λ u s. u * s) (unit_there whole own onto f w o is n) is.scale in
      let e = ap (λ v. f * v) b in
      omega (arith, a, c, d, e)

  -- units begin at the same ticks
  pub unit_begins : (n : ℕ) → n % f ≡ 0 → n / f % own.tree.scale ≡ 0 → n % whole.tree.scale ≡ 0
  unit_begins n z y = let a = part_of_unit n in let b = ap (λ v. f * v) y in omega (arith, a, b, z)

  -- and the other way round
  pub unit_back : (n : ℕ) → n % whole.tree.scale ≡ 0 → (n % f ≡ 0) × (n / f % own.tree.scale ≡ 0)
  unit_back n z =
      let a = part_of_unit n in
      let m = mul-le-mul_right (n / f % own.tree.scale) is.some in
      (omega (arith, a, z), omega (arith, a, z, m))

  -- a leaf is the like of a leaf
  pub leaf_back : (x : ℕ) → IsMember own.tree x → is_leaf (kind_at whole.tree (onto x)) ≡ true → is_leaf (kind_at own.tree x) ≡ true
  leaf_back x m a_leaf = go (kind_of (kind_at own.tree x))
    where
      go : KindOf (kind_at own.tree x) → is_leaf (kind_at own.tree x) ≡ true
      go (inl here) = here
      go (inr (inl a_dual)) =
          (let (p, e, up) = o.tree.tree.duals_are x (m.0, a_dual) in
          let there = (w.tree.tree.has_dual (onto (primal own.tree x)) (onto x) (is.packs (primal own.tree x) p) (dual_there whole own onto f w o is
          (primal own.tree x) x p e)).0 in
          absurd (both_ways (is_leaf (kind_at whole.tree (onto x))) (dual_no_leaf (kind_at whole.tree (onto x)) there.1) a_leaf))
      go (inr (inr a_pack)) = absurd (both_ways (is_pack (kind_at own.tree x)) m.1 a_pack)

  -- where a leaf begins a window, so does the one whose like it is
  pub begins_there : (n x : ℕ) → n % f ≡ 0 → Begins own (n / f) x → Begins whole n (onto x)
  begins_there n x z at =
      let a = is.alike x at.1 in
      let l = leaf whole.tree (onto x) in
      let m = leaf own.tree x in (
        unit_begins n z at.0,
        leaf_there whole own onto f w o is x at.1,
        alike_task whole.set.tasks own.set.tasks l m a ∙ at.2,
        ap (set_boundary whole.set.tasks l) (unit_there whole own onto f w o is n) ∙ alike_boundary whole.set.tasks own.set.tasks l m a
            (n / f / own.tree.scale) ∙ at.3,
      )

  -- and the other way round
  pub begins_back : (n x : ℕ) → IsMember own.tree x → Begins whole n (onto x) → (n % f ≡ 0) × Begins own (n / f) x
  begins_back n x i at =
      let here : IsLeaf own.tree x = (i.0, leaf_back x i at.1.1) in
      let a = is.alike x here in
      let l = leaf whole.tree (onto x) in
      let m = leaf own.tree x in
      let u = unit_back n at.0 in (
        u.0,
        (
          u.1,
          here,
          sym (alike_task whole.set.tasks own.set.tasks l m a) ∙ at.2,
          sym (alike_boundary whole.set.tasks own.set.tasks l m a (n / f / own.tree.scale)) ∙ sym (ap (set_boundary whole.set.tasks l)
              (unit_there whole own onto f w o is n)) ∙ at.3,
        ),
      )

  -- where a longer tick leaves a member's like nothing, the last tick of it leaves the member nothing
  pub dries_there : (n x : ℕ) → suc n % f ≡ 0 → Dries own (n / f) x → Dries whole n (onto x)
  dries_there n x z at = (
    (member_there whole own onto f w o is x at.0).0,
    runs_there whole own onto f w o is n x at.0 ∙ at.1,
    none_there whole own onto f w o is (suc n) x at.0
        (ap (λ m. left_at (set_boundary own.set.tasks) own.tree m x) (step_at n f (some_ticks whole own onto f w o is) z) ∙ at.2),
  )

  -- and the other way round: within a longer tick what ran goes on, so it has something left
  pub dries_back : (n x : ℕ) → IsMember own.tree x → Dries whole n (onto x) → (suc n % f ≡ 0) × Dries own (n / f) x
  dries_back n x i at =
      let p = some_ticks whole own onto f w o is in
      let run = sym (runs_there whole own onto f w o is n x i) ∙ at.1 in
      elim (cases_eq (suc n % f) 0) [
        | inl z ↦ (
          z,
          (
            i,
            run,
            elim (cases_eq (left_at (set_boundary own.set.tasks) own.tree (suc (n / f)) x) 0) [
              | inl none ↦ none
              | inr ne ↦
                  (let next = ap (λ m. left_at (set_boundary own.set.tasks) own.tree m x) (step_at n f p z) in
                  let some = some_there whole own onto f w o is (suc n) x i (omega (arith, next, ne)) in
                  let none = at.2 in
                  absurd (omega (arith, some, none)))
            ],
          ),
        )
        | inr inside ↦
            (let same = step_inside n f p (omega (arith, inside)) in
            let left = some_left own o (n / f) x i run in
            let here = ap (λ m. left_at (set_boundary own.set.tasks) own.tree m x) same in
            let some = some_there whole own onto f w o is (suc n) x i (omega (arith, left, here)) in
            let none = at.2 in
            absurd (omega (arith, some, none)))
      ]

  -- each event of the own plan is one of the whole plan
  pub event_there : (n : ℕ) → 0 < n → n % f ≡ 0 → is_event (set_boundary own.set.tasks) own.tree (n / f) ≡ true → is_event (set_boundary whole.set.tasks)
      whole.tree n ≡ true
  event_there zero some z e = absurd (omega (arith, some))
  event_there (suc n) some z e =
      let step = step_at n f (some_ticks whole own onto f w o is) z in
      elim (event_parts own (n / f) (sym (ap (is_event (set_boundary own.set.tasks) own.tree) step) ∙ e)) [
        | inl begun ↦
            (let P : ℕ → Type 0 = λ u. Begins own u begun.0 in
            begin_event whole n (onto begun.0) (begins_there (suc n) begun.0 z (subst P (sym step) begun.1)))
        | inr dry ↦ dry_event whole n (onto dry.0) (dries_there n dry.0 z dry.1)
      ]

  -- and each event of the whole plan that a member of the part makes is one of the own plan
  pub event_back : (n x : ℕ) → IsMember own.tree x → Begins whole (suc n) (onto x) ⊎ Dries whole n (onto x) →
      (suc n % f ≡ 0) × (is_event (set_boundary own.set.tasks) own.tree (suc n / f) ≡ true)
  event_back n x i (inl begun) =
      let at = begins_back (suc n) x i begun in
      let step = step_at n f (some_ticks whole own onto f w o is) at.0 in
      let Q : ℕ → Type 0 = λ u. Begins own u x in
      (at.0, ap (is_event (set_boundary own.set.tasks) own.tree) step ∙ begin_event own (n / f) x (subst Q step at.1))
  event_back n x i (inr dry) =
      let at = dries_back n x i dry in
      let step = step_at n f (some_ticks whole own onto f w o is) at.0 in
      (at.0, ap (is_event (set_boundary own.set.tasks) own.tree) step ∙ dry_event own (n / f) x at.1)

module _ (whole : PlanContents) (own : ℕ → PlanContents) (onto : ℕ → ℕ → ℕ) (factor : ℕ → ℕ) (count : ℕ)
    (w : IsPlan whole) (o : (c : ℕ) → c < count → IsPlan (own c)) (each : (c : ℕ) → c < count → IsPartPlan whole (own c) (onto c) (factor c)) where
  -- node x of the whole plan has a like in some part
  abbrev pub HasLike : ℕ → Type 0
  HasLike x = (c : ℕ) × (y : ℕ) × (c < count) × IsMember (own c).tree y × (onto c y ≡ x)

  -- whether tick n is an event of the own plan of some part
  abbrev pub IsOwnEvent : ℕ → Type 0
  IsOwnEvent n = (c : ℕ) × (c < count) × (n % factor c ≡ 0) × (is_event (set_boundary (own c).set.tasks) (own c).tree (n / factor c) ≡ true)

  -- an event that a member with a like makes is one of its part's own plan
  pub made_by : (n x : ℕ) → HasLike x → Begins whole (suc n) x ⊎ Dries whole n x → IsOwnEvent (suc n)
  made_by n x (c, y, l, m, same) by =
      let P : ℕ → Type 0 = λ z. Begins whole (suc n) z ⊎ Dries whole n z in
      let at = event_back whole (own c) (onto c) (factor c) w (o c l) (each c l) n y m (subst P (sym same) by) in
      (c, l, at.0, at.1)

  -- where all members have likes, a tick that is an event of no part is none
  pub event_of_none : ((x : ℕ) → IsMember whole.tree x → HasLike x) → (n : ℕ) → 0 < n → ((c : ℕ) → c < count → n % factor c ≡ 0 →
      is_event (set_boundary (own c).set.tasks) (own c).tree (n / factor c) ≡ false) → is_event (set_boundary whole.set.tasks) whole.tree n ≡ false
  event_of_none has zero some none = absurd (omega (arith, some))
  event_of_none has (suc n) some none = false_from_ne_true (is_event (set_boundary whole.set.tasks) whole.tree (suc n)) (λ e.
      let (c, l, z, on) = of_part e in
      both_ways (is_event (set_boundary (own c).set.tasks) (own c).tree (suc n / factor c)) (none c l z) on)
    where
      of_part : is_event (set_boundary whole.set.tasks) whole.tree (suc n) ≡ true → IsOwnEvent (suc n)
      of_part e = elim (event_parts whole n e) [
        | inl begun ↦ made_by n begun.0 (has begun.0 (begun.1.1.0, not_pack_leaf (kind_at whole.tree begun.0) begun.1.1.1)) (inl begun.1)
        | inr dry ↦ made_by n dry.0 (has dry.0 dry.1.0) (inr dry.1)
      ]

-- each member of a plan that falls into parts has a like
pub has_like : (whole : PlanContents) (parts : Parts) (w : IsPlan whole) (o : (c : ℕ) → c < parts.count → IsPlan (parts.own c)) (are : AreParts whole parts) →
    (x : ℕ) → IsMember whole.tree x → HasLike whole parts.own parts.onto parts.factor parts.count w o are.each x
has_like whole parts w o are x m =
    (parts.part x, parts.like x, are.within x m.0, (are.known x m.0, no_pack (cases_Bool (is_pack (kind_at t (parts.like x))))), are.likes x m.0)
  where
    t : Tree
    t = (parts.own (parts.part x)).tree

    -- only a pack is the like of a pack
    no_pack : (is_pack (kind_at t (parts.like x)) ≡ true) ⊎ (is_pack (kind_at t (parts.like x)) ≡ false) → is_pack (kind_at t (parts.like x)) ≡ false
    no_pack (inl on) =
        (let at = (are.each (parts.part x) (are.within x m.0)).packs (parts.like x) (are.known x m.0, on) in
        let there = ap (λ y. is_pack (kind_at whole.tree y)) (sym (are.likes x m.0)) ∙ at.1 in
        absurd (both_ways (is_pack (kind_at whole.tree x)) m.1 there))
    no_pack (inr off) = off
