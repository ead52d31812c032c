-- A part of a plan within the whole: its rounds, and what the whole shows of its packs in them.
use Rattle.std.proofs.Common.{◌≡◌, ℕ, zero, suc, ◌+◌, ◌*◌, ◌%◌, ◌/◌, ◌-◌, ◌<◌, ◌≤◌, ◌^◌, ◌∙◌, ◌∷◌, [], inl, inr, Bool, true, false, List, Option}
use Rattle.std.proofs.Common.{None, Some, length, get_or, slice_get, refl, sym, ap, subst, arith, div-add-mod', mul-le-mul_right, le_of_lt}
use Rattle.std.proofs.Math.Nat.{lt_of_mul-lt-mul_right, mul-div_cancel, mul-mod_left}
use Rattle.std.proofs.lemmas.Bool.{both_ways, cases_Bool, cases_eq, cases_lt}
use Rattle.std.proofs.lemmas.Nat.{div_below, le-div}
use Rattle.sched_base.specs.declared.rows.Leaf.{Leaf}
use Rattle.sched_base.specs.Counting.{bit}
use Rattle.sched_base.specs.Places.{is_held}
use Rattle.sched_base.proofs.CountingLemmas.{bit_at, bit_off}
use Rattle.sched_base.proofs.HeldLemmas.{held, held-zero, held_some}
use Rattle.sched_base.proofs.ListLemmas.{first_from, passing_increases}
use Rattle.run_tree.specs.Boundaries.{set_boundary}
use Rattle.run_tree.specs.Plans.{IsPlan, PlanContents, stop_of}
use Rattle.run_tree.specs.Schedule.{onto_at, packs_at}
use Rattle.run_tree.specs.Tree.{IsLeaf, IsPack, Tree, at_level, is_pack, kind_at, level, member}
use Rattle.run_tree.proofs.ScheduleLemmas.{running_is}
use Rattle.run_tree.proofs.TreeLemmas.{at_from, first_is_pack, leaf_at_level, pack_at}
use Rattle.sched_laws.proofs.BetweenEvents.{set_runs_still}
use Rattle.sched_laws.proofs.LevelRates.{member_runs}
use Rattle.sched_laws.proofs.PlacedPacks.{held_onto}
use Rattle.event_core.specs.Cores.{runs_at}
use Rattle.event_core.specs.Rounds.{IsRoundStart, IsRoundUpTo, event_at}
use Rattle.event_core.proofs.NextCores.{event_first}
use Rattle.merged_rounds.specs.Replays.{IsPackOn, packs_of}
use Rattle.partition_laws.specs.Partitions.{first_pack}
use Rattle.partition_laws.specs.Parts.{AreParts, IsPartPlan, Parts}
use Rattle.partition_laws.proofs.FlatTrees.{found_in}
use Rattle.partition_laws.proofs.PartEvents.{event_of_none, event_there, has_like}
use Rattle.partition_laws.proofs.PartNodes.{member_there, plan_leaves}
use Rattle.partition_laws.proofs.PartPlaces.{level_there, shown_there}
use Rattle.partition_laws.proofs.PartTicks.{node_there}
use Rattle.part_plans.specs.declared.parts.PartPlan.{PartPlan}
use Rattle.part_plans.specs.PartPlans.{IsPartPlanOf, onto_of}
use Rattle.part_rounds.specs.declared.sources.PartRounds.{PartRounds}
use Rattle.part_rounds.specs.Parted.{IsCovered}
use Rattle.part_rounds.specs.PartRounds.{IsPartRound}

-- ---- within a round the same members run

-- a node runs at all ticks of a round, if it does at the first
same_until : (p : PlanContents) → IsPlan p → (first last x k : ℕ) → IsRoundUpTo p first last → x < length p.tree.nodes → first + k < last →
    runs_at p x (first + k) ≡ runs_at p x first
same_until p h first last x zero r l below = ap (runs_at p x) (let e : first + 0 ≡ first = omega arith in e)
same_until p h first last x (suc k) r l below =
    let most : p.set.horizon * p.tree.scale ≤ 2 ^ 32 * p.tree.scale = mul-le-mul_right p.tree.scale (le_of_lt h.lawful.horizon_fits) in
    let within = r.below in
    let next : first + k + 1 ≡ first + suc k = omega arith in
    let calm : event_at p (first + k + 1) ≡ false = r.quiet (first + k + 1) (omega arith) (omega (arith, below)) in
    ap (runs_at p x) (sym next)
    ∙ set_runs_still p.set h.lawful p.tree h.tree (first + k) (omega (arith, most, within, below)) calm x l
    ∙ same_until p h first last x k r l (omega (arith, below))

-- so at each tick of the round
same_within : (p : PlanContents) → IsPlan p → (first last x n : ℕ) → IsRoundUpTo p first last → x < length p.tree.nodes → first ≤ n → n < last →
    runs_at p x n ≡ runs_at p x first
same_within p h first last x n r l low high =
    let e : first + (n - first) ≡ n = omega (arith, low) in
    subst (λ (m : ℕ). runs_at p x m ≡ runs_at p x first) e (same_until p h first last x (n - first) r l (omega (arith, e, high)))

-- ---- some round ends where one begins

-- the last event up to tick n
last_event : (p : PlanContents) (n : ℕ) → (s : ℕ) × (s ≤ n) × (event_at p s ≡ true) × ((m : ℕ) → s < m → m ≤ n → event_at p m ≡ false)
last_event p zero = (0, omega arith, event_first p, λ m low high. absurd (omega (arith, low, high)))
last_event p (suc n) = elim (cases_Bool (event_at p (suc n))) [
  | inl on ↦ (suc n, omega arith, on, λ m low high. absurd (omega (arith, low, high)))
  | inr off ↦
      (let b = last_event p n in
      let l = b.1 in (
        b.0,
        omega (arith, l),
        b.2,
        λ m low high. elim (cases_eq m (suc n)) [
          | inl same ↦ subst (λ (k : ℕ). event_at p k ≡ false) (sym same) off
          | inr other ↦ b.3 m low (omega (arith, high, other))
        ],
      ))
]

-- so a round ends at each tick where one begins, and at the end of all
pub round_before : (p : PlanContents) (n : ℕ) → 0 < n → n ≤ stop_of p → IsRoundStart p n → (s : ℕ) × IsRoundUpTo p s n
round_before p n some early at =
    let b = last_event p (n - 1) in
    let l = b.1 in
    (b.0, record { event = b.2; above = omega (arith, l, some); below = early; quiet = λ m low high. b.3 m low (omega (arith, high)); last = at })

-- ---- packs of level 0

-- a pack of level 0 is on a processor where it runs
held_is : (onto : List (Option ℕ)) (i : ℕ) (on : Bool) → held onto i ≡ bit on → is_held onto i ≡ on
held_is onto i true e = elim (cases_Bool (is_held onto i)) [
  | inl yes' ↦ yes'
  | inr no' ↦ (let z = held-zero onto i no' in let o = bit_at true refl in absurd (omega (arith, z, o, e)))
]
held_is onto i false e = elim (cases_Bool (is_held onto i)) [
  | inl yes' ↦ (let s = held_some onto i yes' in let o = bit_off false refl in absurd (omega (arith, s, o, e)))
  | inr no' ↦ no'
]

held_pack : (p : PlanContents) → IsPlan p → (n i : ℕ) → i < packs_of p → is_held (onto_at (set_boundary p.set.tasks) p.tree n) i ≡ runs_at p
    (first_pack p.tree i) n
held_pack p h n i l =
    held_is (onto_at (set_boundary p.set.tasks) p.tree n) i _ (held_onto (set_boundary p.set.tasks) p.tree h.tree.tree (plan_leaves p h) n i)
    ∙ running_is (set_boundary p.set.tasks) p.tree n i l

-- what a pack shows is one thing
pub pack_once : (p : PlanContents) (n k : ℕ) (o o' : Option Leaf) → IsPackOn p n k o → IsPackOn p n k o' → o ≡ o'
pack_once p n k None None a b = refl
pack_once p n k None (Some l) a b = absurd (both_ways (is_held (onto_at (set_boundary p.set.tasks) p.tree n) k) (a.none refl) (b.held l refl))
pack_once p n k (Some l) None a b = absurd (both_ways (is_held (onto_at (set_boundary p.set.tasks) p.tree n) k) (b.none refl) (a.held l refl))
pack_once p n k (Some l) (Some m) a b = ap (λ (x : Leaf). Some x) (sym (a.leaf l refl) ∙ b.leaf m refl)

-- packs of level 0 are numbered in order
packs_rise : (t : Tree) (k d : ℕ) → k + suc d < length (packs_at t 0) → first_pack t k < first_pack t (k + suc d)
packs_rise t k zero l =
    let e : k + 1 ≡ suc k = omega arith in
    subst (λ (j : ℕ). first_pack t k < first_pack t j) (sym e) (passing_increases (at_level t 0) (length t.nodes) 0 k (omega (arith, l)))
packs_rise t k (suc d) l =
    let e : k + suc (suc d) ≡ suc (k + suc d) = omega arith in
    let a = packs_rise t k d (omega (arith, l)) in
    let b = passing_increases (at_level t 0) (length t.nodes) 0 (k + suc d) (omega (arith, l)) in
    subst (λ (j : ℕ). first_pack t k < first_pack t j) (sym e) (omega (arith, a, b))

packs_above : (t : Tree) (i j : ℕ) → i < j → j < length (packs_at t 0) → first_pack t i < first_pack t j
packs_above t i j l high =
    let e : i + suc (j - i - 1) ≡ j = omega (arith, l) in
    subst (λ (k : ℕ). first_pack t i < first_pack t k) e (packs_rise t i (j - i - 1) (omega (arith, e, high)))

-- so each has one number
first_once : (t : Tree) (i j : ℕ) → i < length (packs_at t 0) → j < length (packs_at t 0) → first_pack t i ≡ first_pack t j → i ≡ j
first_once t i j li lj same = elim (cases_lt i j) [
  | inl l ↦ (let a = packs_above t i j l lj in absurd (omega (arith, a, same)))
  | inr m ↦ elim (cases_lt j i) [
    | inl l ↦ (let a = packs_above t j i l li in absurd (omega (arith, a, same)))
    | inr m' ↦ omega (arith, m, m')
  ]
]

-- and is of level 0
first_low : (t : Tree) (i : ℕ) → i < length (packs_at t 0) → level t (first_pack t i) ≡ 0
first_low t i l = let f = first_from (at_level t 0) (length t.nodes) 0 i l in (pack_at t 0 (first_pack t i) (let b = f.0 in omega (arith, b)) f.1).1

-- ---- one part

module _ (whole : PlanContents) (w : IsPlan whole) (part : PartPlan) (o : IsPlan part.plan) (is : IsPartPlanOf whole part) where
  -- the factor is some number
  some : 0 < part.factor
  some = let s = is.part.some in omega (arith, s)

  -- all rounds end together
  same_stop : stop_of part.plan * part.factor ≡ stop_of whole
  same_stop =
      let h = is.part.horizon in
      let s = is.part.scale in
      let e : whole.set.horizon * whole.tree.scale ≡ part.plan.set.horizon * (part.factor * part.plan.tree.scale) = ap (λ u. u * whole.tree.scale) h
      ∙ ap (λ v. part.plan.set.horizon * v) s in
      omega (arith, e)

  -- an event of the part's plan is one of the whole plan
  own_event : (k : ℕ) → 0 < k * part.factor → event_at part.plan k ≡ true → event_at whole (k * part.factor) ≡ true
  own_event k later on =
      event_there whole part.plan (onto_of part) part.factor w o is.part (k * part.factor) later (mul-mod_left k part.factor)
      (ap (event_at part.plan) (mul-div_cancel k some) ∙ on)

  -- where a round of it begins or all end, so does one of the whole plan, or all end
  pub own_begins : (k : ℕ) → 0 < k * part.factor → IsRoundStart part.plan k → IsRoundStart whole (k * part.factor)
  own_begins k later (inl all) = inl (ap (λ n. n * part.factor) all ∙ same_stop)
  own_begins k later (inr on) = inr (own_event k later on)

  -- it is some ticks long
  pub goes_on : (start end : ℕ) (shows : List (Option Leaf)) → IsPartRound part start end shows → start < end
  goes_on start end shows r =
      let e = r.end_is in
      let b = r.start_is in
      let up : r.first + 1 ≤ r.last = (let a = r.round.above in omega (arith, a)) in
      let m = mul-le-mul_right part.factor up in
      let f = some in
      omega (arith, e, b, m, f)

  -- an event between its ends is none of the part's plan
  pub quiet_own : (start end n : ℕ) (shows : List (Option Leaf)) → IsPartRound part start end shows → start < n → n < end → n % part.factor ≡ 0 →
      event_at part.plan (n / part.factor) ≡ false
  quiet_own start end n shows r low high z =
      let d = div-add-mod' n part.factor in
      let b = r.start_is in
      let e = r.end_is in
      r.round.quiet (n / part.factor)
      (lt_of_mul-lt-mul_right part.factor (omega (arith, d, b, low, z)))
      (lt_of_mul-lt-mul_right part.factor (omega (arith, d, e, high, z)))

  -- at each tick of it the same nodes of the part run
  runs_on : (start end n x : ℕ) (shows : List (Option Leaf)) (r : IsPartRound part start end shows) → start ≤ n → n < end → x < length part.plan.tree.nodes →
      runs_at part.plan x (n / part.factor) ≡ runs_at part.plan x r.first
  runs_on start end n x shows r low high l =
      let b = r.start_is in
      let e = r.end_is in
      same_within part.plan o r.first r.last x (n / part.factor) r.round l
      (le-div r.first n part.factor some (omega (arith, b, low))) (div_below n part.factor r.last some (omega (arith, e, high)))

  -- pack k of level 0 of the part is a pack
  own_is_pack : (k : ℕ) → k < packs_of part.plan → IsPack part.plan.tree (first_pack part.plan.tree k)
  own_is_pack k l = first_is_pack part.plan.tree o.tree.tree k l

  -- so what is told of its packs the whole plan shows at each tick of it
  pub pack_shows : (start end n k : ℕ) (shows : List (Option Leaf)) → IsPartRound part start end shows → start ≤ n → n < end → k < packs_of part.plan →
      IsPackOn whole n (get_or part.packs.items k 0) (get_or shows k None)
  pack_shows start end n k shows r low high l =
      let p = first_pack part.plan.tree k in
      let i = get_or part.packs.items k 0 in
      let pack = own_is_pack k l in
      let at = r.each k l in
      let same : is_held (onto_at (set_boundary whole.set.tasks) whole.tree n) i ≡ runs_at part.plan p r.first =
      held_pack whole w n i (is.packs_within k l)
      ∙ ap (λ x. runs_at whole x n) (is.packs k l)
      ∙ node_there whole part.plan (onto_of part) part.factor w o is.part n p pack.0
      ∙ runs_on start end n p shows r low high pack.0 in
      record {
        none = λ e. same ∙ at.none e;
        held = λ x e. same ∙ at.on x e;
        leaf = λ x e. (
            let (j, lj, run) = member_runs (set_boundary part.plan.set.tasks) part.plan.tree o.tree.tree (plan_leaves part.plan o) p r.first pack (at.on x e) in
            let m = member part.plan.tree p j in
            let stands = o.tree.tree.members_are p j pack lj in
            let a_leaf : IsLeaf part.plan.tree m = (
              stands.0.0,
              leaf_at_level part.plan.tree o.tree.tree m stands.0 (ap (level part.plan.tree) stands.1
                  ∙ first_low part.plan.tree k l),
            ) in
            shown_there whole part.plan (onto_of part) part.factor w o is.part n i p j pack (is.packs k l) lj (runs_on start end n m shows r low high
            stands.0.0 ∙ run)
            ∙ sym (is.leaves m a_leaf) ∙ sym (at.leaf x j e lj run));
      }

  -- a node whose like is pack i of level 0 is a pack
  pack_back : (i y : ℕ) → i < packs_of whole → y < length part.plan.tree.nodes → onto_of part y ≡ first_pack whole.tree i → IsPack part.plan.tree y
  pack_back i y l ly onto = (
    ly,
    elim (cases_Bool (is_pack (kind_at part.plan.tree y))) [
      | inl here ↦ here
      | inr a_member ↦
          (let there = (member_there whole part.plan (onto_of part) part.factor w o is.part y (ly, a_member)).0.1 in
          let pack = first_is_pack whole.tree w.tree.tree i l in
          absurd (both_ways (is_pack (kind_at whole.tree (first_pack whole.tree i))) (sym (ap (λ z. is_pack (kind_at whole.tree z)) onto) ∙ there) pack.1))
    ],
  )

  -- of level 0
  low_back : (i y : ℕ) → i < packs_of whole → IsPack part.plan.tree y → onto_of part y ≡ first_pack whole.tree i → level part.plan.tree y ≡ 0
  low_back i y l pack onto =
      sym (level_there whole part.plan (onto_of part) part.factor w o is.part (level part.plan.tree y) y pack refl) ∙ ap (level whole.tree) onto
      ∙ first_low whole.tree i l

  -- with a number
  pub pack_in : (i y : ℕ) → i < packs_of whole → y < length part.plan.tree.nodes → onto_of part y ≡ first_pack whole.tree i →
      (k : ℕ) × (k < packs_of part.plan) × (get_or part.packs.items k 0 ≡ i)
  pack_in i y l ly onto =
      let pack = pack_back i y l ly onto in
      let (k, lk, at) = found_in (at_level part.plan.tree 0) (length part.plan.tree.nodes) 0 y (omega arith) (omega (arith, ly)) (at_from part.plan.tree 0 y
      pack (low_back i y l pack onto)) in
      let same : onto_of part (first_pack part.plan.tree k) ≡ first_pack whole.tree i = ap (onto_of part) at ∙ onto in
      (k, lk, first_once whole.tree (get_or part.packs.items k 0) i (is.packs_within k lk) l (is.packs k lk ∙ same))

-- ---- the parts that a plan falls into

-- the one at a place of a list
pub some_at : {X : Type 0} (xs : List X) (c : ℕ) → c < length xs → (x : X) × (slice_get xs c ≡ Some x)
some_at [] c l = absurd (omega (arith, l))
some_at (x ∷ xs) zero l = (x, refl)
some_at (x ∷ xs) (suc c) l = some_at xs c (omega (arith, l))

-- the plan of a part, with the whole plan in place of a part that isn't there
abbrev own_at : PlanContents → Option PartRounds → PlanContents
own_at whole None = whole
own_at whole (Some r) = r.part.plan

-- the nodes of the whole whose likes its nodes are
abbrev onto_from : Option PartRounds → ℕ → ℕ
onto_from None x = x
onto_from (Some r) x = onto_of r.part x

-- and its factor
abbrev factor_at : Option PartRounds → ℕ
factor_at None = 1
factor_at (Some r) = r.part.factor

module _ (whole : PlanContents) (w : IsPlan whole) (parts : List PartRounds) (part like : List ℕ) (covered : IsCovered whole parts part like)
    (each : (c : ℕ) (r : PartRounds) → slice_get parts c ≡ Some r → IsPartPlanOf whole r.part) (lawful : (c : ℕ) (r : PartRounds) → slice_get parts c ≡ Some
    r → IsPlan r.part.plan) where
  -- the parts
  abbrev the_parts : Parts
  the_parts = record {
    count = length parts;
    own = λ c. own_at whole (slice_get parts c);
    onto = λ c x. onto_from (slice_get parts c) x;
    factor = λ c. factor_at (slice_get parts c);
    part = λ x. get_or part x 0;
    like = λ x. get_or like x 0;
  }

  are_parts : AreParts whole the_parts
  are_parts = record {
    each = λ c l. (
        let s = some_at parts c l in
        subst (λ (v : Option PartRounds). IsPartPlan whole (own_at whole v) (λ x. onto_from v x) (factor_at v)) (sym s.1) (each c s.0 s.1).part);
    within = λ x l. covered.within x l;
    known = λ x l. (
        let s = some_at parts (get_or part x 0) (covered.within x l) in
        subst (λ (v : Option PartRounds). get_or like x 0 < length (own_at whole v).tree.nodes) (sym s.1) (covered.known x s.0 l s.1));
    likes = λ x l. (
        let s = some_at parts (get_or part x 0) (covered.within x l) in
        subst (λ (v : Option PartRounds). onto_from v (get_or like x 0) ≡ x) (sym s.1) (covered.likes x s.0 l s.1));
  }

  own_lawful : (c : ℕ) → c < length parts → IsPlan (own_at whole (slice_get parts c))
  own_lawful c l = let s = some_at parts c l in subst (λ (v : Option PartRounds). IsPlan (own_at whole v)) (sym s.1) (lawful c s.0 s.1)

  -- a tick that is an event of no part is none of the whole plan
  pub quiet_all : (n : ℕ) → 0 < n → ((c : ℕ) (r : PartRounds) → slice_get parts c ≡ Some r → n % r.part.factor ≡ 0 →
      event_at r.part.plan (n / r.part.factor) ≡ false) → event_at whole n ≡ false
  quiet_all n later none =
      event_of_none whole the_parts.own the_parts.onto the_parts.factor the_parts.count w own_lawful are_parts.each (has_like whole the_parts w own_lawful
      are_parts) n later
      (λ c l. let s = some_at parts c l in
      subst (λ (v : Option PartRounds). n % factor_at v ≡ 0 → event_at (own_at whole v) (n / factor_at v) ≡ false) (sym s.1) (none c s.0 s.1))

  -- each pack of level 0 stands as one of level 0 in some part
  pub pack_covered : (i : ℕ) → i < packs_of whole → (c : ℕ) × (r : PartRounds) × (k : ℕ) × (slice_get parts c ≡ Some r) × (k < packs_of r.part.plan)
      × (get_or r.part.packs.items k 0 ≡ i)
  pack_covered i l =
      let x = first_pack whole.tree i in
      let c = get_or part x 0 in
      let in_tree = (first_is_pack whole.tree w.tree.tree i l).0 in
      let (r, at) = some_at parts c (covered.within x in_tree) in
      let (k, lk, same) = pack_in whole w r.part (lawful c r at) (each c r at) i (get_or like x 0) l (covered.known x r in_tree at)
      (covered.likes x r in_tree at) in
      (c, r, k, at, lk, same)
