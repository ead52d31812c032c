-- A node of a part runs where its like runs in the part's own plan, whose ticks are longer by a factor.
use Rattle.std.proofs.Common.{Bool, List, None, Option, Some, [], ap, ap₂, arith, get_or, inl, inr, length, ltb, map, mod-lt, mul-le-mul_left, not}
use Rattle.std.proofs.Common.{refl, subst, suc, sym, zero, ℕ, ◌%◌, ◌&&◌, ◌*◌, ◌+◌, ◌-◌, ◌/◌, ◌<◌, ◌∙◌, ◌∷◌, ◌≡◌, ◌≤◌}
use Rattle.std.proofs.Math.Nat.{mul-div_cancel_left, mul-mod_right}
use Rattle.std.proofs.lemmas.Bool.{cases_Bool, cases_eq, le-ltb, lt-ltb}
use Rattle.sched_base.specs.declared.candidates.Candidate.{Candidate}
use Rattle.sched_base.specs.Candidates.{earliest, is_at}
use Rattle.sched_base.specs.Counting.{bit, ticks}
use Rattle.sched_base.proofs.CountingLemmas.{bit_le, ticks-le}
use Rattle.sched_base.proofs.EarliestLemmas.{listed, same_earliest}
use Rattle.run_tree.specs.Boundaries.{is_boundary, set_boundary}
use Rattle.run_tree.specs.Plans.{IsPlan, PlanContents}
use Rattle.run_tree.specs.Runs.{is_picked, runs}
use Rattle.run_tree.specs.Tree.{IsMember, IsPack, dual, home, is_pack, kind_at, level, members, place, rate}
use Rattle.run_tree.specs.Windows.{window_begin, window_end}
use Rattle.run_tree.proofs.KindLemmas.{not_pack}
use Rattle.run_tree.proofs.RunLemmas.{ends_at, ends_is, left_at, left_is, on_time, run_member}
use Rattle.sched_laws.proofs.LevelRates.{run_rests, run_root}
use Rattle.partition_laws.specs.Parts.{IsPartPlan}
use Rattle.partition_laws.proofs.LongTicks.{left_scaled, ticks_scaled}
use Rattle.partition_laws.proofs.PartNodes.{dual_there, member_there, members_there, root_there, same_member, plan_leaves, some_ticks, unit_there}

-- candidates of mapped members
listed_map : (ends left g : ℕ → ℕ) (ms : List ℕ) → listed ends left (map g ms) ≡ listed (λ x. ends (g x)) (λ x. left (g x)) ms
listed_map ends left g [] = refl
listed_map ends left g (m ∷ ms) = ap (λ (cs : List Candidate). record { end = ends (g m); remain = left (g m) } ∷ cs) (listed_map ends left g ms)

module _ (whole own : PlanContents) (onto : ℕ → ℕ) (f : ℕ) (w : IsPlan whole) (o : IsPlan own) (is : IsPartPlan whole own onto f) where
  -- whether the node with this like runs at a tick
  abbrev pub its_run : ℕ → ℕ → Bool
  its_run x n = runs (set_boundary whole.set.tasks) whole.tree (onto x) n

  -- whether the like does at a tick of the own plan
  abbrev pub own_run : ℕ → ℕ → Bool
  own_run x n = runs (set_boundary own.set.tasks) own.tree x n

  -- what is left of the member's due
  abbrev pub its_due : ℕ → ℕ → ℕ
  its_due x n = left_at (set_boundary whole.set.tasks) whole.tree n (onto x)

  -- and of its like's
  abbrev pub own_due : ℕ → ℕ → ℕ
  own_due x n = left_at (set_boundary own.set.tasks) own.tree n x

  -- the member's boundaries
  abbrev pub its_test : ℕ → ℕ → Bool
  its_test x = is_boundary (set_boundary whole.set.tasks) whole.tree (onto x)

  -- and its like's
  abbrev pub own_test : ℕ → ℕ → Bool
  own_test x = is_boundary (set_boundary own.set.tasks) own.tree x

  -- their windows end in the same unit
  pub ends_there : (n x : ℕ) → IsMember own.tree x → ends_at (set_boundary whole.set.tasks) whole.tree n (onto x) ≡ ends_at (set_boundary own.set.tasks)
      own.tree (n / f) x
  ends_there n x m =
      ends_is (set_boundary whole.set.tasks) whole.tree (onto x) n
      ∙ ap₂ (λ t v. window_end t v) (same_member whole own onto f w o is x m) (unit_there whole own onto f w o is n)
      ∙ sym (ends_is (set_boundary own.set.tasks) own.tree x (n / f))

  -- where each tick before n is like one of the own plan
  module _ (n : ℕ) (before : (m x : ℕ) → m < n → IsMember own.tree x → its_run x m ≡ own_run x (m / f)) where
    -- a member has `factor` times as much left, less the ticks of this longer tick at which it ran
    pub due_then : (x : ℕ) → IsMember own.tree x → its_due x n ≡ f * own_due x (n / f) - n % f * bit (own_run x (n / f))
    due_then x m =
        let unit = unit_there whole own onto f w o is n in
        let test = same_member whole own onto f w o is x m in
        let u = n / f / own.tree.scale in
        let b = window_begin (own_test x) u in
        let e = window_end (own_test x) u in
        let early = on_time (set_boundary whole.set.tasks) whole.tree w.tree.tree (plan_leaves whole w) (onto x) n (member_there whole own onto f w o is x
        m).0 in
        let early' = on_time (set_boundary own.set.tasks) own.tree o.tree.tree (plan_leaves own o) x (n / f) m in
        let here = left_is (set_boundary whole.set.tasks) whole.tree (onto x) n early in
        let there = left_is (set_boundary own.set.tasks) own.tree x (n / f) early' in
        let begins : window_begin (its_test x) (n / whole.tree.scale) ≡ b = ap₂ (λ t v. window_begin t v) test unit in
        let ends : window_end (its_test x) (n / whole.tree.scale) ≡ e = ap₂ (λ t v. window_end t v) test unit in
        let at : window_begin (its_test x) (n / whole.tree.scale) * whole.tree.scale ≡ f * (b * own.tree.scale) =
        ap₂ (λ v s. v * s) begins is.scale ∙ omega arith in
        let due : rate whole.tree (onto x) * (window_end (its_test x) (n / whole.tree.scale) - window_begin (its_test x) (n / whole.tree.scale)) ≡ f
        * (rate own.tree x * (e - b)) =
        ap₂ (λ v s. rate whole.tree (onto x) * (v - s)) ends begins ∙ ap (λ r. r * (e - b)) (is.rates x m) ∙ omega arith in
        let now = ticks_scaled (its_run x) (own_run x) f (some_ticks whole own onto f w o is) n (λ v l. before v x l m) in
        let first = ticks_whole x b (λ v l. before v x (omega (arith, l, at, early)) m) in
        let first' = ap (ticks (its_run x)) at in
        let order = ticks-le (own_run x) (b * own.tree.scale) (n / f) early' in
        here
        ∙ ap₂ (λ d c. d - c) due (ap₂ (λ c d. c - d) now (first' ∙ first))
        ∙ left_scaled f (rate own.tree x * (e - b)) (ticks (own_run x) (n / f)) (ticks (own_run x) (b * own.tree.scale)) (n % f * bit (own_run x (n / f))) order
        ∙ ap (λ v. f * v - n % f * bit (own_run x (n / f))) (sym there)
      where
        -- at a boundary all longer ticks are whole
        ticks_whole : (x b : ℕ) → ((v : ℕ) → v < f * (b * own.tree.scale) → its_run x v ≡ own_run x (v / f)) →
            ticks (its_run x) (f * (b * own.tree.scale)) ≡ f * ticks (own_run x) (b * own.tree.scale)
        ticks_whole x b same =
            let some = some_ticks whole own onto f w o is in
            let q : f * (b * own.tree.scale) / f ≡ b * own.tree.scale = mul-div_cancel_left (b * own.tree.scale) some in
            let r : f * (b * own.tree.scale) % f ≡ 0 = mul-mod_right f (b * own.tree.scale) in
            let t = ticks_scaled (its_run x) (own_run x) f some (f * (b * own.tree.scale)) same in
            let e = ap₂ (λ u v. f * ticks (own_run x) u + v * bit (own_run x u)) q r in
            omega (arith, t, e)

    -- so it has something left where its like has
    pub some_then : (x : ℕ) → IsMember own.tree x → 0 < own_due x (n / f) → 0 < its_due x n
    some_then x m some =
        let due = due_then x m in
        let short = mod-lt n (some_ticks whole own onto f w o is) in
        let one = mul-le-mul_left (n % f) (bit_le (own_run x (n / f))) in
        let least : f * 1 ≤ f * own_due x (n / f) = mul-le-mul_left f some in
        omega (arith, due, short, one, least)

    -- and nothing where its like has nothing
    pub none_then : (x : ℕ) → IsMember own.tree x → own_due x (n / f) ≡ 0 → its_due x n ≡ 0
    none_then x m none =
        let due = due_then x m in
        let z = ap (λ v. f * v) none in
        omega (arith, due, z)

    -- so each pack's earliest member stands at the same place
    pub earliest_then : (p : ℕ) → IsPack own.tree p →
        earliest (listed (ends_at (set_boundary whole.set.tasks) whole.tree n) (left_at (set_boundary whole.set.tasks) whole.tree n)
        (members whole.tree (onto p)))
        ≡ earliest (listed (ends_at (set_boundary own.set.tasks) own.tree (n / f)) (left_at (set_boundary own.set.tasks) own.tree (n / f)) (members own.tree p))
    earliest_then p i =
        let ends = ends_at (set_boundary whole.set.tasks) whole.tree n in
        let left = left_at (set_boundary whole.set.tasks) whole.tree n in
        ap (λ ms. earliest (listed ends left ms)) (members_there whole own onto f w o is p i)
        ∙ ap (λ cs. earliest cs) (listed_map ends left onto (members own.tree p))
        ∙ same_earliest (λ x. ends (onto x)) (λ x. left (onto x)) (ends_at (set_boundary own.set.tasks) own.tree (n / f))
        (left_at (set_boundary own.set.tasks) own.tree (n / f)) (members own.tree p)
        (λ k l. ends_there n (get_or (members own.tree p) k 0) (o.tree.tree.members_are p k i l).0)
        (λ k l. some_alike (get_or (members own.tree p) k 0) (o.tree.tree.members_are p k i l).0)
      where
        -- the test of something left is the same
        some_alike : (x : ℕ) → IsMember own.tree x → ltb 0 (its_due x n) ≡ ltb 0 (own_due x (n / f))
        some_alike x m = elim (cases_eq (own_due x (n / f)) 0) [
          | inl none ↦
              (let z = none_then x m none in
              le-ltb 0 (its_due x n) (omega (arith, z)) ∙ sym (le-ltb 0 (own_due x (n / f)) (omega (arith, none))))
          | inr ne ↦
              (let some : 0 < own_due x (n / f) = omega (arith, ne) in
              lt-ltb 0 (its_due x n) (some_then x m some) ∙ sym (lt-ltb 0 (own_due x (n / f)) some))
        ]

    -- and a pack picks a member where its like's pack picks the like
    pub picked_then : (x : ℕ) → IsMember own.tree x →
        is_picked whole.tree (left_at (set_boundary whole.set.tasks) whole.tree n) (ends_at (set_boundary whole.set.tasks) whole.tree n) (onto x)
        ≡ is_picked own.tree (left_at (set_boundary own.set.tasks) own.tree (n / f)) (ends_at (set_boundary own.set.tasks) own.tree (n / f)) x
    picked_then x m =
        let (there, at, same) = member_there whole own onto f w o is x m in
        let ends = ends_at (set_boundary whole.set.tasks) whole.tree n in
        let left = left_at (set_boundary whole.set.tasks) whole.tree n in
        ap₂ (λ p k. is_at (earliest (listed ends left (members whole.tree p))) k) at same
        ∙ ap (λ c. is_at c (place own.tree x)) (earliest_then (home own.tree x) (o.tree.tree.homes_are x m).0)

    -- a member runs where its like does, if its pack does
    pub under_then : (x : ℕ) → IsMember own.tree x → its_run (home own.tree x) n ≡ own_run (home own.tree x) (n / f) → its_run x n ≡ own_run x (n / f)
    under_then x m same =
        let (there, at, _) = member_there whole own onto f w o is x m in
        run_member (set_boundary whole.set.tasks) whole.tree w.tree.tree (onto x) n there
        ∙ ap₂ (λ (a b : Bool). a && b) (ap (λ p. runs (set_boundary whole.set.tasks) whole.tree p n) at ∙ same) (picked_then x m)
        ∙ sym (run_member (set_boundary own.set.tasks) own.tree o.tree.tree x (n / f) m)

    -- from the last level downwards, a pack runs where its like does
    pub pack_then : (above p : ℕ) → IsPack own.tree p → level own.tree p + above ≡ own.tree.levels → its_run p n ≡ own_run p (n / f)
    pack_then zero p i at = absurd (let l = o.tree.tree.leveled p i in omega (arith, l, at))
    pack_then (suc above) p i at = go (pack_then above) (dual own.tree p) refl
      where
        go : ((q : ℕ) → IsPack own.tree q → level own.tree q + above ≡ own.tree.levels → its_run q n ≡ own_run q (n / f)) → (c : Option ℕ) →
            dual own.tree p ≡ c → its_run p n ≡ own_run p (n / f)
        go ih None e =
            run_root (set_boundary whole.set.tasks) whole.tree w.tree.tree (plan_leaves whole w) (onto p) n (is.packs p i) (root_there whole own onto f w o
            is p i e)
            ∙ sym (run_root (set_boundary own.set.tasks) own.tree o.tree.tree (plan_leaves own o) p (n / f) i e)
        go ih (Some d) e =
            (let x = o.tree.tree.has_dual p d i e in
            let m : IsMember own.tree d = (x.0.0, not_pack (kind_at own.tree d) x.0.1) in
            let up = (o.tree.tree.duals_are d x.0).2 in
            let same = ap (level own.tree) x.1 in
            run_rests (set_boundary whole.set.tasks) whole.tree w.tree.tree (plan_leaves whole w) (onto p) (onto d) n (is.packs p i)
            (dual_there whole own onto f w o is p d i e)
            ∙ ap not (under_then d m (ih (home own.tree d) (o.tree.tree.homes_are d m).0 (omega (arith, up, same, at))))
            ∙ sym (run_rests (set_boundary own.set.tasks) own.tree o.tree.tree (plan_leaves own o) p d (n / f) i e))

    -- each pack does
    pub packs_then : (p : ℕ) → IsPack own.tree p → its_run p n ≡ own_run p (n / f)
    packs_then p i = pack_then (own.tree.levels - level own.tree p) p i (let l = o.tree.tree.leveled p i in omega (arith, l))

    -- and each member
    pub members_then : (x : ℕ) → IsMember own.tree x → its_run x n ≡ own_run x (n / f)
    members_then x m = under_then x m (packs_then (home own.tree x) (o.tree.tree.homes_are x m).0)

  -- by induction on the tick
  pub runs_before : (n m x : ℕ) → m < n → IsMember own.tree x → its_run x m ≡ own_run x (m / f)
  runs_before zero m x l i = absurd (omega (arith, l))
  runs_before (suc n) m x l i = elim (cases_eq m n) [
    | inr ne ↦ runs_before n m x (omega (arith, l, ne)) i
    | inl same ↦
        (let P : ℕ → Type 0 = λ v. its_run x v ≡ own_run x (v / f) in
        subst P (sym same) (members_then n (λ v y lv j. runs_before n v y lv j) x i))
  ]

  -- a member runs where its like does
  pub runs_there : (n x : ℕ) → IsMember own.tree x → its_run x n ≡ own_run x (n / f)
  runs_there n x m = runs_before (suc n) n x (omega arith) m

  -- and so does each node
  pub node_there : (n x : ℕ) → x < length own.tree.nodes → its_run x n ≡ own_run x (n / f)
  node_there n x l = elim (cases_Bool (is_pack (kind_at own.tree x))) [
    | inl a_pack ↦ packs_then n (λ m y lm i. runs_there m y i) x (l, a_pack)
    | inr a_member ↦ runs_there n x (l, a_member)
  ]

  -- it has something left where its like has
  pub some_there : (n x : ℕ) → IsMember own.tree x → 0 < own_due x (n / f) → 0 < its_due x n
  some_there n x m some = some_then n (λ v y l i. runs_there v y i) x m some

  -- and nothing where its like has nothing
  pub none_there : (n x : ℕ) → IsMember own.tree x → own_due x (n / f) ≡ 0 → its_due x n ≡ 0
  none_there n x m none = none_then n (λ v y l i. runs_there v y i) x m none
