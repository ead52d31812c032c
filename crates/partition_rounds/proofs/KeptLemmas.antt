-- What a processor shows alone: the leaf of the one member of its pack that runs; and rounds that are kept.
use Rattle.std.proofs.Common.{[], ap₂, length-append, mul-le-mul_left, mul-le-mul_right, ◌++◌, ◌^◌, ◌∷◌, Bool, List, None, Option, Some, ap, arith}
use Rattle.std.proofs.Common.{false, get_or, inl, inr, length, nat_lt, refl, subst, sym, true, ℕ, ◌*◌, ◌+◌, ◌<◌, ◌∙◌, ◌≡◌, ◌≤◌}
use Rattle.std.proofs.Math.ListN.{get_or-append}
use Rattle.std.proofs.Math.Seq.{get_or-append_seam}
use Rattle.std.proofs.lemmas.Bool.{both_ways, cases_lt}
use Rattle.sched_base.specs.declared.rows.Leaf.{Leaf}
use Rattle.sched_base.specs.declared.rows.Leaf.TheVariants.{Empty, Idle, Task, Wait}
use Rattle.sched_base.specs.declared.rows.NodeId.{NodeId}
use Rattle.sched_base.specs.declared.rows.Row.{Row}
use Rattle.sched_base.specs.declared.rows.TaskId.{TaskId}
use Rattle.sched_base.specs.declared.sets.Task as declared
use Rattle.sched_base.specs.Sets.{task_at}
use Rattle.run_tree.specs.Boundaries.{set_boundary}
use Rattle.run_tree.specs.Plans.{IsPlan, PlanContents, stop_of}
use Rattle.run_tree.specs.Schedule.{leaf_on, packs_at, shown}
use Rattle.run_tree.specs.Tree.{IsLeaf, IsPack, Tree, is_leaf, kind_at, leaf, leaf_of}
use Rattle.run_tree.specs.TreeOfSet.{HoldsTasks, NumbersIdles, is_real}
use Rattle.run_tree.specs.declared.kinds.Kind.{Kind}
use Rattle.run_tree.specs.declared.kinds.Kind.TheVariants as kind
use Rattle.sched_laws.proofs.LevelRates.{run_root}
use Rattle.sched_laws.proofs.TaskRows.{leaf_in_runs}
use Rattle.event_core.specs.Cores.{runs_at}
use Rattle.event_core.specs.Rounds.{IsRoundUpTo}
use Rattle.own_plans.specs.OwnPlans.{IsOwnPlanOf}
use Rattle.own_plans.specs.declared.owns.OwnPlan.{OwnPlan}
use Rattle.partition_laws.specs.Partitions.{IsPartitioned, first_pack, member_count, member_of}
use Rattle.partition_laws.proofs.FlatTrees.{is_first, leaf_of_first, root_pack}
use Rattle.partition_laws.proofs.OwnPlaces.{holds_own}
use Rattle.partition_laws.proofs.OwnTicks.{plan_leaves}
use Rattle.merged_rounds.proofs.LapLemmas.{last_start, leaf_is, start_kept}
use Rattle.merged_rounds.specs.Laps.{round_start}
use Rattle.round_looks.specs.Looks.{IsNodeOn, leaf_at, shown_for}
use Rattle.partition_rounds.specs.OwnRounds.{AreKeptOf, IsOwnRound, kept_end}
use Rattle.partition_rounds.specs.declared.kept.KeptRounds.{KeptRounds}

-- ---- a leaf is known by what is shown of it

-- the sort of a leaf: one of a task, an idle one, or none
abbrev sort_of : Leaf → ℕ
sort_of (Task id) = 0
sort_of (Wait id) = 0
sort_of (Idle number) = 1
sort_of Empty = 2

-- its task, if it has one
abbrev task_of : TaskId → Leaf → TaskId
task_of other (Task id) = id
task_of other (Wait id) = id
task_of other (Idle number) = other
task_of other Empty = other

-- its number, where it is an idle one
abbrev number_of : Leaf → ℕ
number_of (Task id) = 0
number_of (Wait id) = 0
number_of (Idle number) = number
number_of Empty = 0

module _ (tasks : List declared.Task) (scale start : ℕ) where
  -- what is shown is of the same sort
  sort_shown : (l : Leaf) → sort_of (shown tasks scale start l) ≡ sort_of l
  sort_shown (Task id) = either (nat_lt start ((task_at tasks id.0).offset * scale))
    where
      either : (b : Bool) → sort_of (elim b as (λ x. Leaf) [ true ↦ Wait id | false ↦ Task id ]) ≡ 0
      either true = refl
      either false = refl
  sort_shown (Wait id) = refl
  sort_shown (Idle number) = refl
  sort_shown Empty = refl

  -- and of the same task
  task_shown : (other id : TaskId) → task_of other (shown tasks scale start (Task id)) ≡ id
  task_shown other id = either (nat_lt start ((task_at tasks id.0).offset * scale))
    where
      either : (b : Bool) → task_of other (elim b as (λ x. Leaf) [ true ↦ Wait id | false ↦ Task id ]) ≡ id
      either true = refl
      either false = refl

  -- leaves of trees that are shown alike are alike
  pub same_leaf : (l m : Leaf) → is_real l ≡ true → is_real m ≡ true → shown tasks scale start l ≡ shown tasks scale start m → l ≡ m
  same_leaf (Task id) (Task other) a b e = ap Task (sym (task_shown id id) ∙ ap (task_of id) e ∙ task_shown id other)
  same_leaf (Task id) (Idle number) a b e = absurd (let s = sym (sort_shown (Task id)) ∙ ap sort_of e in omega (arith, s))
  same_leaf (Idle number) (Task id) a b e = absurd (let s = ap sort_of e ∙ sort_shown (Task id) in omega (arith, s))
  same_leaf (Idle number) (Idle other) a b e = ap Idle (ap number_of e)
  same_leaf (Wait id) m a b e = absurd (both_ways false refl a)
  same_leaf Empty m a b e = absurd (both_ways false refl a)
  same_leaf (Task id) (Wait other) a b e = absurd (both_ways false refl b)
  same_leaf (Task id) Empty a b e = absurd (both_ways false refl b)
  same_leaf (Idle number) (Wait other) a b e = absurd (both_ways false refl b)
  same_leaf (Idle number) Empty a b e = absurd (both_ways false refl b)

  -- something is shown of each
  pub some_shown : (l : Leaf) → is_real l ≡ true → shown tasks scale start l ≡ Empty → ⊥
  some_shown (Task id) a e = let s = sym (sort_shown (Task id)) ∙ ap sort_of e in omega (arith, s)
  some_shown (Wait id) a e = both_ways false refl a
  some_shown (Idle number) a e = let s = ap sort_of e in omega (arith, s)
  some_shown Empty a e = both_ways false refl a

-- a node of which something is shown is a leaf
leaf_here : (tasks : List declared.Task) (scale start : ℕ) (k : Kind) → (shown tasks scale start (leaf_of k) ≡ Empty → ⊥) → is_leaf k ≡ true
leaf_here tasks scale start (kind.Leaf l) some = refl
leaf_here tasks scale start (kind.Pack level) some = absurd (some refl)
leaf_here tasks scale start (kind.Dual primal) some = absurd (some refl)

-- leaves of a tree that are alike are one
one_leaf : (tasks : List declared.Task) (t : Tree) → HoldsTasks tasks t → NumbersIdles t → (x y : ℕ) → IsLeaf t x → IsLeaf t y → (l : Leaf) → is_real l ≡ true →
    leaf t x ≡ l → leaf t y ≡ l → x ≡ y
one_leaf tasks t holds idles x y i j (Task id) a e f = holds.once x y id i j e f
one_leaf tasks t holds idles x y i j (Wait id) a e f = absurd (both_ways false refl a)
one_leaf tasks t holds idles x y i j (Idle number) a e f = idles.once x y number i j e f
one_leaf tasks t holds idles x y i j Empty a e f = absurd (both_ways false refl a)

-- ---- a plan of one processor

module _ (own : PlanContents) (o : IsPlan own) (roots : IsPartitioned own.tree) (one : length (packs_at own.tree 0) ≡ 1) where
  -- this member runs from a tick on, and its leaf is what is shown
  pub record RunsAlone (start place : ℕ) : Type 0 where
    pub within : place < member_count own.tree 0
    pub runs : runs_at own (member_of own.tree 0 place) start ≡ true
    pub shows : (end : ℕ) (none : Row) → leaf_at own start end 0 none ≡ shown_for own (member_of own.tree 0 place) start

  -- its pack
  pub its_pack : IsPack own.tree (first_pack own.tree 0)
  its_pack = is_first own.tree o.tree.tree roots 0 (omega (arith, one))

  -- one does at each tick
  pub runs_alone : (start : ℕ) → (place : ℕ) × RunsAlone start place
  runs_alone start =
      let b = set_boundary own.set.tasks in
      let t = own.tree in
      let p = first_pack t 0 in
      let on = run_root b t o.tree.tree (plan_leaves own o) p start its_pack (root_pack t o.tree.tree roots p its_pack) in
      let some = o.sized.some_processors in
      let (k, l, run, shows) = leaf_in_runs b t o.tree.tree (plan_leaves own o) p start its_pack on in (
        k,
        record {
          within = l;
          runs = run;
          shows = λ end none. leaf_is own start end 0 none (omega (arith, some))
              ∙ ap (λ q. shown own.set.tasks t.scale start (leaf_on b t start q)) (holds_own own o roots start 0 (omega (arith, some)))
              ∙ ap (shown own.set.tasks t.scale start) shows;
        },
      )

  -- its leaf is one of a tree
  pub real_alone : (place : ℕ) → place < member_count own.tree 0 → is_real (leaf own.tree (member_of own.tree 0 place)) ≡ true
  real_alone place l = o.tree.tasks.real (member_of own.tree 0 place) (leaf_of_first own.tree o.tree.tree roots 0 place (omega (arith, one)) l)

  -- so it is the node of which that is shown
  pub node_alone : (start place n : ℕ) → place < member_count own.tree 0 → n < length own.tree.nodes →
      shown_for own n start ≡ shown_for own (member_of own.tree 0 place) start → n ≡ member_of own.tree 0 place
  node_alone start place n l w e =
      let t = own.tree in
      let x = member_of t 0 place in
      let real = real_alone place l in
      let some = some_shown own.set.tasks t.scale start (leaf t x) real in
      let i : IsLeaf t n = (w, leaf_here own.set.tasks t.scale start (kind_at t n) (λ none. some (sym e ∙ none))) in
      let j = leaf_of_first t o.tree.tree roots 0 place (omega (arith, one)) l in
      let same = same_leaf own.set.tasks t.scale start (leaf t n) (leaf t x) (o.tree.tasks.real n i) real e in
      one_leaf own.set.tasks t o.tree.tasks o.tree.idles n x i j (leaf t x) real same refl

  -- something is shown
  pub shown_alone : (start place : ℕ) → place < member_count own.tree 0 → shown_for own (member_of own.tree 0 place) start ≡ Empty → ⊥
  shown_alone start place l e = some_shown own.set.tasks own.tree.scale start (leaf own.tree (member_of own.tree 0 place)) (real_alone place l) e

-- the node of which a round of the own plan tells runs in it, so what the whole plan shows of it is known
pub own_round : (own : OwnPlan) → IsPlan own.plan → IsPartitioned own.plan.tree → length (packs_at own.plan.tree 0) ≡ 1 → (start end : ℕ) →
    IsRoundUpTo own.plan start end →
    (node : Option NodeId) (shows : Leaf) → IsNodeOn own.plan start end 0 node →
    ((n : NodeId) → node ≡ Some n → shows ≡ get_or own.leaves.items n.0 Empty) →
    IsOwnRound own (start * own.factor) (end * own.factor) shows
own_round own o roots one start end round None shows on told =
    let none : Row = record { processor = 0; start = 0; end = 0; leaf = Empty } in
    let (k, alone) = runs_alone own.plan o roots one start in
    absurd (shown_alone own.plan o roots one start k alone.within (sym (alone.shows end none) ∙ on.none none refl))
own_round own o roots one start end round (Some n) shows on told =
    let none : Row = record { processor = 0; start = 0; end = 0; leaf = Empty } in
    let (k, alone) = runs_alone own.plan o roots one start in
    let same = node_alone own.plan o roots one start k n.0 alone.within (on.within n refl) (sym (on.some n none refl) ∙ alone.shows end none) in
    record {
      first = start;
      last = end;
      round = round;
      start_is = refl;
      end_is = refl;
      place = k;
      within = alone.within;
      runs = alone.runs;
      shown = told n refl ∙ ap (λ i. get_or own.leaves.items i Empty) same;
    }

-- ---- rounds that are kept

-- the rounds of an own plan end early enough to be counted in ticks of the whole plan
pub tick_fits : (whole : PlanContents) → IsPlan whole → (own : OwnPlan) (q : ℕ) → IsOwnPlanOf whole q own → (tick : ℕ) → tick ≤ stop_of own.plan →
    tick * own.factor ≤ 2 ^ 126
tick_fits whole w own q is tick l =
    let f = own.factor in
    let scale = is.own.scale in
    let same : whole.set.horizon * whole.tree.scale ≡ own.plan.set.horizon * (f * own.plan.tree.scale) = ap₂ (λ h s. h * s) is.own.horizon scale in
    let most = mul-le-mul_right f l in
    let horizon = w.lawful.horizon_fits in
    let scale_fits = w.sized.scale_fits in
    let wide = mul-le-mul_left whole.set.horizon scale_fits in
    let few : whole.set.horizon ≤ 2 ^ 32 = omega (arith, horizon) in
    let high : whole.set.horizon * 2 ^ 94 ≤ 2 ^ 32 * 2 ^ 94 = mul-le-mul_right (2 ^ 94) few in
    omega (arith, same, most, wide, high)

-- a round has ticks
pub round_above : (own : OwnPlan) → 1 ≤ own.factor → (start end : ℕ) (leaf : Leaf) → IsOwnRound own (start * own.factor) (end * own.factor) leaf → start < end
round_above own some start end leaf round = elim (cases_lt start end) [
  | inl above ↦ above
  | inr below ↦
      (let first = round.start_is in
      let last = round.end_is in
      let more : round.first + 1 ≤ round.last = (let up = round.round.above in omega (arith, up)) in
      let long = mul-le-mul_right own.factor more in
      let short : end * own.factor ≤ start * own.factor = mul-le-mul_right own.factor below in
      absurd (omega (arith, first, last, long, short, some)))
]

-- no rounds are kept
pub none_kept : (own : OwnPlan) (kept : KeptRounds) → kept.ends.items ≡ [] → kept.shows.items ≡ [] → AreKeptOf own kept
none_kept own kept ends shows =
    let none = ap length ends in
    let none_shown = ap length shows in
    record {
      long = omega (arith, none, none_shown);
      each = λ i l. absurd (omega (arith, l, none));
    }

module _ (own : OwnPlan) (kept next : KeptRounds) (start end : ℕ) (leaf : Leaf) (so_far : AreKeptOf own kept) (here : kept_end kept ≡ start)
    (round : IsOwnRound own start end leaf)
    (ends_are : next.ends.items ≡ kept.ends.items ++ end ∷ []) (shows_are : next.shows.items ≡ kept.shows.items ++ leaf ∷ []) where
  -- the ends of all rounds, and what is shown in each
  abbrev more_ends : List ℕ
  more_ends = kept.ends.items ++ end ∷ []

  abbrev more_shows : List Leaf
  more_shows = kept.shows.items ++ leaf ∷ []

  -- each is a round of the own plan
  round_on : (i : ℕ) → i < length kept.ends.items + 1 → IsOwnRound own (round_start 0 more_ends i) (get_or more_ends i 0) (get_or more_shows i Empty)
  round_on i l =
      let ends = kept.ends.items in
      let shows = kept.shows.items in
      elim (cases_lt i (length ends)) [
        | inl low ↦
            (let long = so_far.long in
            subst (λ (s : ℕ). IsOwnRound own s (get_or more_ends i 0) (get_or more_shows i Empty)) (sym (start_kept 0 end i ends (omega (arith, low))))
            (subst (λ (e : ℕ). IsOwnRound own (round_start 0 ends i) e (get_or more_shows i Empty)) (sym (get_or-append ends (end ∷ []) 0 i low))
            (subst (λ (x : Leaf). IsOwnRound own (round_start 0 ends i) (get_or ends i 0) x) (sym (get_or-append shows (leaf ∷ []) Empty i
            (omega (arith, low, long)))) (so_far.each i low))))
        | inr high ↦
            (let e : length ends ≡ i = omega (arith, l, high) in
            let at_start : round_start 0 more_ends (length ends) ≡ start = start_kept 0 end (length ends) ends (omega arith) ∙ here in
            let at_end : get_or more_ends (length ends) 0 ≡ end = get_or-append_seam ends end [] 0 in
            let at_leaf : get_or more_shows (length ends) Empty ≡ leaf = ap (λ k. get_or more_shows k Empty) (sym so_far.long) ∙ get_or-append_seam shows
            leaf [] Empty in
            subst (λ (k : ℕ). IsOwnRound own (round_start 0 more_ends k) (get_or more_ends k 0) (get_or more_shows k Empty)) e
            (subst (λ (s : ℕ). IsOwnRound own s (get_or more_ends (length ends) 0) (get_or more_shows (length ends) Empty)) (sym at_start)
            (subst (λ (n : ℕ). IsOwnRound own start n (get_or more_shows (length ends) Empty)) (sym at_end)
            (subst (λ (x : Leaf). IsOwnRound own start end x) (sym at_leaf) round))))
      ]

  -- one more is kept
  pub one_more : AreKeptOf own next
  one_more =
      let long = so_far.long in
      let more = ap length ends_are ∙ length-append kept.ends.items (end ∷ []) in
      let shown = ap length shows_are ∙ length-append kept.shows.items (leaf ∷ []) in
      record {
        long = omega (arith, long, more, shown);
        each = λ i l.
            subst (λ (es : List ℕ). IsOwnRound own (round_start 0 es i) (get_or es i 0) (get_or next.shows.items i Empty)) (sym ends_are)
            (subst (λ (xs : List Leaf). IsOwnRound own (round_start 0 more_ends i) (get_or more_ends i 0) (get_or xs i Empty)) (sym shows_are)
            (round_on i (omega (arith, l, more))));
      }

  -- and ends where it does
  pub more_end : kept_end next ≡ end
  more_end = ap (λ (es : List ℕ). round_start 0 es (length es)) ends_are ∙ last_start 0 end kept.ends.items
