-- What packs of level 0 show by the leaf of the member that runs; and rounds of a part that are kept.
use Rattle.std.proofs.Common.{[], ap₂, length-append, mul-le-mul_left, mul-le-mul_right, ◌++◌, ◌^◌, ◌∷◌, Bool, List, None, Option, Some, ap, arith}
use Rattle.std.proofs.Common.{false, get_or, inl, inr, length, nat_lt, refl, set, subst, sym, true, ℕ, ◌*◌, ◌+◌, ◌<◌, ◌∙◌, ◌≡◌, ◌≤◌}
use Rattle.std.proofs.Math.ListN.{get_or-append}
use Rattle.std.proofs.Math.Seq.{get_or-append_seam}
use Rattle.std.proofs.lemmas.Bool.{both_ways, cases_eq, cases_lt}
use Rattle.std.proofs.lemmas.List.{get_or-append-add, get_or-map, get_or-set_other, get_or-set_same}
use Rattle.sched_base.specs.declared.rows.Leaf.{Leaf}
use Rattle.sched_base.specs.declared.rows.Leaf.TheVariants.{Empty, Idle, Task, Wait}
use Rattle.sched_base.specs.declared.rows.NodeId.{NodeId}
use Rattle.sched_base.specs.declared.rows.Row.{Row}
use Rattle.sched_base.specs.declared.rows.TaskId.{TaskId}
use Rattle.sched_base.specs.declared.sets.Task as declared
use Rattle.sched_base.specs.Places.{is_held}
use Rattle.sched_base.proofs.ListLemmas.{first_from}
use Rattle.sched_base.specs.Sets.{task_at}
use Rattle.cpu_assign.specs.Noted.{IsNoted}
use Rattle.run_tree.specs.Boundaries.{set_boundary}
use Rattle.run_tree.specs.Plans.{IsPlan, PlanContents, stop_of}
use Rattle.run_tree.specs.Runs.{runs}
use Rattle.run_tree.specs.Schedule.{leaf_on, packs_at, shown}
use Rattle.run_tree.specs.Tree.{IsLeaf, IsPack, Tree, IsTree, at_level, is_leaf, kind_at, leaf, leaf_of, level, members}
use Rattle.run_tree.specs.TreeOfSet.{HoldsTasks, NumbersIdles, is_real}
use Rattle.run_tree.specs.declared.kinds.Kind.{Kind}
use Rattle.run_tree.specs.declared.kinds.Kind.TheVariants as kind
use Rattle.run_tree.proofs.ScheduleLemmas.{length-places}
use Rattle.run_tree.proofs.TreeLemmas.{first_is_pack, leaf_at_level, pack_at}
use Rattle.sched_laws.proofs.Packs.{server_serves}
use Rattle.sched_laws.proofs.TaskRows.{leaf_in_runs}
use Rattle.event_core.specs.Cores.{places_of, runs_at}
use Rattle.event_core.specs.Rounds.{IsRoundUpTo}
use Rattle.part_plans.specs.PartPlans.{IsPartPlanOf}
use Rattle.part_plans.specs.declared.parts.PartPlan.{PartPlan}
use Rattle.partition_laws.proofs.PartNodes.{plan_leaves}
use Rattle.merged_rounds.proofs.LapLemmas.{last_start, leaf_is, start_kept}
use Rattle.merged_rounds.proofs.ReplayLemmas.{held_runs, onto_end}
use Rattle.merged_rounds.proofs.ReplaySteps.{held_by, held_there}
use Rattle.merged_rounds.specs.Laps.{round_start}
use Rattle.merged_rounds.specs.Replays.{packs_of}
use Rattle.round_looks.specs.Looks.{IsNodeOn, leaf_at, shown_for}
use Rattle.part_rounds.specs.PartRounds.{AreKeptOf, IsKeptRound, IsPartRound, IsShownAt, kept_at, kept_end, own_member, own_pack}
use Rattle.part_rounds.specs.declared.kept.KeptRounds.{KeptRounds}

-- ---- a leaf is known by what is shown of it

-- the sort of a leaf: one of a task, an idle one, or none
abbrev sort_of : Leaf → ℕ
sort_of (Task id) = 0
sort_of (Wait id) = 0
sort_of (Idle number) = 1
sort_of Empty = 2

-- its task, if it has one
abbrev task_of : TaskId → Leaf → TaskId
task_of other (Task id) = id
task_of other (Wait id) = id
task_of other (Idle number) = other
task_of other Empty = other

-- its number, where it is an idle one
abbrev number_of : Leaf → ℕ
number_of (Task id) = 0
number_of (Wait id) = 0
number_of (Idle number) = number
number_of Empty = 0

module _ (tasks : List declared.Task) (scale start : ℕ) where
  -- what is shown is of the same sort
  sort_shown : (l : Leaf) → sort_of (shown tasks scale start l) ≡ sort_of l
  sort_shown (Task id) = either (nat_lt start ((task_at tasks id.0).offset * scale))
    where
      either : (b : Bool) → sort_of (elim b as (λ x. Leaf) [ true ↦ Wait id | false ↦ Task id ]) ≡ 0
      either true = refl
      either false = refl
  sort_shown (Wait id) = refl
  sort_shown (Idle number) = refl
  sort_shown Empty = refl

  -- and of the same task
  task_shown : (other id : TaskId) → task_of other (shown tasks scale start (Task id)) ≡ id
  task_shown other id = either (nat_lt start ((task_at tasks id.0).offset * scale))
    where
      either : (b : Bool) → task_of other (elim b as (λ x. Leaf) [ true ↦ Wait id | false ↦ Task id ]) ≡ id
      either true = refl
      either false = refl

  -- leaves of trees that are shown alike are alike
  pub same_leaf : (l m : Leaf) → is_real l ≡ true → is_real m ≡ true → shown tasks scale start l ≡ shown tasks scale start m → l ≡ m
  same_leaf (Task id) (Task other) a b e = ap Task (sym (task_shown id id) ∙ ap (task_of id) e ∙ task_shown id other)
  same_leaf (Task id) (Idle number) a b e = absurd (let s = sym (sort_shown (Task id)) ∙ ap sort_of e in omega (arith, s))
  same_leaf (Idle number) (Task id) a b e = absurd (let s = ap sort_of e ∙ sort_shown (Task id) in omega (arith, s))
  same_leaf (Idle number) (Idle other) a b e = ap Idle (ap number_of e)
  same_leaf (Wait id) m a b e = absurd (both_ways false refl a)
  same_leaf Empty m a b e = absurd (both_ways false refl a)
  same_leaf (Task id) (Wait other) a b e = absurd (both_ways false refl b)
  same_leaf (Task id) Empty a b e = absurd (both_ways false refl b)
  same_leaf (Idle number) (Wait other) a b e = absurd (both_ways false refl b)
  same_leaf (Idle number) Empty a b e = absurd (both_ways false refl b)

  -- something is shown of each
  pub some_shown : (l : Leaf) → is_real l ≡ true → shown tasks scale start l ≡ Empty → ⊥
  some_shown (Task id) a e = let s = sym (sort_shown (Task id)) ∙ ap sort_of e in omega (arith, s)
  some_shown (Wait id) a e = both_ways false refl a
  some_shown (Idle number) a e = let s = ap sort_of e in omega (arith, s)
  some_shown Empty a e = both_ways false refl a

-- a node of which something is shown is a leaf
leaf_here : (tasks : List declared.Task) (scale start : ℕ) (k : Kind) → (shown tasks scale start (leaf_of k) ≡ Empty → ⊥) → is_leaf k ≡ true
leaf_here tasks scale start (kind.Leaf l) some = refl
leaf_here tasks scale start (kind.Pack level) some = absurd (some refl)
leaf_here tasks scale start (kind.Dual primal) some = absurd (some refl)

-- leaves of a tree that are alike are one
one_leaf : (tasks : List declared.Task) (t : Tree) → HoldsTasks tasks t → NumbersIdles t → (x y : ℕ) → IsLeaf t x → IsLeaf t y → (l : Leaf) → is_real l ≡ true →
    leaf t x ≡ l → leaf t y ≡ l → x ≡ y
one_leaf tasks t holds idles x y i j (Task id) a e f = holds.once x y id i j e f
one_leaf tasks t holds idles x y i j (Wait id) a e f = absurd (both_ways false refl a)
one_leaf tasks t holds idles x y i j (Idle number) a e f = idles.once x y number i j e f
one_leaf tasks t holds idles x y i j Empty a e f = absurd (both_ways false refl a)

-- ---- what is shown of a pack in the round just gone

-- the packs of level 0 are of that level
level_of_first : (t : Tree) (h : IsTree t) (i : ℕ) → i < length (packs_at t 0) → level t (get_or (packs_at t 0) i 0) ≡ 0
level_of_first t h i l = let r = first_from (at_level t 0) (length t.nodes) 0 i l in (pack_at t 0 (get_or (packs_at t 0) i 0) (let b = r.0 in
    omega (arith, b)) r.1).1

module _ (part : PartPlan) (h : IsPlan part.plan) (start end k : ℕ) (round : IsRoundUpTo part.plan start end) (in_level : k < packs_of part.plan) where
  -- the processor that holds each pack at the end of the round
  abbrev holders : List (Option ℕ)
  holders = (places_of part.plan end).onto

  its_pack : IsPack part.plan.tree (own_pack part k)
  its_pack = first_is_pack part.plan.tree h.tree.tree k in_level

  -- a pack is held there where it runs
  held_is : is_held holders k ≡ runs_at part.plan (own_pack part k) start
  held_is =
      ap (λ (os : List (Option ℕ)). is_held os k) (onto_end part.plan h start end round)
      ∙ held_runs part.plan h start k
      ∙ get_or-map (λ p. runs (set_boundary part.plan.set.tasks) part.plan.tree p start) (packs_at part.plan.tree 0) k 0 false in_level

  -- of one that isn't nothing is told
  pub rests_here : is_held holders k ≡ false → (o : Option Leaf) → o ≡ None → IsShownAt part start k o
  rests_here off o is = record {
    none = λ e. sym held_is ∙ off;
    on = λ l e. absurd (let e' : None ≡ Some l = sym is ∙ e in cc);
    leaf = λ l j e. absurd (let e' : None ≡ Some l = sym is ∙ e in cc);
  }

  -- its members are leaves
  leaf_here_is : (j : ℕ) → j < length (members part.plan.tree (own_pack part k)) → IsLeaf part.plan.tree (own_member part k j)
  leaf_here_is j l =
      let t = part.plan.tree in
      let m = h.tree.tree.members_are (own_pack part k) j its_pack l in
      let low = ap (λ p. level t p) m.1 ∙ level_of_first t h.tree.tree k in_level in
      (m.0.0, leaf_at_level t h.tree.tree (own_member part k j) m.0 low)

  module _ (q : ℕ) (at : get_or holders q None ≡ Some k) (within : q < part.plan.tree.processors) where
    held_here : is_held holders k ≡ true
    held_here = let long = length-places (set_boundary part.plan.set.tasks) part.plan.tree end in held_there holders q k (omega (arith, within, long)) at

    runs_here : runs_at part.plan (own_pack part k) start ≡ true
    runs_here = sym held_is ∙ held_here

    -- the processor shows the leaf of the pack
    shows_here : (none : Row) → leaf_at part.plan start end q none ≡ shown part.plan.set.tasks part.plan.tree.scale start
        (leaf_on (set_boundary part.plan.set.tasks) part.plan.tree start (Some k))
    shows_here none =
        leaf_is part.plan start end q none within
        ∙ ap (λ (o : Option ℕ). shown part.plan.set.tasks part.plan.tree.scale start (leaf_on (set_boundary part.plan.set.tasks) part.plan.tree start o))
        (ap (λ (os : List (Option ℕ)). get_or os q None) (sym (onto_end part.plan h start end round)) ∙ at)

    -- so the node of which it is told is the member that runs
    node_is : (n j : ℕ) → n < length part.plan.tree.nodes → ((none : Row) → leaf_at part.plan start end q none ≡ shown_for part.plan n start) →
        j < length (members part.plan.tree (own_pack part k)) → runs_at part.plan (own_member part k j) start ≡ true → n ≡ own_member part k j
    node_is n j w e l on =
        let b = set_boundary part.plan.set.tasks in
        let t = part.plan.tree in
        let tasks = part.plan.set.tasks in
        let law = server_serves b t h.tree.tree (plan_leaves part.plan h) (own_pack part k) its_pack in
        let (i, li, run, same) = leaf_in_runs b t h.tree.tree (plan_leaves part.plan h) (own_pack part k) start its_pack runs_here in
        let none : Row = record { processor = 0; start = 0; end = 0; leaf = Empty } in
        let alone : j ≡ i = law.alone j i start l li on run in
        let x = own_member part k j in
        let here = leaf_here_is j l in
        let real = h.tree.tasks.real x here in
        let shows : shown tasks t.scale start (leaf t n) ≡ shown tasks t.scale start (leaf t x) =
        sym (e none) ∙ shows_here none ∙ ap (shown tasks t.scale start) (same ∙ ap (λ m. leaf t (own_member part k m)) (sym alone)) in
        let some = some_shown tasks t.scale start (leaf t x) real in
        let there : IsLeaf t n = (w, leaf_here tasks t.scale start (kind_at t n) (λ nothing. some (sym shows ∙ nothing))) in
        one_leaf tasks t h.tree.tasks h.tree.idles n x there here (leaf t x) real (same_leaf tasks t.scale start (leaf t n) (leaf t x)
        (h.tree.tasks.real n there) real shows) refl

    -- there is one
    some_node : ((none : Row) → leaf_at part.plan start end q none ≡ Empty) → ⊥
    some_node e =
        let b = set_boundary part.plan.set.tasks in
        let t = part.plan.tree in
        let tasks = part.plan.set.tasks in
        let (i, li, run, same) = leaf_in_runs b t h.tree.tree (plan_leaves part.plan h) (own_pack part k) start its_pack runs_here in
        let none : Row = record { processor = 0; start = 0; end = 0; leaf = Empty } in
        some_shown tasks t.scale start (leaf t (own_member part k i)) (h.tree.tasks.real (own_member part k i) (leaf_here_is i li))
        (sym (sym (e none) ∙ shows_here none ∙ ap (shown tasks t.scale start) same))

    -- and what the whole plan shows of it is told
    pub node_shown : (node : Option NodeId) (o : Option Leaf) → IsNodeOn part.plan start end q node →
        ((n : NodeId) → node ≡ Some n → o ≡ Some (get_or part.leaves.items n.0 Empty)) → IsShownAt part start k o
    node_shown None o is told = absurd (some_node (λ none. is.none none refl))
    node_shown (Some n) o is told = record {
      none = λ e. absurd (let e' : None ≡ Some (get_or part.leaves.items n.0 Empty) = sym e ∙ told n refl in cc);
      on = λ l e. runs_here;
      leaf = λ l j e lj on.
          let e' : Some l ≡ Some (get_or part.leaves.items n.0 Empty) = sym e ∙ told n refl in
          let same : l ≡ get_or part.leaves.items n.0 Empty = cc in
          same ∙ ap (λ x. get_or part.leaves.items x Empty) (node_is n.0 j (is.within n refl) (λ none. is.some n none refl) lj on);
    }

  -- a pack that is held is noted
  pub noted_here : (onto last : List (Option ℕ)) → onto ≡ holders → IsNoted onto last → is_held onto k ≡ true → (o : Option ℕ) → o ≡ get_or last k None →
      (q : ℕ) × (o ≡ Some q) × (get_or holders q None ≡ Some k) × (q < part.plan.tree.processors)
  noted_here onto last same noted on o is =
      let (q, l, at) = held_by onto k on in
      let long = ap (λ (os : List (Option ℕ)). length os) same ∙ length-places (set_boundary part.plan.set.tasks) part.plan.tree end in
      (q, is ∙ (noted.noted q k at).1, ap (λ (os : List (Option ℕ)). get_or os q None) (sym same) ∙ at, omega (arith, l, long))

-- one more pack is told of
pub one_more_shown : (part : PartPlan) (n k : ℕ) (shows : List (Option Leaf)) (o : Option Leaf) → k < length shows →
    ((j : ℕ) → j < k → IsShownAt part n j (get_or shows j None)) → IsShownAt part n k o →
    (j : ℕ) → j < k + 1 → IsShownAt part n j (get_or (set shows k o) j None)
one_more_shown part n k shows o within before here j l = elim (cases_eq j k) [
  | inl e ↦
      subst (λ (i : ℕ). IsShownAt part n i (get_or (set shows k o) i None)) (sym e)
      (subst (λ (x : Option Leaf). IsShownAt part n k x) (sym (get_or-set_same shows k o None within)) here)
  | inr ne ↦ subst (λ (x : Option Leaf). IsShownAt part n j x) (sym (get_or-set_other shows k j o None ne)) (before j (omega (arith, l, ne)))
]

-- ---- rounds that are kept

-- the rounds of a part end early enough to be counted in ticks of the whole plan
pub tick_fits : (whole : PlanContents) → IsPlan whole → (part : PartPlan) → IsPartPlanOf whole part → (tick : ℕ) → tick ≤ stop_of part.plan →
    tick * part.factor ≤ 2 ^ 126
tick_fits whole w part is tick l =
    let f = part.factor in
    let scale = is.part.scale in
    let same : whole.set.horizon * whole.tree.scale ≡ part.plan.set.horizon * (f * part.plan.tree.scale) = ap₂ (λ h s. h * s) is.part.horizon scale in
    let most = mul-le-mul_right f l in
    let horizon = w.lawful.horizon_fits in
    let scale_fits = w.sized.scale_fits in
    let wide = mul-le-mul_left whole.set.horizon scale_fits in
    let few : whole.set.horizon ≤ 2 ^ 32 = omega (arith, horizon) in
    let high : whole.set.horizon * 2 ^ 94 ≤ 2 ^ 32 * 2 ^ 94 = mul-le-mul_right (2 ^ 94) few in
    omega (arith, same, most, wide, high)

-- a round has ticks
pub round_above : (part : PartPlan) → 1 ≤ part.factor → (start end : ℕ) (shows : List (Option Leaf)) → IsPartRound part (start * part.factor)
    (end * part.factor) shows → start < end
round_above part some start end shows round = elim (cases_lt start end) [
  | inl above ↦ above
  | inr below ↦
      (let first = round.start_is in
      let last = round.end_is in
      let more : round.first + 1 ≤ round.last = (let up = round.round.above in omega (arith, up)) in
      let long = mul-le-mul_right part.factor more in
      let short : end * part.factor ≤ start * part.factor = mul-le-mul_right part.factor below in
      absurd (omega (arith, first, last, long, short, some)))
]

-- no rounds are kept
pub none_kept : (part : PartPlan) (kept : KeptRounds) → kept.ends.items ≡ [] → kept.shows.items ≡ [] → AreKeptOf part kept
none_kept part kept ends shows =
    let none = ap (λ (es : List ℕ). length es) ends in
    let none_shown = ap (λ (xs : List (Option Leaf)). length xs) shows in
    let nothing : 0 ≡ 0 * packs_of part.plan = omega arith in
    record {
      long = none_shown ∙ nothing ∙ sym (ap (λ n. n * packs_of part.plan) none);
      each = λ i l. absurd (omega (arith, l, none));
    }

-- what is kept of a round stands before what is kept of all rounds ends
pub kept_within : (i k many packs : ℕ) → i < many → k < packs → i * packs + k < many * packs
kept_within i k many packs l m = let rows : (i + 1) * packs ≤ many * packs = mul-le-mul_right packs (omega (arith, l)) in omega (arith, rows, m)

module _ (part : PartPlan) (kept next : KeptRounds) (start end : ℕ) (shows : List (Option Leaf)) (so_far : AreKeptOf part kept)
    (here : kept_end kept ≡ start) (round : IsPartRound part start end shows)
    (ends_are : next.ends.items ≡ kept.ends.items ++ end ∷ []) (shows_are : next.shows.items ≡ kept.shows.items ++ shows) where
  -- those before are still kept
  round_kept : (i : ℕ) → i < length kept.ends.items → IsKeptRound part next i
  round_kept i l =
      let was = so_far.each i l in
      let long = so_far.long in
      record {
        first = was.first;
        last = was.last;
        round = was.round;
        start_is = ap (λ (es : List ℕ). round_start 0 es i) ends_are ∙ start_kept 0 end i kept.ends.items (omega (arith, l)) ∙ was.start_is;
        end_is = ap (λ (es : List ℕ). get_or es i 0) ends_are ∙ get_or-append kept.ends.items (end ∷ []) 0 i l ∙ was.end_is;
        each = λ k m.
            let within = kept_within i k (length kept.ends.items) (packs_of part.plan) l m in
            let same : kept_at part next i k ≡ kept_at part kept i k =
            ap (λ (xs : List (Option Leaf)). get_or xs (i * packs_of part.plan + k) None) shows_are
            ∙ get_or-append kept.shows.items shows None (i * packs_of part.plan + k) (omega (arith, within, long)) in
            subst (λ (o : Option Leaf). IsShownAt part was.first k o) (sym same) (was.each k m);
      }

  -- and so is this one
  round_new : (i : ℕ) → i ≡ length kept.ends.items → IsKeptRound part next i
  round_new i e = record {
    first = round.first;
    last = round.last;
    round = round.round;
    start_is =
        ap (λ (es : List ℕ). round_start 0 es i) ends_are ∙ ap (λ n. round_start 0 (kept.ends.items ++ end ∷ []) n) e
        ∙ start_kept 0 end (length kept.ends.items) kept.ends.items (omega arith) ∙ here ∙ round.start_is;
    end_is =
        ap (λ (es : List ℕ). get_or es i 0) ends_are ∙ ap (λ n. get_or (kept.ends.items ++ end ∷ []) n 0) e
        ∙ get_or-append_seam kept.ends.items end [] 0 ∙ round.end_is;
    each = λ k m.
        let long : i * packs_of part.plan + k ≡ length kept.shows.items + k = ap (λ n. n + k) (ap (λ n. n * packs_of part.plan) e ∙ sym so_far.long) in
        let same : kept_at part next i k ≡ get_or shows k None =
        ap (λ (xs : List (Option Leaf)). get_or xs (i * packs_of part.plan + k) None) shows_are
        ∙ ap (λ n. get_or (kept.shows.items ++ shows) n None) long
        ∙ get_or-append-add kept.shows.items shows k None in
        subst (λ (o : Option Leaf). IsShownAt part round.first k o) (sym same) (round.each k m);
  }

  -- one more is kept
  pub one_more : AreKeptOf part next
  one_more =
      let more : length next.ends.items ≡ length kept.ends.items + 1 = ap (λ (es : List ℕ). length es) ends_are ∙ length-append kept.ends.items (end ∷ []) in
      let told : length next.shows.items ≡ length kept.shows.items + length shows = ap (λ (xs : List (Option Leaf)). length xs) shows_are
      ∙ length-append kept.shows.items shows in
      record {
        long =
            let was = so_far.long in
            let now = round.long in
            let count : length next.ends.items * packs_of part.plan ≡ (length kept.ends.items + 1) * packs_of part.plan = ap (λ n. n * packs_of part.plan)
            more in
            omega (arith, told, was, now, count);
        each = λ i l. elim (cases_lt i (length kept.ends.items)) [
          | inl low ↦ round_kept i low
          | inr high ↦ round_new i (omega (arith, l, more, high))
        ];
      }

  -- and ends where it does
  pub more_end : kept_end next ≡ end
  more_end = ap (λ (es : List ℕ). round_start 0 es (length es)) ends_are ∙ last_start 0 end kept.ends.items
