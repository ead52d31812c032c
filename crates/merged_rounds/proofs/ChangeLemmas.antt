-- Rounds by the processors that may show something else than before.
use Rattle.std.proofs.Common.{◌≡◌, ◌≢◌, ℕ, zero, suc, ◌+◌, ◌*◌, ◌<◌, ◌≤◌, ◌⊎◌, inl, inr, Bool, true, false, List, [], ◌∷◌, ◌++◌, length, set, get_or}
use Rattle.std.proofs.Common.{get_or-set_same, get_or-set_other, slice_get, Option, None, Some, refl, sym, ap, subst, ◌∙◌, arith}
use Rattle.std.specs.List.{AllByRecursion}
use Rattle.std.proofs.lemmas.Bool.{cases_eq, cases_lt, le-ltb}
use Rattle.std.proofs.lemmas.List.{get_or-map, get_or_append_left, get_or_push, length-map}
use Rattle.std.proofs.lemmas.Option.{slice_get-get_or}
use Rattle.sched_base.specs.declared.rows.Leaf.{Leaf}
use Rattle.sched_base.specs.declared.rows.Leaf.TheVariants.{Task as task_leaf, Wait as wait_leaf, Idle as idle_leaf, Empty}
use Rattle.sched_base.specs.declared.rows.NodeId.{NodeId}
use Rattle.sched_base.specs.declared.rows.Row.{Row}
use Rattle.sched_base.specs.declared.sets.Task.{Task}
use Rattle.sched_base.specs.Sets.{task_at}
use Rattle.sched_base.specs.Tables.{lane_of}
use Rattle.run_tree.specs.Plans.{PlanContents}
use Rattle.run_tree.specs.Schedule.{shown}
use Rattle.run_tree.specs.Tree.{leaf}
use Rattle.sched_laws.proofs.WholeRounds.{length-round}
use Rattle.merged_rounds.specs.declared.sources.Source.{Source}
use Rattle.merged_rounds.specs.Replays.{IsSourceOf}
use Rattle.event_core.specs.Rounds.{IsRoundUpTo, rows_of_round}
use Rattle.event_core.specs.Told.{AllReleased}
use Rattle.event_core.proofs.SettledPacks.{same_start}
use Rattle.merged_rows.specs.Columns.{AreGoingOn, AreShown, Begun, ends_showing, going_on, showing}
use Rattle.merged_rows.proofs.ChangedLemmas.{on_step}
use Rattle.merged_rounds.specs.declared.sums.RoundSum.{RoundSum}
use Rattle.merged_rounds.specs.Changes.{AreLeavesOf, AreTheLeaves, AreTold, IsNone, IsShowing, leaves_in}
use Rattle.merged_rounds.specs.Laps.{IsAllTold, IsSumUpTo}
use Rattle.round_looks.specs.Looks.{leaf_at, shown_for}
use Rattle.merged_rounds.proofs.LapLemmas.{row_shows}

pub set_same : {X : Type 0} (xs : List X) (p : ℕ) (x none : X) → p < length xs → get_or (set xs p x) p none ≡ x
set_same xs p x none l = rw get_or-set_same

pub set_other : {X : Type 0} (xs : List X) (p q : ℕ) (x none : X) → q ≢ p → get_or (set xs p x) q none ≡ get_or xs q none
set_other xs p q x none ne = rw get_or-set_other refl

-- one is one of the first n of these, or none
pub among : (changed : List ℕ) (n q : ℕ) → ((k : ℕ) × (k < n) × (get_or changed k 0 ≡ q)) ⊎ IsNone changed n q
among changed zero q = inr (λ k l. absurd (omega (arith, l)))
among changed (suc n) q = elim (cases_eq q (get_or changed n 0)) [
  | inl same ↦ inl (n, omega arith, sym same)
  | inr ne ↦ before (among changed n q) ne
]
  where
    before : ((k : ℕ) × (k < n) × (get_or changed k 0 ≡ q)) ⊎ IsNone changed n q → q ≢ get_or changed n 0 →
        ((k : ℕ) × (k < suc n) × (get_or changed k 0 ≡ q)) ⊎ IsNone changed (suc n) q
    before (inl (k, l, at)) ne = inl (k, omega (arith, l), at)
    before (inr none) ne = inr (λ k l e. elim (cases_lt k n) [
      | inl low ↦ none k low e
      | inr high ↦ ne (sym e ∙ ap (λ j. get_or changed j 0) (let f : k ≡ n = omega (arith, l, high) in f))
    ])

-- ---- what is told of those that changed

module _ (p : PlanContents) (start end : ℕ) (changed : List ℕ) where
  pub told_none : (told : List (Option Leaf)) → AreTold p start end changed 0 told told
  told_none told = record { each = λ k none l. absurd (omega (arith, l)); rest = λ q none. refl }

  pub told_step : (before told : List (Option Leaf)) (n : ℕ) (leaf : Leaf) → get_or changed n 0 < length told →
      ((none : Row) → leaf_at p start end (get_or changed n 0) none ≡ leaf) →
      AreTold p start end changed n before told → AreTold p start end changed (n + 1) before (set told (get_or changed n 0) (Some leaf))
  told_step before told n leaf l is h = record {
    each = λ k none m. elim (cases_eq (get_or changed k 0) (get_or changed n 0)) [
      | inl same ↦
          ap (λ j. get_or (set told (get_or changed n 0) (Some leaf)) j None) same ∙ set_same told (get_or changed n 0) (Some leaf) None l
          ∙ ap (λ (x : Leaf). Some x) (sym (is none) ∙ ap (λ j. leaf_at p start end j none) (sym same))
      | inr ne ↦ set_other told (get_or changed n 0) (get_or changed k 0) (Some leaf) None ne ∙ elim (cases_lt k n) [
        | inl low ↦ h.each k none low
        | inr high ↦ absurd (ne (ap (λ j. get_or changed j 0) (let f : k ≡ n = omega (arith, m, high) in f)))
      ]
    ];
    rest = λ q none. set_other told (get_or changed n 0) q (Some leaf) None (λ e. none n (omega arith) (sym e)) ∙ h.rest q (λ k m. none k (omega (arith, m)));
  }

  -- so each processor's leaf is known in the next round
  pub told_now : (n before : ℕ) (was now : List (Option Leaf)) → IsAllTold p before start was → length now ≡ length was → AreTold p start end changed n was
      now →
      ((q : ℕ) (none : Row) → q < p.tree.processors → IsNone changed n q → leaf_at p start end q none ≡ leaf_at p before start q none) →
      IsAllTold p start end now
  told_now n before was now all long h still = record {
    long = long ∙ all.long;
    each = λ q none l. one q none l (among changed n q);
  }
    where
      one : (q : ℕ) (none : Row) → q < p.tree.processors → ((k : ℕ) × (k < n) × (get_or changed k 0 ≡ q)) ⊎ IsNone changed n q → get_or now q None ≡ Some
          (leaf_at p start end q none)
      one q none l (inl (k, m, at)) = subst (λ (i : ℕ). get_or now i None ≡ Some (leaf_at p start end i none)) at (h.each k none m)
      one q none l (inr away) = h.rest q away ∙ all.each q none l ∙ ap (λ (x : Leaf). Some x) (sym (still q none l away))

  -- and the others show what their last rows do
  pub changed_shown : (before : ℕ) (now : List (Option Leaf)) (lanes : List (List Row)) → IsAllTold p start end now →
      ((q : ℕ) (none : Row) → q < p.tree.processors → IsNone changed (length changed) q → leaf_at p start end q none ≡ leaf_at p before start q none) →
      ((q : ℕ) (none : Row) → q < p.tree.processors → ends_showing (lane_of lanes q) (leaf_at p before start q none) ≡ true) → AreShown lanes changed now
      (rows_of_round p start end)
  changed_shown before now lanes all still last = record {
    long = length-round p.set.tasks p.tree start end ∙ sym all.long;
    each = λ q r at. (let s = row_shows p start end q r at in all.each q r s.0 ∙ ap (λ (x : Leaf). Some x) (sym s.1));
    rest = λ q r at away. (let s = row_shows p start end q r at in ap (ends_showing (lane_of lanes q)) (s.1 ∙ still q r s.0 away) ∙ last q r s.0);
  }

-- by the tick at which the round ends alone
pub the_leaves : (p : PlanContents) (start end : ℕ) (told : List (Option Leaf)) → IsRoundUpTo p start end → IsAllTold p start end told → AreTheLeaves p end told
the_leaves p start end told round all = record {
  long = all.long;
  all = λ s up. subst (λ (n : ℕ). IsAllTold p n end told) (sym (same_start p s start end up round)) all;
}

-- ---- from a round to the next

-- no task waits later on
pub released_later : (p : PlanContents) (m n : ℕ) → m ≤ n → AllReleased p m → AllReleased p n
released_later p m n up all = go p.set.tasks all
  where
    go : (tasks : List Task) → AllByRecursion (λ t. t.offset * p.tree.scale ≤ m) tasks → AllByRecursion (λ t. t.offset * p.tree.scale ≤ n) tasks
    go [] all = tt
    go (t ∷ ts) all = (let here = all.0 in omega (arith, here, up), go ts all.1)

-- where all are released at tick 0, none waits
pub released_at_once : (p : PlanContents) (n : ℕ) → AllByRecursion (λ t. t.offset ≡ 0) p.set.tasks → AllReleased p n
released_at_once p n all = go p.set.tasks all
  where
    go : (tasks : List Task) → AllByRecursion (λ t. t.offset ≡ 0) tasks → AllByRecursion (λ t. t.offset * p.tree.scale ≤ n) tasks
    go [] all = tt
    go (t ∷ ts) all = (let z = ap (λ o. o * p.tree.scale) all.0 in omega (arith, z), go ts all.1)

pub showing_on : (p : PlanContents) (source : Source) (sum : RoundSum) (start : ℕ) → IsSourceOf p source → IsRoundUpTo p start source.tick →
    AllReleased p start → IsSumUpTo p source.tick sum →
    ((q : ℕ) (r : Row) → slice_get (rows_of_round p start source.tick) q ≡ Some r → ends_showing (lane_of sum.rows.lanes q) r.leaf ≡ true) →
    IsShowing p source sum
showing_on p source sum start belongs round released is ends = record {
  belongs = belongs;
  sum = is;
  start = start;
  round = round;
  released = released;
  last = λ q none l.
      let rows = rows_of_round p start source.tick in
      let long = length-round p.set.tasks p.tree start source.tick in
      ends q (get_or rows q none) (slice_get-get_or rows q none (omega (arith, l, long)));
}

-- ---- what each node shows

-- no task waits
none_waits : (tasks : List Task) (scale tick : ℕ) → AllByRecursion (λ k. k.offset * scale ≤ tick) tasks → (j : ℕ) → (task_at tasks j).offset * scale ≤ tick
none_waits [] scale tick all j = omega arith
none_waits (k ∷ tasks) scale tick all zero = all.0
none_waits (k ∷ tasks) scale tick all (suc j) = none_waits tasks scale tick all.1 j

-- so each leaf is shown as it is, from there on
shown_as_is : (tasks : List Task) (scale tick : ℕ) → AllByRecursion (λ k. k.offset * scale ≤ tick) tasks → (start : ℕ) → tick ≤ start → (l : Leaf) →
    shown tasks scale start l ≡ l
shown_as_is tasks scale tick all start late (task_leaf id) =
    let w = none_waits tasks scale tick all id.0 in
    ap (λ (b : Bool). elim b as (λ y. Leaf) [ true ↦ wait_leaf id | false ↦ task_leaf id ]) (le-ltb start ((task_at tasks id.0).offset * scale)
    (omega (arith, w, late)))
shown_as_is tasks scale tick all start late (wait_leaf id) = refl
shown_as_is tasks scale tick all start late (idle_leaf number) = refl
shown_as_is tasks scale tick all start late Empty = refl

-- the same as at that tick
pub shown_on : (p : PlanContents) (tick n t : ℕ) (l : Leaf) → AllReleased p tick → tick ≤ t → l ≡ shown_for p n tick → shown_for p n t ≡ l
shown_on p tick n t l all late is =
    shown_as_is p.set.tasks p.tree.scale tick all t late (leaf p.tree n) ∙ sym (shown_as_is p.set.tasks p.tree.scale tick all tick (omega arith)
    (leaf p.tree n)) ∙ sym is

-- with one node more
pub leaves_push : (p : PlanContents) (tick n : ℕ) (leaves : List Leaf) (l : Leaf) → length leaves ≡ n → ((t : ℕ) → tick ≤ t → shown_for p n t ≡ l) →
    ((k t : ℕ) → k < n → tick ≤ t → shown_for p k t ≡ get_or leaves k Empty) → (k t : ℕ) → k < n + 1 → tick ≤ t → shown_for p k t ≡ get_or
    (leaves ++ l ∷ []) k Empty
leaves_push p tick n leaves l long here below k t in_all late = elim (cases_lt k n) [
  | inl low ↦ below k t low late ∙ sym (get_or_append_left leaves (l ∷ []) Empty k (omega (arith, low, long)))
  | inr high ↦
      (let same : k ≡ n = omega (arith, in_all, high) in
      ap (λ j. shown_for p j t) same ∙ here t late ∙ sym (get_or_push leaves l Empty k (long ∙ sym same)))
]

-- and so from a later tick on
pub leaves_later : (p : PlanContents) (m n : ℕ) (leaves : List Leaf) → m ≤ n → AreLeavesOf p m leaves → AreLeavesOf p n leaves
leaves_later p m n leaves up h = record { long = h.long; each = λ k t l late. h.each k t l (omega (arith, up, late)) }

-- so a processor shows the leaf that is known of its node
pub leaf_known : (p : PlanContents) (start end q : ℕ) (leaves : List Leaf) (o : Option NodeId) (l : Leaf) → AreLeavesOf p start leaves →
    ((row : Row) → o ≡ None → leaf_at p start end q row ≡ Empty) →
    ((n : NodeId) (row : Row) → o ≡ Some n → leaf_at p start end q row ≡ shown_for p n.0 start) → ((n : NodeId) → o ≡ Some n → n.0 < length p.tree.nodes) →
    (o ≡ None → l ≡ Empty) → ((n : NodeId) → o ≡ Some n → l ≡ get_or leaves n.0 Empty) → (row : Row) → leaf_at p start end q row ≡ l
leaf_known p start end q leaves None l h none some within free known row = none row refl ∙ sym (free refl)
leaf_known p start end q leaves (Some n) l h none some within free known row = some n row refl ∙ h.each n.0 start (within n refl) (omega arith)
    ∙ sym (known n refl)

module _ (p : PlanContents) (start end : ℕ) where
  pub leaf_in : (q : ℕ) (none : Row) → q < p.tree.processors → get_or (leaves_in p start end) q None ≡ Some (leaf_at p start end q none)
  leaf_in q none l =
      let rows = rows_of_round p start end in
      let long = length-round p.set.tasks p.tree start end in
      get_or-map (λ (r : Row). Some r.leaf) rows q none None (omega (arith, l, long))

  pub all_in : IsAllTold p start end (leaves_in p start end)
  all_in = record {
    long = length-map (rows_of_round p start end) (λ (r : Row). Some r.leaf) ∙ length-round p.set.tasks p.tree start end;
    each = λ q none l. leaf_in q none l;
  }

  -- one processor more shows what it does
  pub seen_step : (first lanes lanes' : List (List Begun)) (tick : ℕ) (changed : List ℕ) (n q : ℕ) (l : Leaf) → q ≡ get_or changed n 0 →
      q < p.tree.processors → length first ≡ p.tree.processors →
      ((none : Row) → leaf_at p start end q none ≡ l) → lanes' ≡ set lanes q (showing (get_or lanes q []) tick l) → AreGoingOn first tick changed
      (leaves_in p start end) lanes n →
      AreGoingOn first tick changed (leaves_in p start end) lanes' (n + 1)
  seen_step first lanes lanes' tick changed n q l at within many is set_to h =
      let none : Row = record { processor = 0; start = 0; end = 0; leaf = Empty } in
      let long = all_in.long in
      on_step first tick changed (leaves_in p start end) lanes lanes' n q [] None at (omega (arith, within, many)) (long ∙ sym many)
      (set_to ∙ ap (λ (o : Option Leaf). set lanes q (going_on (get_or lanes q []) tick o)) (sym (leaf_in q none within ∙ ap (λ (x : Leaf). Some x)
      (is none)))) h
