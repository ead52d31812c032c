-- What is kept of packs, from one step of a round to the next.
use Rattle.std.proofs.Common.{◌≡◌, ◌≢◌, ℕ, zero, suc, ◌+◌, ◌-◌, ◌*◌, ◌/◌, ◌<◌, ◌≤◌, ◌^◌, ◌⊎◌, ◌&&◌, not, min, Bool, true, false, List, [], ◌∷◌}
use Rattle.std.proofs.Common.{length, get_or, Option, Some, Vec, refl, ap, ap₂, arith, inl, inr, sym, subst, le_of_lt, mul-le-mul, eq-eqb, ◌∙◌}
use Rattle.std.specs.Vec.{with_items}
use Rattle.std.proofs.lemmas.Bool.{cases_eq, cases_lt, cases_Bool, both_ways, and_from, and_parts, not-true, ne_eqb}
use Rattle.std.proofs.lemmas.List.{with_items_is, get_or_past}
use Rattle.sched_base.specs.declared.rows.Leaf.{Leaf}
use Rattle.sched_base.specs.declared.rows.Leaf.TheVariants.{Empty}
use Rattle.sched_base.specs.Counting.{bit}
use Rattle.sched_base.specs.Candidates.{is_at}
use Rattle.sched_base.specs.Places.{Placing, place as placed_by}
use Rattle.run_tree.specs.Windows.{window_begin, window_end}
use Rattle.run_tree.specs.Tree.{Tree, IsTree, IsMember, kind_at, is_pack, leaf, home, place, rate, member}
use Rattle.run_tree.specs.Boundaries.{set_boundary}
use Rattle.run_tree.specs.Plans.{PlanContents, IsPlan, boundary_of, stop_of}
use Rattle.run_tree.proofs.RunLemmas.{left_is, on_time}
use Rattle.server_budget.specs.Dues.{DueContents}
use Rattle.tree_select.specs.Marked.{AreFreshFrom}
use Rattle.release_calendar.specs.Calendars.{CalendarContents, BelongsTo, AreListed}
use Rattle.event_core.specs.Serving.{ServingContents, no_tick, lists, AreFitting, IsServing, IsSoonest, AreBegun}
use Rattle.event_core.specs.Cores.{CoreContents, dues_of, IsAtRound, IsInRound}
use Rattle.event_core.specs.Steps.{IsShortest, HasRun, HasTurned, leaf_by, packs_by}
use Rattle.event_core.specs.Cores.{SaysRuns}
use Rattle.event_core.proofs.DryLemmas.{candidates_long}
use Rattle.event_core.proofs.EndLemmas.{is_shortest}
use Rattle.event_core.proofs.OneRound.{some_ticks, round_run}
use Rattle.event_core.proofs.QuietRounds.{plan_leaves}
use Rattle.event_core.proofs.TurnedLemmas.{turned_serving, end_near, end_goes_on, due_some, listed_refilled}
use Rattle.event_core.proofs.WindowsOfCalendar.{member_boundaries, short_window}

-- a list that was written through its slice
pub back : {X Z : Type 0} (v : Vec X Z) (old new : List X) → old ≡ v.items → length new ≡ length old → (with_items v new).items ≡ new
back {X} v old new e l = with_items_is v new (let long = ap (λ (xs : List X). length xs) e in let ok = v.ok.0 in omega (arith, long, l, ok))

-- it is as long as before
pub back_long : {X Z : Type 0} (v : Vec X Z) (old new : List X) → old ≡ v.items → length new ≡ length old → length (with_items v new).items ≡ length v.items
back_long {X} v old new e l = ap (λ (xs : List X). length xs) (back v old new e l) ∙ l ∙ ap (λ (xs : List X). length xs) e

-- the same lists
pub same_lists : (ready ready' : List (List ℕ)) (serves serves' : List (Option ℕ)) (dry dry' : List ℕ) (stale stale' runs runs' : List Bool) →
    ready ≡ ready' → serves ≡ serves' → dry ≡ dry' → stale ≡ stale' → runs ≡ runs' →
    lists ready serves dry stale runs ≡ lists ready' serves' dry' stale' runs'
same_lists ready ready' serves serves' dry dry' stale stale' runs runs' a b c d e =
    ap (λ (x : List (List ℕ)). lists x serves dry stale runs) a
    ∙ ap (λ (x : List (Option ℕ)). lists ready' x dry stale runs) b
    ∙ ap (λ (x : List ℕ). lists ready' serves' x stale runs) c
    ∙ ap (λ (x : List Bool). lists ready' serves' dry' x runs) d
    ∙ ap (λ (x : List Bool). lists ready' serves' dry' stale' x) e

-- ---- the tick, and what is left, fit

pub stop_fits : (p : PlanContents) → IsPlan p → stop_of p ≤ 2 ^ 126
stop_fits p h =
    let most : p.set.horizon * p.tree.scale ≤ 2 ^ 32 * 2 ^ 94 = mul-le-mul (le_of_lt h.lawful.horizon_fits) h.sized.scale_fits in
    omega (arith, most)

pub fitting : (p : PlanContents) (h : IsPlan p) (c : CoreContents) → IsAtRound p c → AreFitting p.tree (dues_of c)
fitting p h c b x i =
    let of_leaf = set_boundary p.set.tasks in
    let u = c.tick / p.tree.scale in
    let l = left_is of_leaf p.tree x c.tick (on_time of_leaf p.tree h.tree.tree (plan_leaves p h) x c.tick i) in
    let has = b.left x i in
    let short = short_window (boundary_of p x) (member_boundaries p h x i) u in
    let window : window_end (boundary_of p x) u - window_begin (boundary_of p x) u ≤ 2 ^ 33 = omega (arith, short) in
    let fast = h.sized.rates x i.0 in
    let scale = h.sized.scale_fits in
    let slow : rate p.tree x ≤ 2 ^ 94 = omega (arith, fast, scale) in
    let most : rate p.tree x * (window_end (boundary_of p x) u - window_begin (boundary_of p x) u) ≤ 2 ^ 94 * 2 ^ 33 = mul-le-mul slow window in
    let stop = stop_fits p h in
    let early = b.early in
    omega (arith, l, has, most, stop, early)

-- ---- the ticks of a round

module _ (p : PlanContents) (h : IsPlan p) (c : CoreContents) (b : IsInRound p c) (fresh : AreFreshFrom p.tree c.serving.stale 0) (early : c.tick < stop_of
    p) (most end : ℕ) (is_most : most ≡ min (stop_of p) (c.calendar.next * p.tree.scale))
    (soon : IsSoonest p.tree c.serving.dry most end) where
  pub most_fits : most < no_tick
  most_fits = (let s = stop_fits p h in omega (arith, s, is_most))

  pub most_late : c.tick ≤ most
  most_late = (let f = b.at.before in omega (arith, early, f, is_most))

  pub shortest : IsShortest p.tree c.serving.runs c.remains (most - c.tick) (length p.tree.nodes) (end - c.tick)
  shortest = is_shortest p.tree h.tree.tree (dues_of c) c.calendar.ends c.serving b.serving fresh most end most_late most_fits soon

  pub end_fits : end < no_tick
  end_fits = (let l = soon.below in let f = most_fits in omega (arith, l, f))

  -- each node that runs by the dues has as many ticks left
  pub enough_left : (x : ℕ) → get_or c.members_run x false ≡ true → end - c.tick ≤ get_or c.remains x 0
  enough_left x on = elim (cases_lt x (length p.tree.nodes)) [
    | inr past ↦ absurd (both_ways (get_or c.members_run x false) (b.serving.rest x (λ i. let l = i.0 in omega (arith, l, past))) on)
    | inl l ↦ elim (cases_Bool (is_pack (kind_at p.tree x))) [
      | inl pack ↦ absurd (both_ways (get_or c.members_run x false) (b.serving.rest x (λ i. both_ways (is_pack (kind_at p.tree x)) i.1 pack)) on)
      | inr member ↦ shortest.all x l (l, member) (sym (b.serving.agree x (l, member)) ∙ on)
    ]
  ]

  module _ (says : SaysRuns p c.tick c.serving.runs) where
    pub later : c.tick < end
    later = (let k = some_ticks p h c b.at c.serving.runs says (packs_by p.tree c.serving.runs) refl early (most - c.tick) (end - c.tick)
        (ap (λ n. n - c.tick) is_most) shortest in omega (arith, k))

    -- the round was run
    pub ran : (remains : List ℕ) (places : Placing) → length remains ≡ length p.tree.nodes → ((x : ℕ) → x < length c.remains → get_or remains x 0 ≡ get_or
        c.remains x 0 - bit (get_or c.members_run x false) * (end - c.tick)) →
        places ≡ placed_by (packs_by p.tree c.serving.runs) c.places → HasRun p c end remains places
    ran remains places long spent placed =
        let at : c.tick + (end - c.tick) ≡ end = (let l = later in omega (arith, l)) in
        subst (λ (n : ℕ). HasRun p c n remains places) at
        (round_run p h c b.at c.serving.runs says (packs_by p.tree c.serving.runs) refl early (most - c.tick) (end - c.tick) (ap (λ n. n - c.tick) is_most)
        shortest remains places long
        (λ x i. spent x (let l = i.0 in let e = b.at.nodes in omega (arith, l, e)) ∙ ap₂ (λ (left : ℕ) (run : Bool). left - bit run * (end - c.tick))
        (b.at.left x i) (b.serving.agree x i ∙ says x i.0)) placed)

-- ---- what the calendar's turn leaves

module _ (p : PlanContents) (h : IsPlan p) (c c' : CalendarContents) (belongs : BelongsTo p c) (belongs' : BelongsTo p c') (unit : c'.unit ≡ c.next)
    (late : (x : ℕ) → IsMember p.tree x → c.next ≤ window_end (boundary_of p x) c.unit)
    (due : List Bool) (due_long : length due ≡ length p.tree.nodes) (marked : (x : ℕ) → x < length p.tree.nodes →
    get_or due x false ≡ (not (is_pack (kind_at p.tree x)) && boundary_of p x c.next)) (listed : AreListed due c'.begun) where
  pub due_member : (x : ℕ) → x < length p.tree.nodes → get_or due x false ≡ true → is_pack (kind_at p.tree x) ≡ false
  due_member x l on = not-true (is_pack (kind_at p.tree x)) (and_parts (not (is_pack (kind_at p.tree x))) (boundary_of p x c.next) (sym (marked x l) ∙ on)).0

  -- what is listed are leaves and duals
  pub listed_members : (k : ℕ) → k < length c'.begun → IsMember p.tree (get_or c'.begun k 0)
  listed_members k l =
      let on = listed.marked k l in
      elim (cases_lt (get_or c'.begun k 0) (length p.tree.nodes)) [
        | inl b ↦ (b, due_member (get_or c'.begun k 0) b on)
        | inr m ↦ absurd (both_ways (get_or due (get_or c'.begun k 0) false) (past_false (get_or c'.begun k 0) m) on)
      ]
    where
      past_false : (x : ℕ) → length p.tree.nodes ≤ x → get_or due x false ≡ false
      past_false x m = get_or_past due x false (omega (arith, m, due_long))

  module _ (d d' : DueContents) (s s' : ServingContents) (v : IsServing p.tree d c.ends s) (a : AreBegun p.tree c'.begins c'.ends c'.begun d.remains s.ready
      s.stale d'.remains s'.ready s'.stale (length c'.begun)) where
    pub has_turned : HasTurned p c c' d.remains d'.remains
    has_turned = record {
      belongs = belongs';
      unit = unit;
      due = due;
      marked = marked;
      filled = listed_refilled p.tree c'.begins c'.ends c'.begun d.remains s.ready s.stale d'.remains s'.ready s'.stale due due_long listed due_member a;
    }

    pub still_serving : d'.tick ≡ d.tick → d'.runs ≡ d.runs → s'.serves ≡ s.serves → s'.dry ≡ s.dry → s'.runs ≡ s.runs → IsServing p.tree d' c'.ends s'
    still_serving tick dues serves dry runs =
        turned_serving p.tree h.tree.tree d d' c.ends c'.ends s s' v each (λ x i. end_near p h c' belongs' x i) a.long a.unmarked tick dues serves dry runs
      where
        each : (x : ℕ) → IsMember p.tree x →
            ((0 < get_or d'.remains x 0) × (get_or (get_or s'.ready (home p.tree x) []) (place p.tree x) 0 ≡ get_or c'.ends x 0)
            × (get_or s'.stale (home p.tree x) false ≡ true))
            ⊎ ((get_or d'.remains x 0 ≡ get_or d.remains x 0) × (get_or (get_or s'.ready (home p.tree x) []) (place p.tree x) 0 ≡ get_or
            (get_or s.ready (home p.tree x) []) (place p.tree x) 0) × (get_or c'.ends x 0 ≡ get_or c.ends x 0))
        each x i = elim (cases_Bool (get_or due x false)) [
          | inl on ↦
              (let at = listed.all x on in
              inl (
                (let e = a.filled at.0 x at.1 at.2 i in let l = due_some p h c' belongs' x i in omega (arith, e, l)),
                a.put at.0 x at.1 at.2 i,
                a.marked at.0 x at.1 at.2 i,
              ))
          | inr off ↦
              (let other : (j : ℕ) → j < length c'.begun → get_or c'.begun j 0 ≢ x = (λ j l e. both_ways (get_or due x false) off
              (ap (λ y. get_or due y false) (sym e) ∙ listed.marked j l)) in
              inr (a.kept x other, a.kept_end x i other, end_goes_on p h c c' belongs belongs' unit x i (late x i) (no_boundary_there x i off)))
        ]
          where
            no_boundary_there : (x : ℕ) → IsMember p.tree x → get_or due x false ≡ false → boundary_of p x c.next ≡ false
            no_boundary_there x i off = elim (cases_Bool (boundary_of p x c.next)) [
              | inr off_there ↦ off_there
              | inl on_there ↦ absurd (both_ways (get_or due x false) off (marked x i.0 ∙ and_from (not (is_pack (kind_at p.tree x)))
                  (boundary_of p x c.next) (ap not i.1) on_there))
            ]

-- the place of each member stands in its pack's knockout
pub places_stand : (t : Tree) → IsTree t → (d : DueContents) (ends : List ℕ) (s : ServingContents) → IsServing t d ends s → (x : ℕ) → IsMember t x →
    place t x < length (get_or s.ready (home t x) [])
places_stand t h d ends s v x i =
    let at = h.homes_are x i in
    let l = at.1 in
    let e = (v.picks (home t x) at.0).long in
    let m = candidates_long t d.remains ends (home t x) in
    omega (arith, l, e, m)

-- ---- rows

-- where none of these runs, none is shown
pub leaf_none : (t : Tree) (rs : List Bool) (ms : List ℕ) → ((k : ℕ) → k < length ms → get_or rs (get_or ms k 0) false ≡ false) → Empty ≡ leaf_by t rs ms
leaf_none t rs [] off = refl
leaf_none t rs (x ∷ xs) off = leaf_none t rs xs (λ k l. off (suc k) (omega (arith, l))) ∙ ap (λ (b : Bool). elim b as (λ y. Leaf)
    [ true ↦ leaf t x | false ↦ leaf_by t rs xs ]) (sym (off 0 (omega arith)))

at_next : (j k : ℕ) → is_at (Some (suc j)) (suc k) ≡ is_at (Some j) k
at_next j k = elim (cases_eq j k) [
  | inl same ↦ eq-eqb (suc j) (suc k) (ap suc same) ∙ sym (eq-eqb j k same)
  | inr ne ↦ ne_eqb (suc j) (suc k) (λ e. ne (omega (arith, e))) ∙ sym (ne_eqb j k ne)
]

-- where one of them alone runs, that is the one that is shown
pub leaf_one : (t : Tree) (rs : List Bool) (ms : List ℕ) (j : ℕ) → j < length ms → ((k : ℕ) → k < length ms → get_or rs (get_or ms k 0) false ≡ is_at
    (Some j) k) → leaf t (get_or ms j 0) ≡ leaf_by t rs ms
leaf_one t rs [] j l one = absurd (omega (arith, l))
leaf_one t rs (x ∷ xs) zero l one = ap (λ (b : Bool). elim b as (λ y. Leaf) [ true ↦ leaf t x | false ↦ leaf_by t rs xs ]) (sym (one 0 (omega arith)))
leaf_one t rs (x ∷ xs) (suc j) l one =
    leaf_one t rs xs j (omega (arith, l)) (λ k m. one (suc k) (omega (arith, m)) ∙ at_next j k)
    ∙ ap (λ (b : Bool). elim b as (λ y. Leaf) [ true ↦ leaf t x | false ↦ leaf_by t rs xs ]) (sym (one 0 (omega arith) ∙ ne_eqb (suc j) 0
    (λ e. omega (arith, e))))
