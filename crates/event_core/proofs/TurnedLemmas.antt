-- Packs go on serving where some of their members' windows begin.
use Rattle.std.proofs.Common.{◌≡◌, ◌≢◌, ℕ, ◌+◌, ◌-◌, ◌<◌, ◌≤◌, ◌⊎◌, ltb, Bool, true, false, List, [], length, get_or, Option, Some, None, refl, ap}
use Rattle.std.proofs.Common.{ap₂, arith, inl, inr, sym, subst, mul-pos, ◌∙◌}
use Rattle.std.proofs.lemmas.Bool.{cases_lt, both_ways}
use Rattle.std.proofs.lemmas.List.{get_or_past}
use Rattle.sched_base.specs.declared.candidates.Candidate.{Candidate}
use Rattle.sched_base.specs.Candidates.{candidate_at, is_at}
use Rattle.tree_select.specs.Marked.{AreLed, IsServed}
use Rattle.run_tree.specs.Windows.{window_end}
use Rattle.run_tree.specs.Tree.{Tree, IsTree, IsPack, IsMember, kind_at, is_pack, home, place, primal, rate, members, member}
use Rattle.run_tree.specs.Plans.{PlanContents, IsPlan, boundary_of}
use Rattle.run_tree.proofs.KindLemmas.{KindOf, kind_of}
use Rattle.run_tree.proofs.WindowLemmas.{end_is, begin_is, windows_of}
use Rattle.knockout.specs.Knockouts.{never}
use Rattle.edf_pick.specs.Ready.{ready_end}
use Rattle.edf_pick.proofs.ReadyLemmas.{ready_some}
use Rattle.server_budget.specs.Dues.{DueContents}
use Rattle.tree_select.specs.Selected.{candidates}
use Rattle.tree_select.proofs.ServedLemmas.{still_served}
use Rattle.release_calendar.specs.Calendars.{CalendarContents, BelongsTo, AreListed}
use Rattle.event_core.specs.Serving.{ServingContents, due_of, dry_by, AreOfPacks, IsServing, AreBegun}
use Rattle.event_core.specs.Steps.{AreRefilled}
use Rattle.event_core.proofs.DryLemmas.{candidate_is, candidates_long}
use Rattle.event_core.proofs.WindowsOfCalendar.{member_boundaries, short_window}

module _ (t : Tree) (h : IsTree t) (d d' : DueContents) (ends ends' : List ℕ) (s s' : ServingContents) (v : IsServing t d ends s) where
  -- a member whose window begins, and one whose window goes on
  abbrev pub Begins : ℕ → Type 0
  Begins x = (0 < get_or d'.remains x 0) × (get_or (get_or s'.ready (home t x) []) (place t x) 0 ≡ get_or ends' x 0) × (get_or s'.stale (home t x) false ≡ true)

  abbrev pub GoesOn : ℕ → Type 0
  GoesOn x = (get_or d'.remains x 0 ≡ get_or d.remains x 0) × (get_or (get_or s'.ready (home t x) []) (place t x) 0 ≡ get_or (get_or s.ready (home t x) [])
      (place t x) 0) × (get_or ends' x 0 ≡ get_or ends x 0)

  module _ (each : (x : ℕ) → IsMember t x → Begins x ⊎ GoesOn x) (near : (x : ℕ) → IsMember t x → get_or ends' x 0 < never) (long : (p : ℕ) →
      length (get_or s'.ready p []) ≡ length (get_or s.ready p []))
      (unmarked : (p : ℕ) → get_or s'.stale p false ≡ false → get_or s.stale p false ≡ false) (tick : d'.tick ≡ d.tick) (dues : d'.runs ≡ d.runs)
      (serves : s'.serves ≡ s.serves) (dry : s'.dry ≡ s.dry) (runs : s'.runs ≡ s.runs) where
    -- of a pack that isn't marked all members' windows go on
    on : (p k : ℕ) → IsPack t p → get_or s'.stale p false ≡ false → k < length (members t p) → GoesOn (member t p k)
    on p k i off l = (let m = h.members_are p k i l in elim (each (member t p k) m.0) [
      | inr goes ↦ goes
      | inl begins ↦ absurd (both_ways (get_or s'.stale p false) off (ap (λ q. get_or s'.stale q false) (sym m.1) ∙ begins.2))
    ])

    at_place : (p k : ℕ) → IsPack t p → k < length (members t p) → get_or (get_or s'.ready p []) k 0 ≡ ready_end
        (candidate_at (candidates t d'.remains ends' p) k)
    at_place p k i l =
        let m = h.members_are p k i l in
        let x = member t p k in
        let is = candidate_is t d'.remains ends' p k l in
        let here : get_or (get_or s'.ready (home t x) []) (place t x) 0 ≡ get_or (get_or s'.ready p []) k 0 =
        ap₂ (λ (q j : ℕ). get_or (get_or s'.ready q []) j 0) m.1 m.2 in
        let there : get_or (get_or s.ready (home t x) []) (place t x) 0 ≡ get_or (get_or s.ready p []) k 0 = ap₂ (λ (q j : ℕ). get_or (get_or s.ready q [])
        j 0) m.1 m.2 in
        elim (each x m.0) [
          | inl begins ↦
              sym here ∙ begins.1 ∙ ap (λ (c : Candidate). c.end) (sym is)
              ∙ sym (ready_some (candidate_at (candidates t d'.remains ends' p) k) (let e = ap (λ (c : Candidate). c.remain) is in let b = begins.0 in
              omega (arith, e, b)))
          | inr goes ↦
              sym here ∙ goes.1 ∙ there
              ∙ (v.picks p i).each k (let e = candidates_long t d.remains ends p in omega (arith, e, l))
              ∙ ap ready_end (candidate_is t d.remains ends p k l ∙ ap₂ (λ (e r : ℕ). let c : Candidate = record { end = e; remain = r } in c) (sym goes.2)
              (sym goes.0) ∙ sym is)
        ]

    same_dry : (p : ℕ) → IsPack t p → get_or s'.stale p false ≡ false → (o : Option ℕ) → get_or s.serves p None ≡ o → dry_by t d p o ≡ dry_by t d' p o
    same_dry p i off None e = refl
    same_dry p i off (Some k) e = (let goes = on p k i off (v.within p k i e) in ap₂ (λ (n r : ℕ). n + r) (sym tick) (sym goes.0))

    pub turned_serving : IsServing t d' ends' s'
    turned_serving = record {
      picks = λ p i. record {
        long = long p ∙ (v.picks p i).long ∙ candidates_long t d.remains ends p ∙ sym (candidates_long t d'.remains ends' p);
        each = λ k l. at_place p k i (let e = candidates_long t d'.remains ends' p in omega (arith, e, l));
        near = λ k l. (let m : k < length (members t p) = (let e = candidates_long t d'.remains ends' p in omega (arith, e, l)) in
            let e = ap (λ (c : Candidate). c.end) (candidate_is t d'.remains ends' p k m) in
            let n = near (member t p k) (h.members_are p k i m).0 in
            omega (arith, e, n));
      };
      within = λ p j i e. v.within p j i (ap (λ (os : List (Option ℕ)). get_or os p None) (sym serves) ∙ e);
      at = λ p j i l. ap (λ (rs : List Bool). get_or rs (member t p j) false) runs ∙ v.at p j i l ∙ ap (λ (os : List (Option ℕ)). is_at (get_or os p None)
          j) (sym serves);
      agree = λ x i. ap (λ (rs : List Bool). get_or rs x false) dues ∙ v.agree x i ∙ ap (λ (rs : List Bool). get_or rs x false) (sym runs);
      rest = λ x none. ap (λ (rs : List Bool). get_or rs x false) dues ∙ v.rest x none;
      ticks = subst (λ (xs : List ℕ). AreOfPacks t xs) (sym dry) v.ticks;
      told = λ p i off. ap (λ (xs : List ℕ). get_or xs p 0) dry ∙ v.told p i (unmarked p off) ∙ same_dry p i off (get_or s.serves p None) refl
          ∙ ap (λ (os : List (Option ℕ)). dry_by t d' p (get_or os p None)) (sym serves);
      led = subst (λ (rs : List Bool). AreLed t rs) (sym runs) v.led;
      served = λ p i off. subst (λ (rs : List Bool). IsServed t d'.remains ends' rs p) (sym runs) (still_served t h d.remains ends d'.remains ends' s.runs p
          (λ k l. sym (on p k i off l).2) (λ k l. ap (ltb 0) (sym (on p k i off l).0)) (v.served p i (unmarked p off)));
    }

-- ---- by the calendar

-- a member has a rate
pub member_rate : (t : Tree) → IsTree t → (x : ℕ) → IsMember t x → 0 < rate t x
member_rate t h x i = go (kind_of (kind_at t x))
  where
    go : KindOf (kind_at t x) → 0 < rate t x
    go (inl a_leaf) = (h.leaves_are x (i.0, a_leaf)).1
    go (inr (inl a_dual)) =
        (let up = h.duals_are x (i.0, a_dual) in
        let both = h.has_dual (primal t x) x up.0 up.1 in
        let sum = both.2 in let less = both.3 in omega (arith, sum, less))
    go (inr (inr a_pack)) = absurd (both_ways (is_pack (kind_at t x)) i.1 a_pack)

module _ (p : PlanContents) (h : IsPlan p) where
  -- a window's end is near
  pub end_near : (c : CalendarContents) → BelongsTo p c → (x : ℕ) → IsMember p.tree x → get_or c.ends x 0 < never
  end_near c b x i =
      let w = (b.windows x i).end in
      let has = member_boundaries p h x i in
      let short = short_window (boundary_of p x) has c.unit in
      let begun = (begin_is (boundary_of p x) has.first c.unit).below in
      let early = b.unit_fits in
      let fits = h.lawful.horizon_fits in
      omega (arith, w, short, begun, early, fits)

  -- where no boundary is at the next unit, the window goes on
  pub end_goes_on : (c c' : CalendarContents) → BelongsTo p c → BelongsTo p c' → c'.unit ≡ c.next → (x : ℕ) → IsMember p.tree x →
      c.next ≤ window_end (boundary_of p x) c.unit → boundary_of p x c.next ≡ false → get_or c'.ends x 0 ≡ get_or c.ends x 0
  end_goes_on c c' b b' unit x i late off =
      let has = member_boundaries p h x i in
      let w = windows_of (boundary_of p x) has in
      let begun = w.begun c.unit in
      let above = b.next.above in
      let e = end_is (boundary_of p x) has c.unit in
      let later : c.next < window_end (boundary_of p x) c.unit = elim (cases_lt c.next (window_end (boundary_of p x) c.unit)) [
        | inl l ↦ l
        | inr m ↦ absurd (let same : c.next ≡ window_end (boundary_of p x) c.unit = omega (arith, m, late) in both_ways (boundary_of p x c.next) off
            (ap (boundary_of p x) same ∙ e.here))
      ] in
      (b'.windows x i).end ∙ ap (window_end (boundary_of p x)) unit ∙ w.same_end c.unit c.next (omega (arith, begun, above)) later ∙ sym (b.windows x i).end

  -- the due of a window is some ticks
  pub due_some : (c : CalendarContents) → BelongsTo p c → (x : ℕ) → IsMember p.tree x → 0 < due_of p.tree c.begins c.ends x
  due_some c b x i =
      let w = b.windows x i in
      let begin = w.begin in
      let end = w.end in
      let has = member_boundaries p h x i in
      let below = (begin_is (boundary_of p x) has.first c.unit).below in
      let above = (end_is (boundary_of p x) has c.unit).above in
      let long : 1 ≤ get_or c.ends x 0 - get_or c.begins x 0 = omega (arith, begin, end, below, above) in
      let some = member_rate p.tree h.tree.tree x i in
      mul-pos some long

-- ---- what the calendar lists

-- the code's list gave dues to those that are marked, and to no other
pub listed_refilled : (t : Tree) (begins ends begun remains : List ℕ) (ready : List (List ℕ)) (stale : List Bool) (remains' : List ℕ)
    (ready' : List (List ℕ)) (stale' due : List Bool) → length due ≡ length t.nodes → AreListed due begun →
    ((x : ℕ) → x < length t.nodes → get_or due x false ≡ true → is_pack (kind_at t x) ≡ false) →
    AreBegun t begins ends begun remains ready stale remains' ready' stale' (length begun) → AreRefilled t begins ends due remains remains' (length t.nodes)
listed_refilled t begins ends begun remains ready stale remains' ready' stale' due long listed member a = record {
  same = a.same;
  filled = λ x l on. (let at = listed.all x on in a.filled at.0 x at.1 at.2 (l, member x l on));
  kept = λ x l off. a.kept x (not_listed x off);
  above = λ x past. a.kept x (not_listed x (get_or_past due x false (elim (cases_lt x (length t.nodes))
      [ inl l ↦ absurd (past l) | inr m ↦ omega (arith, m, long) ])));
}
  where
    not_listed : (x : ℕ) → get_or due x false ≡ false → (j : ℕ) → j < length begun → get_or begun j 0 ≢ x
    not_listed x off j l e = both_ways (get_or due x false) off (ap (λ y. get_or due y false) (sym e) ∙ listed.marked j l)
