-- What is kept of packs at tick 0.
use Rattle.std.proofs.Common.{◌≡◌, ℕ, ◌+◌, ◌-◌, ◌<◌, not, Bool, true, false, List, [], length, replicate, get_or, Option, Some, None, refl, ap, arith}
use Rattle.std.proofs.Common.{inl, inr, sym, subst, subst₂, zero-add, ◌∙◌}
use Rattle.std.specs.List.{range_with_len}
use Rattle.std.proofs.lemmas.Bool.{cases_Bool, cases_lt, both_ways, not-true}
use Rattle.std.proofs.lemmas.List.{length-replicate, get_or-replicate, get_or_past}
use Rattle.std.proofs.Math.ListN.{set}
use Rattle.std.proofs.lemmas.List.FromFn.{get_or-range_with_len}
use Rattle.sched_base.specs.declared.candidates.Candidate.{Candidate}
use Rattle.sched_base.specs.Candidates.{candidate_at, is_at}
use Rattle.run_tree.specs.Tree.{Tree, IsTree, IsPack, IsMember, kind_at, is_pack, home, place, dual, members, member}
use Rattle.run_tree.specs.Runs.{unless_dual}
use Rattle.run_tree.specs.Plans.{PlanContents, IsPlan}
use Rattle.knockout.specs.Knockouts.{never}
use Rattle.edf_pick.proofs.ReadyLemmas.{ready_none}
use Rattle.server_budget.specs.Dues.{DueContents}
use Rattle.tree_select.specs.Selected.{candidates}
use Rattle.tree_select.proofs.MarkedLemmas.{dual_is}
use Rattle.release_calendar.specs.Calendars.{CalendarContents, BelongsTo}
use Rattle.event_core.specs.Serving.{ServingContents, due_of, no_tick, IsServing, IsBlank, AreBegun}
use Rattle.event_core.proofs.BegunLemmas.{begun_step, begun_skip, begun_places}
use Rattle.event_core.proofs.DryLemmas.{candidate_is, candidates_long}
use Rattle.event_core.proofs.TurnedLemmas.{turned_serving, end_near, due_some}

-- the place of the last member tells how many there are
pub last_place : (p : PlanContents) → IsPlan p → (q : ℕ) → IsPack p.tree q → (0 < length (members p.tree q)) × IsMember p.tree
    (member p.tree q (length (members p.tree q) - 1)) × (place p.tree (member p.tree q (length (members p.tree q) - 1)) + 1 ≡ length (members p.tree q))
last_place p h q i =
    let some = h.tree.tree.filled q i in
    let its = h.tree.tree.members_are q (length (members p.tree q) - 1) i (omega (arith, some)) in
    (some, its.0, (let e = its.2 in omega (arith, e, some)))

-- all nodes, in order
pub in_order : (t : Tree) (x : ℕ) → x < length t.nodes → x ≡ get_or (range_with_len 0 (length t.nodes)) x 0
in_order t x l = sym (get_or-range_with_len 0 (length t.nodes) x 0 l ∙ zero-add x)

-- a node that is a member
pub member_is : (t : Tree) (x : ℕ) → x < length t.nodes → not (is_pack (kind_at t x)) ≡ true → IsMember t x
member_is t x l e = (l, not-true (is_pack (kind_at t x)) e)

-- one node more, whose first window begins where it is a leaf or a dual
pub begun_next : (t : Tree) → IsTree t → (begins ends remains : List ℕ) (ready : List (List ℕ)) (stale : List Bool) (remains' : List ℕ)
    (ready' : List (List ℕ)) (stale' : List Bool) (remains'' : List ℕ) (ready'' : List (List ℕ)) (stale'' : List Bool) (x : ℕ) →
    x < length t.nodes → length remains' ≡ length t.nodes → length ready' ≡ length t.nodes → length stale' ≡ length t.nodes →
    ((y : ℕ) → IsMember t y → place t y < length (get_or ready (home t y) [])) →
    (is_pack (kind_at t x) ≡ false → remains'' ≡ set remains' x (due_of t begins ends x)) →
    (is_pack (kind_at t x) ≡ false → ready'' ≡ set ready' (home t x) (set (get_or ready' (home t x) []) (place t x) (get_or ends x 0))) →
    (is_pack (kind_at t x) ≡ false → stale'' ≡ set stale' (home t x) true) →
    (is_pack (kind_at t x) ≡ true → (remains'' ≡ remains') × (ready'' ≡ ready') × (stale'' ≡ stale')) →
    AreBegun t begins ends (range_with_len 0 (length t.nodes)) remains ready stale remains' ready' stale' x → AreBegun t begins ends
    (range_with_len 0 (length t.nodes)) remains ready stale remains'' ready'' stale'' (x + 1)
begun_next t h begins ends remains ready stale remains' ready' stale' remains'' ready'' stale'' x l long_r long_k long_s places er ek es pack was =
    elim (cases_Bool (is_pack (kind_at t x))) [
      | inr off ↦ begun_step t h begins ends (range_with_len 0 (length t.nodes)) remains ready stale remains' ready' stale' remains'' ready'' stale'' x x (
        l,
        off,
      ) (in_order t x l) long_r long_k long_s
          (begun_places t ready ready' x was.long (places x (l, off))) (er off) (ek off) (es off) was
      | inl on ↦
          (let same = pack on in
          let skip = begun_skip t begins ends (range_with_len 0 (length t.nodes)) remains ready stale remains' ready' stale' x
          (λ i. both_ways (is_pack (kind_at t x)) (ap (λ y. is_pack (kind_at t y)) (in_order t x l) ∙ i.1) on) was in
          let P : List ℕ → List (List ℕ) → List Bool → Type 0 = λ r k m. AreBegun t begins ends (range_with_len 0 (length t.nodes)) remains ready stale r k m
          (x + 1) in
          subst (λ (m : List Bool). P remains'' ready'' m) (sym same.2) (subst₂ (λ (r : List ℕ) (k : List (List ℕ)). P r k stale') (sym same.0) (sym same.1)
          skip))
    ]

-- the place of a member stands in its pack's knockout
pub blank_places : (t : Tree) → IsTree t → (s : ServingContents) → IsBlank t s → (x : ℕ) → IsMember t x → place t x < length (get_or s.ready (home t x) [])
blank_places t h s b x i =
    let at = h.homes_are x i in
    let e = ap (λ (ks : List ℕ). length ks) (b.ready (home t x) at.0) ∙ length-replicate {A = ℕ} (length (members t (home t x))) never in
    let l = at.1 in
    omega (arith, e, l)

module _ (p : PlanContents) (h : IsPlan p) (s : ServingContents) (b : IsBlank p.tree s) (d : DueContents) (none_left : d.remains ≡ replicate
    (length p.tree.nodes) 0) (none_run : d.runs ≡ replicate (length p.tree.nodes) false) (ends : List ℕ)
    (near : (x : ℕ) → IsMember p.tree x → get_or ends x 0 < never) where
  no_run : (x : ℕ) → get_or d.runs x false ≡ false
  no_run x = ap (λ (rs : List Bool). get_or rs x false) none_run ∙ all_false (length p.tree.nodes) x
    where
      all_false : (n x : ℕ) → get_or (replicate n false) x false ≡ false
      all_false n x = elim (cases_lt x n) [
        | inl l ↦ get_or-replicate n x false false l
        | inr m ↦ get_or_past (replicate n false) x false (let e = length-replicate {A = Bool} n false in omega (arith, e, m))
      ]

  member_rests : (x : ℕ) → IsMember p.tree x → get_or s.runs x false ≡ false
  member_rests x i = b.runs x i.0 ∙ i.1

  nothing : (x : ℕ) → IsMember p.tree x → get_or d.remains x 0 ≡ 0
  nothing x i = ap (λ (rs : List ℕ). get_or rs x 0) none_left ∙ get_or-replicate (length p.tree.nodes) x 0 0 i.0

  none_served : (q : ℕ) → IsPack p.tree q → get_or s.serves q None ≡ None
  none_served q i = ap (λ (os : List (Option ℕ)). get_or os q None) b.serves ∙ get_or-replicate (length p.tree.nodes) q None None i.0

  pub blank_serving : IsServing p.tree d ends s
  blank_serving = record {
    picks = λ q i. record {
      long = ap (λ (ks : List ℕ). length ks) (b.ready q i) ∙ length-replicate {A = ℕ} (length (members p.tree q)) never
          ∙ sym (candidates_long p.tree d.remains ends q);
      each = λ k l. (let m = within q k l in
          ap (λ (ks : List ℕ). get_or ks k 0) (b.ready q i) ∙ get_or-replicate (length (members p.tree q)) k never 0 m
          ∙ sym (ready_none (candidate_at (candidates p.tree d.remains ends q) k)
          (ap (λ (c : Candidate). c.remain) (candidate_is p.tree d.remains ends q k m) ∙ nothing (member p.tree q k) (h.tree.tree.members_are q k i m).0)));
      near = λ k l. (let m = within q k l in
          let e = ap (λ (c : Candidate). c.end) (candidate_is p.tree d.remains ends q k m) in
          let n = near (member p.tree q k) (h.tree.tree.members_are q k i m).0 in
          omega (arith, e, n));
    };
    within = λ q j i e. absurd (let z : None ≡ Some j = sym (none_served q i) ∙ e in cc);
    at = λ q j i l. member_rests (member p.tree q j) (h.tree.tree.members_are q j i l).0 ∙ sym (ap (λ o. is_at o j) (none_served q i));
    agree = λ x i. no_run x ∙ sym (member_rests x i);
    rest = λ x none. no_run x;
    ticks = record {
      long = ap (λ (xs : List ℕ). length xs) b.dry ∙ length-replicate {A = ℕ} (length p.tree.nodes) no_tick;
      members = λ x i. ap (λ (xs : List ℕ). get_or xs x 0) b.dry ∙ get_or-replicate (length p.tree.nodes) x no_tick 0 i.0;
    };
    told = λ q i off. absurd (both_ways (get_or s.stale q false) off (ap (λ (xs : List Bool). get_or xs q false) b.stale ∙ get_or-replicate
        (length p.tree.nodes) q true false i.0));
    led = λ q i. b.runs q i.0 ∙ i.1 ∙ sym (by_dual q i (dual p.tree q) refl);
    served = λ q i off. absurd (both_ways (get_or s.stale q false) off (ap (λ (xs : List Bool). get_or xs q false) b.stale ∙ get_or-replicate
        (length p.tree.nodes) q true false i.0));
  }
    where
      within : (q k : ℕ) → k < length (candidates p.tree d.remains ends q) → k < length (members p.tree q)
      within q k l = (let e = candidates_long p.tree d.remains ends q in omega (arith, e, l))

      by_dual : (q : ℕ) → IsPack p.tree q → (o : Option ℕ) → dual p.tree q ≡ o → unless_dual o (λ x. get_or s.runs x false) ≡ true
      by_dual q i None e = refl
      by_dual q i (Some x) e = ap not (member_rests x (dual_is p.tree h.tree.tree q x i e).0)

-- once the first windows of all leaves and duals have begun
module _ (p : PlanContents) (h : IsPlan p) (s s' : ServingContents) (b : IsBlank p.tree s) (d d' : DueContents) (none_left : d.remains ≡ replicate
    (length p.tree.nodes) 0) (none_run : d.runs ≡ replicate (length p.tree.nodes) false)
    (c : CalendarContents) (belongs : BelongsTo p c) (tick : d'.tick ≡ d.tick) (dues : d'.runs ≡ d.runs) (serves : s'.serves ≡ s.serves)
    (dry : s'.dry ≡ s.dry) (runs : s'.runs ≡ s.runs)
    (a : AreBegun p.tree c.begins c.ends (range_with_len 0 (length p.tree.nodes)) d.remains s.ready s.stale d'.remains s'.ready s'.stale
    (length p.tree.nodes)) where
  in_range : (x : ℕ) → x < length p.tree.nodes → get_or (range_with_len 0 (length p.tree.nodes)) x 0 ≡ x
  in_range x l = sym (in_order p.tree x l)

  pub first_filled : (x : ℕ) → IsMember p.tree x → get_or d'.remains x 0 ≡ due_of p.tree c.begins c.ends x
  first_filled x i = a.filled x x i.0 (in_range x i.0) i

  pub first_serving : IsServing p.tree d' c.ends s'
  first_serving =
      turned_serving p.tree h.tree.tree d d' c.ends c.ends s s' (blank_serving p h s b d none_left none_run c.ends (λ x i. end_near p h c belongs x i))
      (λ x i. inl (
        (let e = first_filled x i in let l = due_some p h c belongs x i in omega (arith, e, l)),
        a.put x x i.0 (in_range x i.0) i,
        a.marked x x i.0 (in_range x i.0) i,
      ))
      (λ x i. end_near p h c belongs x i) a.long a.unmarked tick dues serves dry runs

  -- all packs are still marked
  pub first_marked : (q : ℕ) → IsPack p.tree q → get_or s'.stale q false ≡ false → ⊥
  first_marked q i off = both_ways (get_or s.stale q false) (a.unmarked q off) (ap (λ (xs : List Bool). get_or xs q false) b.stale ∙ get_or-replicate
      (length p.tree.nodes) q true false i.0)
