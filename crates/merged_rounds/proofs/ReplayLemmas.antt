-- Rounds of the first hyperperiod come again, whatever the places are.
use Rattle.std.proofs.Common.{◌≡◌, ℕ, zero, suc, ◌+◌, ◌-◌, ◌*◌, ◌<◌, ◌≤◌, ◌^◌, ◌&&◌, ◌++◌, not, inl, inr, Bool, true, false, List, [], ◌∷◌, filter}
use Rattle.std.proofs.Common.{length, length-append, get_or, Option, None, Some, refl, sym, ap, ap₂, subst, ◌∙◌, arith, mul-le-mul_right, le_of_lt}
use Rattle.std.specs.List.{range_with_len}
use Rattle.std.proofs.lemmas.Bool.{cases_Bool, cases_eq, cases_lt, both_ways}
use Rattle.sched_base.specs.declared.rows.Leaf.{Leaf}
use Rattle.sched_base.specs.declared.rows.Row.{Row}
use Rattle.sched_base.specs.Counting.{bit}
use Rattle.sched_base.specs.Places.{Placing, is_held, is_running, place}
use Rattle.sched_base.proofs.CountingLemmas.{bit_at, bit_off}
use Rattle.sched_base.proofs.HeldLemmas.{held, held-zero, held_some}
use Rattle.sched_base.proofs.ListLemmas.{same_map}
use Rattle.run_tree.specs.Boundaries.{set_boundary}
use Rattle.run_tree.specs.Plans.{IsPlan, PlanContents, stop_of}
use Rattle.run_tree.specs.Runs.{runs}
use Rattle.run_tree.specs.Schedule.{leaf_among, leaf_on, onto_at, packs_at, packs_running}
use Rattle.run_tree.specs.Tree.{leaf, members}
use Rattle.run_tree.proofs.ScheduleLemmas.{once_below, onto_is}
use Rattle.run_tree.proofs.TreeLemmas.{first_is_pack}
use Rattle.sched_laws.proofs.BetweenEvents.{set_runs_still}
use Rattle.sched_laws.proofs.PlacedPacks.{held_onto}
use Rattle.hyperperiod_laws.proofs.LaterPlaces.{packs_again, shown_on_time}
use Rattle.hyperperiod_laws.proofs.LaterRuns.{runs_again}
use Rattle.cpu_assign.specs.Changed.{AreChanged, ChangeLists, with_pack}
use Rattle.event_core.specs.Cores.{places_of}
use Rattle.event_core.specs.Rounds.{IsRoundUpTo}
use Rattle.event_core.specs.Serving.{IsAmong}
use Rattle.event_core.proofs.PlaceAgain.{place_again}
use Rattle.event_core.proofs.QuietRounds.{plan_leaves}
use Rattle.event_core.proofs.SettledPacks.{few_pass, filter_range, listed_step, none_listed}
use Rattle.merged_rounds.specs.Laps.{AreTurns, CanComeRound}
use Rattle.round_looks.specs.Looks.{leaf_at}
use Rattle.merged_rounds.specs.Replays.{AreNotedTo, IsPackOn, packs_of}
use Rattle.merged_rounds.specs.Shown.{is_some}
use Rattle.merged_rounds.proofs.LapLemmas.{early, leaf_is, recurs}

-- ---- packs that are on processors run

held_is : (onto : List (Option ℕ)) (i : ℕ) (on : Bool) → held onto i ≡ bit on → is_held onto i ≡ on
held_is onto i true e = elim (cases_Bool (is_held onto i)) [
  | inl yes' ↦ yes'
  | inr no' ↦ (let z = held-zero onto i no' in let o = bit_at true refl in absurd (omega (arith, z, o, e)))
]
held_is onto i false e = elim (cases_Bool (is_held onto i)) [
  | inl yes' ↦ (let s = held_some onto i yes' in let o = bit_off false refl in absurd (omega (arith, s, o, e)))
  | inr no' ↦ no'
]

pub held_runs : (p : PlanContents) → IsPlan p → (n k : ℕ) → is_held (onto_at (set_boundary p.set.tasks) p.tree n) k ≡ is_running
    (packs_running (set_boundary p.set.tasks) p.tree n) k
held_runs p h n k = held_is (onto_at (set_boundary p.set.tasks) p.tree n) k _ (held_onto (set_boundary p.set.tasks) p.tree h.tree.tree (plan_leaves p h) n k)

-- ---- within a round the places stay

module _ (p : PlanContents) (h : IsPlan p) (start end : ℕ) (round : IsRoundUpTo p start end) where
  fits : (n : ℕ) → n < end → n < 2 ^ 33 * p.tree.scale
  fits n l =
      let below = round.below in
      let most : p.set.horizon * p.tree.scale ≤ 2 ^ 32 * p.tree.scale = mul-le-mul_right p.tree.scale (le_of_lt h.lawful.horizon_fits) in
      omega (arith, below, most, l)

  running_quiet : (j : ℕ) → start + j < end → packs_running (set_boundary p.set.tasks) p.tree (start + j) ≡ packs_running (set_boundary p.set.tasks) p.tree
      start
  running_quiet zero l = let e : start + 0 ≡ start = omega arith in ap (packs_running (set_boundary p.set.tasks) p.tree) e
  running_quiet (suc j) l =
      let e : start + suc j ≡ start + j + 1 = omega arith in
      ap (packs_running (set_boundary p.set.tasks) p.tree) e
      ∙ same_map (λ q. runs (set_boundary p.set.tasks) p.tree q (start + j + 1)) (λ q. runs (set_boundary p.set.tasks) p.tree q (start + j)) (packs_at p.tree 0)
      (λ k b. set_runs_still p.set h.lawful p.tree h.tree (start + j) (fits (start + j + 1) (omega (arith, l))) (round.quiet (start + j + 1) (omega arith)
      (omega (arith, l))) (get_or (packs_at p.tree 0) k 0) (first_is_pack p.tree h.tree.tree k b).0)
      ∙ running_quiet j (omega (arith, l))

  places_quiet : (j : ℕ) → start + j < end → places_of p (start + suc j) ≡ place (packs_running (set_boundary p.set.tasks) p.tree start) (places_of p start)
  places_quiet zero l = let e : start + 1 ≡ suc start = omega arith in ap (places_of p) e
  places_quiet (suc j) l =
      let e : start + suc (suc j) ≡ suc (start + suc j) = omega arith in
      ap (places_of p) e
      ∙ ap₂ place (running_quiet (suc j) l) (places_quiet j (omega (arith, l)))
      ∙ place_again (packs_running (set_boundary p.set.tasks) p.tree start) (places_of p start) (once_below (set_boundary p.set.tasks) p.tree start)

  pub places_end : places_of p end ≡ place (packs_running (set_boundary p.set.tasks) p.tree start) (places_of p start)
  places_end = let up = round.above in let e : end ≡ start + suc (end - start - 1) = omega (arith, up) in ap (places_of p) e
      ∙ places_quiet (end - start - 1) (omega (arith, up))

  -- and are those in the round
  pub onto_end : (places_of p end).onto ≡ onto_at (set_boundary p.set.tasks) p.tree start
  onto_end = ap (λ (w : Placing). w.onto) places_end ∙ sym (onto_is (set_boundary p.set.tasks) p.tree start)

-- ---- what packs show comes again

module _ (p : PlanContents) (h : IsPlan p) (can : CanComeRound p) (ticks : ℕ) (turns : AreTurns p ticks) (n : ℕ) (l : n + ticks < stop_of p) where
  running_later : packs_running (set_boundary p.set.tasks) p.tree (n + ticks) ≡ packs_running (set_boundary p.set.tasks) p.tree n
  running_later =
      let e = turns.are in
      ap (λ d. packs_running (set_boundary p.set.tasks) p.tree (n + d)) e
      ∙ packs_again p.set.tasks p.tree turns.units 0 (recurs p h can ticks turns n l) n (omega arith) (early p h can ticks turns n l)

  run_later : (x : ℕ) → x < length p.tree.nodes → runs (set_boundary p.set.tasks) p.tree x (n + ticks) ≡ runs (set_boundary p.set.tasks) p.tree x n
  run_later x in_tree =
      let e = turns.are in
      ap (λ d. runs (set_boundary p.set.tasks) p.tree x (n + d)) e
      ∙ runs_again p.set.tasks p.tree turns.units 0 (recurs p h can ticks turns n l) n x (omega arith) (early p h can ticks turns n l) in_tree

  among_later : (ms : List ℕ) → ((k : ℕ) → k < length ms → get_or ms k 0 < length p.tree.nodes) → leaf_among (set_boundary p.set.tasks) p.tree (n + ticks)
      ms ≡ leaf_among (set_boundary p.set.tasks) p.tree n ms
  among_later [] there = refl
  among_later (x ∷ xs) there =
      ap (λ (b : Bool). elim b as (λ y. Leaf) [ true ↦ leaf p.tree x | false ↦ leaf_among (set_boundary p.set.tasks) p.tree (n + ticks) xs ])
      (run_later x (there 0 (omega arith)))
      ∙ ap (λ (l : Leaf). elim (runs (set_boundary p.set.tasks) p.tree x n) as (λ y. Leaf) [ true ↦ leaf p.tree x | false ↦ l ])
      (among_later xs (λ k b. there (suc k) (omega (arith, b))))

  held_later : (k : ℕ) → is_held (onto_at (set_boundary p.set.tasks) p.tree (n + ticks)) k ≡ is_held (onto_at (set_boundary p.set.tasks) p.tree n) k
  held_later k = held_runs p h (n + ticks) k ∙ ap (λ (rs : List Bool). is_running rs k) running_later ∙ sym (held_runs p h n k)

  pub pack_later : (k : ℕ) (o : Option Leaf) → k < packs_of p → IsPackOn p n k o → IsPackOn p (n + ticks) k o
  pack_later k o in_level on =
      let pack = get_or (packs_at p.tree 0) k 0 in
      let is = first_is_pack p.tree h.tree.tree k in_level in
      record {
        none = λ e. held_later k ∙ on.none e;
        held = λ leaf e. held_later k ∙ on.held leaf e;
        leaf = λ leaf e. among_later (members p.tree pack) (λ j b. (h.tree.tree.members_are pack j is b).0.0) ∙ on.leaf leaf e;
      }

-- ---- what a processor shows by the pack on it

module _ (p : PlanContents) (h : IsPlan p) (can : CanComeRound p) (start end q k : ℕ) (none : Row) (l : q < p.tree.processors) where
  pub leaf_of : get_or (onto_at (set_boundary p.set.tasks) p.tree start) q None ≡ Some k → leaf_at p start end q none ≡ leaf_on (set_boundary p.set.tasks)
      p.tree start (Some k)
  leaf_of at =
      leaf_is p start end q none l
      ∙ shown_on_time p.set.tasks p.tree.scale can.on_time start _
      ∙ ap (leaf_on (set_boundary p.set.tasks) p.tree start) at

-- ---- the packs that changed

-- what a pack shows is one thing
pub pack_once : (p : PlanContents) (n k : ℕ) (o o' : Option Leaf) → IsPackOn p n k o → IsPackOn p n k o' → o ≡ o'
pack_once p n k None None a b = refl
pack_once p n k None (Some l) a b = absurd (both_ways (is_held (onto_at (set_boundary p.set.tasks) p.tree n) k) (a.none refl) (b.held l refl))
pack_once p n k (Some l) None a b = absurd (both_ways (is_held (onto_at (set_boundary p.set.tasks) p.tree n) k) (b.none refl) (a.held l refl))
pack_once p n k (Some l) (Some m) a b = ap (λ (x : Leaf). Some x) (sym (a.leaf l refl) ∙ b.leaf m refl)

get_left : (xs : List ℕ) (x k : ℕ) → k < length xs → get_or (xs ++ x ∷ []) k 0 ≡ get_or xs k 0
get_left [] x k l = absurd (omega (arith, l))
get_left (y ∷ xs) x zero l = refl
get_left (y ∷ xs) x (suc k) l = get_left xs x k (omega (arith, l))

get_last : (xs : List ℕ) (x : ℕ) → get_or (xs ++ x ∷ []) (length xs) 0 ≡ x
get_last [] x = refl
get_last (y ∷ xs) x = get_last xs x

among_more : (xs : List ℕ) (x y : ℕ) → IsAmong xs y → IsAmong (xs ++ x ∷ []) y
among_more xs x y (k, l, e) = let n = length-append xs (x ∷ []) in (k, omega (arith, n, l), get_left xs x k l ∙ e)

among_last : (xs : List ℕ) (x : ℕ) → IsAmong (xs ++ x ∷ []) x
among_last xs x = let n = length-append xs (x ∷ []) in (length xs, omega (arith, n), get_last xs x)

same_some : (before now : List (Option Leaf)) (k : ℕ) → get_or now k None ≡ get_or before k None → is_some (get_or now k None) ≡ is_some (get_or before k None)
same_some before now k e = ap is_some e

not_stopped : (a b : Bool) → a ≡ b → (not a && b) ≡ false
not_stopped true b e = refl
not_stopped false b e = sym e

not_begun : (a b : Bool) → a ≡ b → (a && not b) ≡ false
not_begun false b e = refl
not_begun true b e = ap not (sym e)

module _ (before now : List (Option Leaf)) where
  abbrev stops : ℕ → Bool
  stops i = not (is_some (get_or now i None)) && is_some (get_or before i None)

  abbrev begins : ℕ → Bool
  begins i = is_some (get_or now i None) && not (is_some (get_or before i None))

  no_item : (xs : List ℕ) (k : ℕ) → xs ≡ [] → k < length xs → ⊥
  no_item xs k e l = let n = ap (λ (ys : List ℕ). length ys) e in omega (arith, n, l)

  pub noted_none : (c : ChangeLists) → c.seen ≡ [] → c.stopped ≡ [] → c.begun ≡ [] → AreNotedTo before now 0 c
  noted_none c seen stopped begun = record {
    same = λ k l. absurd (omega (arith, l));
    within = λ k l. absurd (no_item c.seen k seen l);
    stops = stopped;
    begins = begun;
  }

  pub noted_skip : (n m : ℕ) (c : ChangeLists) → n ≤ m → ((k : ℕ) → n ≤ k → k < m → get_or now k None ≡ get_or before k None) → AreNotedTo before now n c →
      AreNotedTo before now m c
  noted_skip n m c after still a =
      let total : n + (m - n) ≡ m = omega (arith, after) in
      record {
        same = λ k l no. elim (cases_lt k n) [
          | inl low ↦ a.same k low no
          | inr high ↦ still k high l
        ];
        within = λ k l. (let w = a.within k l in omega (arith, w, after));
        stops = none_listed stops n (m - n) (λ k low high. not_stopped _ _ (same_some before now k (still k low (omega (arith, high, total))))) c.stopped
            a.stops ∙ ap (λ j. filter stops (range_with_len 0 j)) total;
        begins = none_listed begins n (m - n) (λ k low high. not_begun _ _ (same_some before now k (still k low (omega (arith, high, total))))) c.begun
            a.begins ∙ ap (λ j. filter begins (range_with_len 0 j)) total;
      }

  pub noted_step : (n : ℕ) (c c' : ChangeLists) → c'.seen ≡ c.seen ++ n ∷ [] → c'.stopped ≡ with_pack c.stopped n (stops n) → c'.begun ≡ with_pack c.begun n
      (begins n) → AreNotedTo before now n c → AreNotedTo before now (n + 1) c'
  noted_step n c c' seen stopped begun a = record {
    same = λ k l no. elim (cases_eq k n) [
      | inl e ↦ absurd (no (subst (λ (xs : List ℕ). IsAmong xs k) (sym seen) (subst (λ y. IsAmong (c.seen ++ n ∷ []) y) (sym e) (among_last c.seen n))))
      | inr ne ↦ a.same k (omega (arith, l, ne)) (λ m. no (subst (λ (xs : List ℕ). IsAmong xs k) (sym seen) (among_more c.seen n k m)))
    ];
    within = λ k m. subst (λ (xs : List ℕ). k < length xs → get_or xs k 0 < n + 1) (sym seen) (λ b. elim (cases_lt k (length c.seen)) [
      | inl low ↦ (let e = get_left c.seen n k low in let w = a.within k low in omega (arith, e, w))
      | inr high ↦
          (let long = length-append c.seen (n ∷ []) in
          let e = ap (λ j. get_or (c.seen ++ n ∷ []) j 0) (let f : k ≡ length c.seen = omega (arith, b, long, high) in f) ∙ get_last c.seen n in
          omega (arith, e))
    ]) m;
    stops = listed_step stops stops c.stopped c'.stopped n (stops n) (λ k m. refl) refl a.stops stopped;
    begins = listed_step begins begins c.begun c'.begun n (begins n) (λ k m. refl) refl a.begins begun;
  }

  pub few_stopped : (n : ℕ) (c : ChangeLists) → AreNotedTo before now n c → length c.stopped ≤ n
  few_stopped n c a = let e = ap (λ (xs : List ℕ). length xs) a.stops in let f = few_pass stops n 0 in omega (arith, e, f)

  pub few_begun : (n : ℕ) (c : ChangeLists) → AreNotedTo before now n c → length c.begun ≤ n
  few_begun n c a = let e = ap (λ (xs : List ℕ). length xs) a.begins in let f = few_pass begins n 0 in omega (arith, e, f)

  -- so the packs that run by what they show are placed
  pub changed_by : (rs : List Bool) (onto : List (Option ℕ)) (n : ℕ) (c : ChangeLists) → length rs ≡ n → ((k : ℕ) → k < n → is_running rs k ≡ is_some
      (get_or now k None)) → ((k : ℕ) → k < n → is_held onto k ≡ is_some (get_or before k None)) →
      AreNotedTo before now n c → AreChanged rs onto c
  changed_by rs onto n c long on held_by a = record {
    stops = a.stops
        ∙ filter_range stops (λ i. not (is_running rs i) && is_held onto i) n 0 (λ k low high. ap₂ (λ (x y : Bool). not x && y)
        (sym (on k (omega (arith, high)))) (sym (held_by k (omega (arith, high)))))
        ∙ ap (λ m. filter (λ i. not (is_running rs i) && is_held onto i) (range_with_len 0 m)) (sym long);
    begins = a.begins
        ∙ filter_range begins (λ i. is_running rs i && not (is_held onto i)) n 0 (λ k low high. ap₂ (λ (x y : Bool). x && not y)
        (sym (on k (omega (arith, high)))) (sym (held_by k (omega (arith, high)))))
        ∙ ap (λ m. filter (λ i. is_running rs i && not (is_held onto i)) (range_with_len 0 m)) (sym long);
  }

-- what packs from number n on show now doesn't matter
pub noted_by : (before now now' : List (Option Leaf)) (n : ℕ) (c : ChangeLists) → ((k : ℕ) → k < n → get_or now' k None ≡ get_or now k None) →
    AreNotedTo before now n c → AreNotedTo before now' n c
noted_by before now now' n c is a = record {
  same = λ k l no. is k l ∙ a.same k l no;
  within = a.within;
  stops = a.stops ∙ filter_range (stops before now) (stops before now') n 0 (λ k low high. ap (λ (o : Option Leaf). not (is_some o) && is_some
      (get_or before k None)) (sym (is k (omega (arith, high)))));
  begins = a.begins ∙ filter_range (begins before now) (begins before now') n 0 (λ k low high. ap (λ (o : Option Leaf). is_some o && not
      (is_some (get_or before k None))) (sym (is k (omega (arith, high)))));
}
