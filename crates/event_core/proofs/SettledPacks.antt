-- Packs of level 0 that stop and begin, and those that are where they belong.
use Rattle.std.proofs.Common.{◌≡◌, ◌≢◌, ℕ, zero, suc, ◌+◌, ◌-◌, ◌<◌, ◌≤◌, ◌&&◌, ◌++◌, not, cond, Bool, true, false, List, [], ◌∷◌, filter, length}
use Rattle.std.proofs.Common.{get_or, Option, refl, ap, ap₂, arith, inl, inr, sym, ◌∙◌}
use Rattle.std.specs.List.{range_with_len}
use Rattle.std.proofs.lemmas.Bool.{cases_Bool, cases_lt, both_ways}
use Rattle.std.proofs.lemmas.List.{length-map, get_or-map, append-nil}
use Rattle.std.proofs.lemmas.List.Elements.{filter-append}
use Rattle.sched_base.specs.Counting.{bit}
use Rattle.sched_base.specs.Places.{is_held, is_running}
use Rattle.sched_base.proofs.CountingLemmas.{bit_at, bit_off}
use Rattle.sched_base.proofs.HeldLemmas.{held, held-zero, held_some}
use Rattle.sched_base.proofs.ListLemmas.{passing_on, passing_off}
use Rattle.run_tree.specs.Tree.{Tree, IsTree, level}
use Rattle.run_tree.specs.Boundaries.{set_boundary}
use Rattle.run_tree.specs.Schedule.{packs_at, packs_running, onto_at}
use Rattle.run_tree.specs.Plans.{PlanContents, IsPlan}
use Rattle.run_tree.proofs.TreeLemmas.{first_is_pack}
use Rattle.run_tree.proofs.ScheduleLemmas.{running_is}
use Rattle.sched_laws.proofs.PlacedPacks.{held_onto}
use Rattle.tree_select.specs.Marked.{AreFresh}
use Rattle.tree_select.proofs.LevelLemmas.{pack_of_level}
use Rattle.tree_select.proofs.PlaceLemmas.{packs_rise}
use Rattle.cpu_assign.specs.Changed.{ChangeLists, with_pack, AreChanged}
use Rattle.cpu_assign.proofs.BackLemmas.{range_more}
use Rattle.event_core.specs.Rounds.{event_at, IsRoundUpTo}
use Rattle.event_core.specs.Serving.{AreUnchanged, AreSettledFrom, first_runs, stops_below, begins_below}
use Rattle.event_core.specs.Cores.{SaysRuns}
use Rattle.event_core.specs.Steps.{packs_by}
use Rattle.event_core.proofs.QuietRounds.{plan_leaves}

-- ---- packs that go on

module _ (t : Tree) (h : IsTree t) (onto : List (Option ℕ)) (stale runs stale' runs' : List Bool) (p : ℕ) (s : AreUnchanged t p stale runs stale' runs') where
  -- a pack of another level is served
  pub settled_above : (l i : ℕ) → 1 ≤ l → i < length (packs_at t l) → p ≡ get_or (packs_at t l) i 0 → AreSettledFrom t onto stale runs 0 →
      AreSettledFrom t onto stale' runs' 0
  settled_above l i up b at settled j low c off =
      let q = get_or (packs_at t 0) j 0 in
      let is_pack = first_is_pack t h j c in
      let ne : q ≢ p = (λ e.
      let here = (pack_of_level t h l i b).1 in
      let there = (pack_of_level t h 0 j c).1 in
      let same = ap (level t) (e ∙ at) in
      omega (arith, here, there, same, up)) in
      settled j low c (s.unmarked q is_pack ne off) ∙ sym (s.unchanged q is_pack off)

-- ---- packs of level 0 stand once in their list

pub first_apart : (t : Tree) (i j : ℕ) → i < length (packs_at t 0) → j < length (packs_at t 0) → i ≢ j → get_or (packs_at t 0) i 0 ≢ get_or (packs_at t 0) j 0
first_apart t i j b c ne same = elim (cases_lt i j) [
  | inl l ↦ (let s = packs_rise t 0 i j l c in omega (arith, s, same))
  | inr l ↦ elim (cases_lt j i) [
    | inl m ↦ (let s = packs_rise t 0 j i m b in omega (arith, s, same))
    | inr m ↦ ne (omega (arith, l, m))
  ]
]

module _ (t : Tree) (h : IsTree t) (onto : List (Option ℕ)) (stale runs stale' runs' : List Bool) (p i : ℕ) (b : i < length (packs_at t 0))
    (at : p ≡ get_or (packs_at t 0) i 0) (s : AreUnchanged t p stale runs stale' runs') where
  -- pack i of level 0 is served
  pub settled_rest : AreSettledFrom t onto stale runs i → AreSettledFrom t onto stale' runs' (i + 1)
  settled_rest settled j low c off =
      let q = get_or (packs_at t 0) j 0 in
      let is_pack = first_is_pack t h j c in
      let ne : q ≢ p = (λ e. first_apart t j i c b (λ same. omega (arith, same, low)) (e ∙ at)) in
      settled j (omega (arith, low)) c (s.unmarked q is_pack ne off) ∙ sym (s.unchanged q is_pack off)

-- ---- lists of those that pass a test

pub filter_range : (f g : ℕ → Bool) (n a : ℕ) → ((k : ℕ) → a ≤ k → k < a + n → f k ≡ g k) → filter f (range_with_len a n) ≡ filter g (range_with_len a n)
filter_range f g zero a same = refl
filter_range f g (suc n) a same = ap₂ (λ (on : Bool) (ys : List ℕ). cond on (a ∷ ys) ys) (same a (omega arith) (omega arith)) (filter_range f g n (a + 1)
    (λ k low high. same k (omega (arith, low)) (omega (arith, high))))

-- one number more
pub listed_step : (f f' : ℕ → Bool) (xs xs' : List ℕ) (i : ℕ) (on : Bool) → ((k : ℕ) → k < i → f' k ≡ f k) → f' i ≡ on → xs ≡ filter f (range_with_len 0 i)
    → xs' ≡ with_pack xs i on → xs' ≡ filter f' (range_with_len 0 (i + 1))
listed_step f f' xs xs' i on same here e e' =
    e' ∙ ap₂ (λ (ys : List ℕ) (b : Bool). ys ++ cond b (i ∷ []) []) (e ∙ filter_range f f' i 0 (λ k low high. sym (same k (omega (arith, high))))) (sym here)
    ∙ sym (ap (filter f') (range_more i) ∙ filter-append f' (range_with_len 0 i) (i ∷ []))

-- no more than there are numbers
pub few_pass : (f : ℕ → Bool) (n a : ℕ) → length (filter f (range_with_len a n)) ≤ n
few_pass f zero a = omega arith
few_pass f (suc n) a =
    let ih = few_pass f n (a + 1) in
    elim (cases_Bool (f a)) [
      | inl on ↦ (let e = ap (λ (xs : List ℕ). length xs) (passing_on f a n on) in omega (arith, e, ih))
      | inr off ↦ (let e = ap (λ (xs : List ℕ). length xs) (passing_off f a n off) in omega (arith, e, ih))
    ]

-- numbers that don't pass
pub none_listed : (f : ℕ → Bool) (n d : ℕ) → ((k : ℕ) → n ≤ k → k < n + d → f k ≡ false) → (xs : List ℕ) → xs ≡ filter f (range_with_len 0 n) →
    xs ≡ filter f (range_with_len 0 (n + d))
none_listed f n zero off xs e = (let none : n ≡ n + zero = omega arith in e ∙ ap (λ m. filter f (range_with_len 0 m)) none)
none_listed f n (suc d) off xs e =
    let ih = none_listed f n d (λ k low high. off k low (omega (arith, high))) xs e in
    let more : n + d + 1 ≡ n + suc d = omega arith in
    listed_step f f xs xs (n + d) false (λ k m. refl) (off (n + d) (omega arith) (omega arith)) ih (sym (append-nil xs))
    ∙ ap (λ m. filter f (range_with_len 0 m)) more

-- a pack that goes on isn't listed
not_stopped : (r held : Bool) → held ≡ r → (not r && held) ≡ false
not_stopped true held e = refl
not_stopped false true e = e
not_stopped false false e = refl

not_begun : (r held : Bool) → held ≡ r → (r && not held) ≡ false
not_begun false held e = refl
not_begun true true e = refl
not_begun true false e = sym e

-- packs that aren't marked are passed over
pub fresh_skip : (t : Tree) (stale : List Bool) (l n m : ℕ) → AreFresh t stale l n → ((k : ℕ) → n ≤ k → k < m → get_or stale (get_or (packs_at t l) k 0)
    false ≡ false) → AreFresh t stale l m
fresh_skip t stale l n m fresh skipped p i (inl high) = fresh p i (inl high)
fresh_skip t stale l n m fresh skipped p i (inr (k, b, e)) = elim (cases_lt k n) [
  | inl low ↦ fresh p i (inr (k, low, e))
  | inr high ↦ ap (λ x. get_or stale x false) (sym e) ∙ skipped k (omega (arith, high)) b
]

module _ (t : Tree) (onto : List (Option ℕ)) (stale runs : List Bool) (n m : ℕ) (after : n ≤ m) (within : m ≤ length (packs_at t 0))
    (skipped : (k : ℕ) → n ≤ k → k < m → get_or stale (get_or (packs_at t 0) k 0) false ≡ false) (settled : AreSettledFrom t onto stale runs n) where
  go_on : (k : ℕ) → n ≤ k → k < n + (m - n) → is_held onto k ≡ first_runs t runs k
  go_on k low high = settled k low (omega (arith, high, after, within)) (skipped k low (omega (arith, high, after)))

  total : n + (m - n) ≡ m
  total = omega (arith, after)

  pub settled_skip : AreSettledFrom t onto stale runs m
  settled_skip k low b off = settled k (omega (arith, low, after)) b off

  pub stops_skip : (xs : List ℕ) → xs ≡ stops_below t onto runs n → xs ≡ stops_below t onto runs m
  stops_skip xs e = none_listed (λ i. not (first_runs t runs i) && is_held onto i) n (m - n) (λ k low high. not_stopped (first_runs t runs k)
      (is_held onto k) (go_on k low high)) xs e ∙ ap (λ j. stops_below t onto runs j) total

  pub begins_skip : (xs : List ℕ) → xs ≡ begins_below t onto runs n → xs ≡ begins_below t onto runs m
  begins_skip xs e = none_listed (λ i. first_runs t runs i && not (is_held onto i)) n (m - n) (λ k low high. not_begun (first_runs t runs k)
      (is_held onto k) (go_on k low high)) xs e ∙ ap (λ j. begins_below t onto runs j) total

module _ (t : Tree) (onto : List (Option ℕ)) (runs : List Bool) (changes : ChangeLists) (n : ℕ) (all : n ≡ length (packs_at t 0)) where
  runs_by : (k : ℕ) → k < n → first_runs t runs k ≡ is_running (packs_by t runs) k
  runs_by k l = sym (get_or-map (λ q. get_or runs q false) (packs_at t 0) k 0 false (omega (arith, l, all)))

  as_many : n ≡ length (packs_by t runs)
  as_many = (let m = length-map (packs_at t 0) (λ q. get_or runs q false) in omega (arith, m, all))

  -- once all packs of level 0 were met
  pub changed_are : changes.stopped ≡ stops_below t onto runs n → changes.begun ≡ begins_below t onto runs n → AreChanged (packs_by t runs) onto changes
  changed_are stops begins = record {
    stops = stops
        ∙ filter_range (λ i. not (first_runs t runs i) && is_held onto i) (λ i. not (is_running (packs_by t runs) i) && is_held onto i) n 0
        (λ k low high. ap (λ (b : Bool). not b && is_held onto k) (runs_by k (omega (arith, high))))
        ∙ ap (λ m. filter (λ i. not (is_running (packs_by t runs) i) && is_held onto i) (range_with_len 0 m)) as_many;
    begins = begins
        ∙ filter_range (λ i. first_runs t runs i && not (is_held onto i)) (λ i. is_running (packs_by t runs) i && not (is_held onto i)) n 0
        (λ k low high. ap (λ (b : Bool). b && not (is_held onto k)) (runs_by k (omega (arith, high))))
        ∙ ap (λ m. filter (λ i. is_running (packs_by t runs) i && not (is_held onto i)) (range_with_len 0 m)) as_many;
  }

-- ---- once the packs are placed

-- a pack is on a processor where it is on one at least
held_is : (onto : List (Option ℕ)) (i : ℕ) (on : Bool) → held onto i ≡ bit on → is_held onto i ≡ on
held_is onto i true e = elim (cases_Bool (is_held onto i)) [
  | inl yes' ↦ yes'
  | inr no' ↦ (let z = held-zero onto i no' in let o = bit_at true refl in absurd (omega (arith, z, o, e)))
]
held_is onto i false e = elim (cases_Bool (is_held onto i)) [
  | inl yes' ↦ (let s = held_some onto i yes' in let o = bit_off false refl in absurd (omega (arith, s, o, e)))
  | inr no' ↦ no'
]

pub settled_after : (p : PlanContents) → IsPlan p → (n : ℕ) (runs stale : List Bool) → SaysRuns p n runs → (onto : List (Option ℕ)) →
    onto ≡ onto_at (set_boundary p.set.tasks) p.tree n → AreSettledFrom p.tree onto stale runs 0
settled_after p h n runs stale says onto is i low b off =
    let of_leaf = set_boundary p.set.tasks in
    ap (λ os. is_held os i) is
    ∙ held_is (onto_at of_leaf p.tree n) i (is_running (packs_running of_leaf p.tree n) i) (held_onto of_leaf p.tree h.tree.tree (plan_leaves p h) n i)
    ∙ running_is of_leaf p.tree n i b
    ∙ sym (says (get_or (packs_at p.tree 0) i 0) (first_is_pack p.tree h.tree.tree i b).0)

-- a round that ends at a tick began at one tick alone
earlier_start : (p : PlanContents) (s s' e : ℕ) → IsRoundUpTo p s e → IsRoundUpTo p s' e → s < s' → ⊥
earlier_start p s s' e r r' l = both_ways (event_at p s') (r.quiet s' l r'.above) r'.event

pub same_start : (p : PlanContents) (s s' e : ℕ) → IsRoundUpTo p s e → IsRoundUpTo p s' e → s ≡ s'
same_start p s s' e r r' = elim (cases_lt s s') [
  | inl l ↦ absurd (earlier_start p s s' e r r' l)
  | inr l ↦ elim (cases_lt s' s) [
    | inl m ↦ absurd (earlier_start p s' s e r' r m)
    | inr m ↦ omega (arith, l, m)
  ]
]
