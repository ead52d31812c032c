-- Trees that differ in the numbers of their nodes alone have the same schedule.
use Rattle.std.proofs.Common.{◌≡◌, ℕ, zero, suc, ◌+◌, ◌%◌, ◌/◌, ◌<◌, ◌≤◌, ◌&&◌, ◌||◌, eqb, not, Bool, true, false, List, [], ◌∷◌, ◌++◌, map, length}
use Rattle.std.proofs.Common.{filter, get_or, Option, Some, None, refl, ap, ap₂, arith, inl, inr, sym, ◌∙◌, eq-eqb}
use Rattle.std.specs.List.{range_with_len, list_any}
use Rattle.std.proofs.lemmas.Bool.{cases_Bool, both_ways}
use Rattle.std.proofs.lemmas.List.{length-map, get_or-map}
use Rattle.sched_base.specs.declared.rows.Leaf.{Leaf}
use Rattle.sched_base.specs.declared.sets.Task as declared
use Rattle.sched_base.specs.Candidates.{is_at}
use Rattle.sched_base.specs.Places.{Placing, unplaced, place}
use Rattle.sched_base.proofs.CountingLemmas.{bit_at}
use Rattle.sched_base.proofs.HeldLemmas.{held}
use Rattle.run_tree.specs.Tree.{Tree, IsTree, kind_at, is_leaf, is_pack, leaf, members}
use Rattle.run_tree.specs.Boundaries.{HaveBoundaries, set_boundary}
use Rattle.run_tree.specs.Rounds.{is_task, task_begins, runs_dry, is_event, events_below}
use Rattle.run_tree.specs.Runs.{runs, ticks_below}
use Rattle.run_tree.specs.Schedule.{packs_at, packs_running, places_below, onto_at, leaf_among, leaf_on, shown, rows_from, round_rows, rows_of}
use Rattle.run_tree.specs.Schedule.{rows_of_events, schedule, rounds}
use Rattle.run_tree.proofs.TreeLemmas.{first_is_pack}
use Rattle.sched_laws.proofs.PlacedPacks.{onto_within}
use Rattle.tree_text_laws.specs.Renumbered.{IsRenumbered}
use Rattle.tree_text_laws.proofs.SameRuns.{same_function, map_moved, is_leaf_kept, is_pack_kept, leaf_same, due_same, ticks_same, runs_same}

-- ---- whether some number passes

any_at : (p : ℕ → Bool) (a n x : ℕ) → a ≤ x → x < a + n → p x ≡ true → list_any p (range_with_len a n) ≡ true
any_at p a zero x low high e = absurd (omega (arith, low, high))
any_at p a (suc n) x low high e = elim (cases_Bool (p a)) [
  | inl on ↦ ap (λ b. b || list_any p (range_with_len (a + 1) n)) on
  | inr off ↦ (
      let ne : (a ≡ x → ⊥) = (λ same. both_ways (p a) off (ap p same ∙ e)) in
      ap (λ b. b || list_any p (range_with_len (a + 1) n)) off ∙ any_at p (a + 1) n x (omega (arith, low, ne)) (omega (arith, high)) e)
]

any_none : (p : ℕ → Bool) (a n : ℕ) → ((x : ℕ) → x < a + n → p x ≡ false) → list_any p (range_with_len a n) ≡ false
any_none p a zero none = refl
any_none p a (suc n) none = ap (λ b. b || list_any p (range_with_len (a + 1) n)) (none a (omega arith)) ∙ any_none p (a + 1) n
    (λ x l. none x (omega (arith, l)))

any_found : (p : ℕ → Bool) (a n : ℕ) → list_any p (range_with_len a n) ≡ true → (x : ℕ) × (x < a + n) × (p x ≡ true)
any_found p a zero e = absurd (both_ways false refl e)
any_found p a (suc n) e = elim (cases_Bool (p a)) [
  | inl on ↦ (a, omega arith, on)
  | inr off ↦ (let (x, l, f) = any_found p (a + 1) n (sym (ap (λ b. b || list_any p (range_with_len (a + 1) n)) off) ∙ e) in (x, omega (arith, l), f))
]

module _ (of_leaf : Leaf → ℕ → Bool) (f : ℕ → ℕ) (t u : Tree) (h : IsTree t) (r : IsRenumbered f t u) where
  -- the same of all nodes of both trees
  any_same : (p q : ℕ → Bool) → ((x : ℕ) → x < length t.nodes → p (f x) ≡ q x) → list_any p (range_with_len 0 (length u.nodes)) ≡ list_any q
      (range_with_len 0 (length t.nodes))
  any_same p q same = elim (cases_Bool (list_any q (range_with_len 0 (length t.nodes)))) [
    | inl on ↦ (
        let (x, l, e) = any_found q 0 (length t.nodes) on in
        let lx : x < length t.nodes = omega (arith, l) in
        let low = r.low x lx in
        any_at p 0 (length u.nodes) (f x) (omega arith) (omega (arith, low)) (same x lx ∙ e) ∙ sym on)
    | inr off ↦ (
        any_none p 0 (length u.nodes) (λ y l. (
        let (x, lx, e) = r.all y (omega (arith, l)) in
        elim (cases_Bool (p y)) [
          | inr none ↦ none
          | inl on ↦ absurd (both_ways (list_any q (range_with_len 0 (length t.nodes))) off (any_at q 0 (length t.nodes) x (omega arith) (omega (arith, lx))
              (sym (same x lx) ∙ ap p e ∙ on)))
        ])) ∙ sym off)
  ]

  -- ---- events

  begins_same : (n x : ℕ) → x < length t.nodes → task_begins of_leaf u n (f x) ≡ task_begins of_leaf t n x
  begins_same n x l =
      let a = ap is_leaf (r.kinds x l) ∙ is_leaf_kept f (kind_at t x) in
      let b = leaf_same of_leaf f t u h r x l in
      let c = r.scale_same in
      λ i. a i && is_task (b i) && of_leaf (b i) (n / c i)

  dry_same : (n x : ℕ) → x < length t.nodes → runs_dry of_leaf u n (f x) ≡ runs_dry of_leaf t n x
  dry_same n x l =
      let a = ap is_pack (r.kinds x l) ∙ is_pack_kept f (kind_at t x) in
      let b = runs_same of_leaf f t u h r x n l in
      let c = due_same of_leaf f t u h r (ticks_below of_leaf u (suc n)) (ticks_below of_leaf t (suc n)) (ticks_same of_leaf f t u h r (suc n)) x l in
      λ i. not (a i) && b i && eqb (c i) 0

  event_same : (n : ℕ) → is_event of_leaf u n ≡ is_event of_leaf t n
  unfolding is_event
  event_same zero = refl
  event_same (suc n) =
      let c = r.scale_same in
      let a = any_same (λ x. task_begins of_leaf u (suc n) x) (λ x. task_begins of_leaf t (suc n) x) (begins_same (suc n)) in
      let b = any_same (λ x. runs_dry of_leaf u n x) (λ x. runs_dry of_leaf t n x) (dry_same n) in
      λ i. (eqb (suc n % c i) 0 && a i) || b i

  events_same : (stop : ℕ) → events_below of_leaf u stop ≡ events_below of_leaf t stop
  events_same stop = ap (λ p. filter p (range_with_len 0 stop)) (same_function (is_event of_leaf u) (is_event of_leaf t) event_same)

  -- ---- places

  first_low : (i : ℕ) → i < length (packs_at t 0) → get_or (packs_at t 0) i 0 < length t.nodes
  first_low i l = (first_is_pack t h i l).0

  running_same : (n : ℕ) → packs_running of_leaf u n ≡ packs_running of_leaf t n
  running_same n =
      ap (map (λ p. runs of_leaf u p n)) r.first_packs
      ∙ map_moved f (λ p. runs of_leaf u p n) (λ p. runs of_leaf t p n) (packs_at t 0) (λ i l. runs_same of_leaf f t u h r (get_or (packs_at t 0) i 0) n
      (first_low i l))

  places_same : (n : ℕ) → places_below of_leaf u n ≡ places_below of_leaf t n
  places_same zero = ap₂ unplaced (ap length r.first_packs ∙ length-map (packs_at t 0) f) r.processors_same
  places_same (suc n) = ap₂ place (running_same n) (places_same n)

  onto_same : (n : ℕ) → onto_at of_leaf u n ≡ onto_at of_leaf t n
  unfolding onto_at
  onto_same n = ap (λ (p : Placing). p.onto) (places_same (suc n))

  -- ---- the leaves that run

  among_same : (n : ℕ) (xs : List ℕ) → ((i : ℕ) → i < length xs → get_or xs i 0 < length t.nodes) → leaf_among of_leaf u n (map f xs) ≡ leaf_among of_leaf t
      n xs
  among_same n [] low = refl
  among_same n (x ∷ xs) low =
      let l = low 0 (omega arith) in
      let a = runs_same of_leaf f t u h r x n l in
      let b = leaf_same of_leaf f t u h r x l in
      let c = among_same n xs (λ i li. low (suc i) (omega (arith, li))) in
      λ i. choice (a i) (b i) (c i)
    where
      choice : Bool → Leaf → Leaf → Leaf
      choice on one more = elim on [ true ↦ one | false ↦ more ]

  on_same : (n : ℕ) (o : Option ℕ) → ((i : ℕ) → o ≡ Some i → i < length (packs_at t 0)) → leaf_on of_leaf u n o ≡ leaf_on of_leaf t n o
  on_same n None low = refl
  on_same n (Some i) low =
      let l = low i refl in
      let p = get_or (packs_at t 0) i 0 in
      let is = first_is_pack t h i l in
      let at : get_or (packs_at u 0) i 0 ≡ f p = ap (λ ps. get_or ps i 0) r.first_packs ∙ get_or-map f (packs_at t 0) i 0 0 l in
      ap (λ q. leaf_among of_leaf u n (members u q)) at ∙ ap (leaf_among of_leaf u n) (r.packed p is)
      ∙ among_same n (members t p) (λ k lk. (h.members_are p k is lk).0.0)

-- ---- rows

module _ (tasks : List declared.Task) (f : ℕ → ℕ) (t u : Tree) (h : IsTree t) (r : IsRenumbered f t u) (leaves : HaveBoundaries (set_boundary tasks) t) where
  rows_same : (start end p : ℕ) (onto : List (Option ℕ)) → ((i : ℕ) → 0 < held onto i → i < length (packs_at t 0)) → rows_from tasks u start end p
      onto ≡ rows_from tasks t start end p onto
  rows_same start end p [] low = refl
  rows_same start end p (o ∷ onto) low =
      let a = on_same (set_boundary tasks) f t u h r start o (λ i e. low i (let one = bit_at (is_at o i) (ap (λ x. is_at x i) e ∙ eq-eqb i i refl) in
      omega (arith, one))) in
      let b = rows_same start end (suc p) onto (λ i some. low i (omega (arith, some))) in
      let c = r.scale_same in
      λ i. record { processor = p; start = start; end = end; leaf = shown tasks (c i) start (a i) } ∷ b i

  round_same : (start end : ℕ) → round_rows tasks u start end ≡ round_rows tasks t start end
  unfolding round_rows
  round_same start end =
      ap (rows_from tasks u start end 0) (onto_same (set_boundary tasks) f t u h r start)
      ∙ rows_same start end 0 (onto_at (set_boundary tasks) t start) (λ i some. (onto_within (set_boundary tasks) t h leaves start i some).0)

  rounds_same : (stop event : ℕ) (events : List ℕ) → rows_of tasks u stop event events ≡ rows_of tasks t stop event events
  rounds_same stop event [] = round_same event stop
  rounds_same stop event (next ∷ events) = ap₂ (λ a b. a ++ b) (round_same event next) (rounds_same stop next events)

  all_same : (stop : ℕ) (events : List ℕ) → rows_of_events tasks u stop events ≡ rows_of_events tasks t stop events
  all_same stop [] = refl
  all_same stop (event ∷ events) = rounds_same stop event events

  pub schedule_same : (stop : ℕ) → schedule tasks u stop ≡ schedule tasks t stop
  unfolding schedule
  schedule_same stop = ap (rows_of_events tasks u stop) (events_same (set_boundary tasks) f t u h r stop) ∙ all_same stop (events_below (set_boundary tasks)
      t stop)

  pub rounds_count_same : (stop : ℕ) → rounds tasks u stop ≡ rounds tasks t stop
  unfolding rounds
  rounds_count_same stop = ap length (events_same (set_boundary tasks) f t u h r stop)
