-- Where every pack of level 0 is a root, each processor holds the pack of its number, and what runs there is what the pack's own plan runs.
use Rattle.std.proofs.Common.{Bool, List, None, Option, Some, ap, arith, false, filter, get_or, length, map, not, refl, replicate, suc, sym, true}
use Rattle.std.proofs.Common.{zero, zero-add, ℕ, ◌&&◌, ◌+◌, ◌/◌, ◌<◌, ◌∙◌, ◌∷◌, ◌≡◌, ◌≤◌}
use Rattle.std.specs.List.{range_with_len}
use Rattle.std.proofs.lemmas.Bool.{and_from, and_right, cond-true}
use Rattle.sched_base.specs.Candidates.{is_at}
use Rattle.sched_base.specs.Counting.{bit}
use Rattle.sched_base.specs.Places.{comes_back, filled, filled_up, is_held, is_running, kept, onto_next, returned, unplaced, waiting}
use Rattle.sched_base.proofs.CountingLemmas.{bit_at}
use Rattle.sched_base.proofs.PlaceLemmas.{returned_none}
use Rattle.sched_base.proofs.SumLemmas.{sum_to-ones, sum_to-same}
use Rattle.run_tree.specs.Boundaries.{set_boundary}
use Rattle.run_tree.specs.Plans.{IsPlan, PlanContents}
use Rattle.run_tree.specs.Runs.{runs}
use Rattle.run_tree.specs.Schedule.{leaf_on, onto_at, packs_at, packs_running}
use Rattle.run_tree.specs.Tree.{leaf}
use Rattle.run_tree.proofs.ScheduleLemmas.{length-running, onto_is, running_is}
use Rattle.sched_laws.proofs.LevelRates.{run_root}
use Rattle.sched_laws.proofs.OneLevel.{onto_const}
use Rattle.sched_laws.proofs.PlacedPacks.{running_count}
use Rattle.partition_laws.specs.Partitions.{IsOwnPlan, IsPartitioned, first_pack, member_count, member_of}
use Rattle.partition_laws.proofs.FlatTrees.{is_first, root_pack}
use Rattle.partition_laws.proofs.OwnTicks.{is_part, onto_member, onto_pack, own_is_pack, own_onto, plan_leaves}
use Rattle.partition_laws.proofs.PartPlaces.{shown_there}

-- nobody is kept where nobody was placed
pub kept_nobody : (runs : List Bool) (n : ℕ) → map (kept runs) (replicate n None) ≡ replicate n None
kept_nobody runs zero = refl
kept_nobody runs (suc n) = ap (λ (xs : List (Option ℕ)). None ∷ xs) (kept_nobody runs n)

-- nor held
pub nobody_held : (n i : ℕ) → is_held (replicate n None) i ≡ false
nobody_held zero i = refl
nobody_held (suc n) i = nobody_held n i

-- nobody held a processor last
pub none_last : (n i : ℕ) → get_or (replicate {A = Option ℕ} n None) i None ≡ None
none_last zero i = refl
none_last (suc n) zero = refl
none_last (suc n) (suc i) = none_last n i

-- so nobody comes back
pub none_back : (runs : List Bool) (onto : List (Option ℕ)) (n p i : ℕ) → comes_back runs (replicate n None) onto p i ≡ false
none_back runs onto n p i =
    and_right (is_running runs i) (not (is_held onto i) && is_at (get_or (replicate n None) i None) p)
    (and_right (not (is_held onto i)) (is_at (get_or (replicate n None) i None) p) (ap (λ (o : Option ℕ). is_at o p) (none_last n i)))

-- where all numbers of a range pass, all are left
pub all_pass : (p : ℕ → Bool) (n a : ℕ) → ((i : ℕ) → a ≤ i → i < a + n → p i ≡ true) → filter p (range_with_len a n) ≡ range_with_len a n
all_pass p zero a h = refl
all_pass p (suc n) a h =
    cond-true (p a) (a ∷ filter p (range_with_len (a + 1) n)) (filter p (range_with_len (a + 1) n)) (h a (omega arith) (omega arith))
    ∙ ap (λ (xs : List ℕ). a ∷ xs) (all_pass p n (a + 1) (λ i l m. h i (omega (arith, l)) (omega (arith, m))))

-- packs that wait in order take free processors in order
pub filled_in_order : (n m a q : ℕ) → q < n → q < m → get_or (filled (replicate n None) (range_with_len a m)) q None ≡ Some (a + q)
filled_in_order zero m a q l k = absurd (omega (arith, l))
filled_in_order (suc n) zero a q l k = absurd (omega (arith, k))
filled_in_order (suc n) (suc m) a zero l k = ap (λ (i : ℕ). Some i) (omega arith)
filled_in_order (suc n) (suc m) a (suc q) l k =
    filled_in_order n m (a + 1) q (omega (arith, l)) (omega (arith, k)) ∙ ap (λ (i : ℕ). Some i) (omega arith)

-- where all packs run, each free processor takes the pack of its number
pub placed_in_order : (runs : List Bool) (packs processors q : ℕ) → ((i : ℕ) → i < length runs → is_running runs i ≡ true) → q < processors → q < length runs →
    get_or (onto_next runs (unplaced packs processors)) q None ≡ Some q
unfolding onto_next
placed_in_order runs packs processors q on l k =
    let none = replicate {A = Option ℕ} processors None in
    let last = replicate {A = Option ℕ} packs None in
    let wait : waiting runs none ≡ range_with_len 0 (length runs) =
    all_pass (λ i. is_running runs i && not (is_held none i)) (length runs) 0
    (λ i low high. and_from (is_running runs i) (not (is_held none i)) (on i (omega (arith, high))) (ap not (nobody_held processors i))) in
    ap (λ (onto : List (Option ℕ)). get_or (filled_up runs (returned runs last onto 0 onto)) q None) (kept_nobody runs processors)
    ∙ ap (λ (onto : List (Option ℕ)). get_or (filled_up runs onto) q None) (returned_none runs last none (λ p i. none_back runs none packs p i) 0 none)
    ∙ ap (λ ws. get_or (filled none ws) q None) wait
    ∙ filled_in_order processors (length runs) 0 q l k
    ∙ ap (λ (i : ℕ). Some i) (zero-add q)

module _ (whole : PlanContents) (w : IsPlan whole) (roots : IsPartitioned whole.tree) where
  -- all packs of level 0 run
  pub all_running : (n i : ℕ) → i < length (packs_at whole.tree 0) → is_running (packs_running (set_boundary whole.set.tasks) whole.tree n) i ≡ true
  all_running n i l =
      let p = is_first whole.tree w.tree.tree roots i l in
      running_is (set_boundary whole.set.tasks) whole.tree n i l
      ∙ run_root (set_boundary whole.set.tasks) whole.tree w.tree.tree (plan_leaves whole w) (first_pack whole.tree i) n p (root_pack whole.tree w.tree.tree
      roots (first_pack whole.tree i) p)

  -- there are as many as processors
  pub as_many : length (packs_at whole.tree 0) ≡ whole.tree.processors
  as_many =
      let running = packs_running (set_boundary whole.set.tasks) whole.tree 0 in
      let long = length-running (set_boundary whole.set.tasks) whole.tree 0 in
      let count = running_count (set_boundary whole.set.tasks) whole.tree w.tree.tree (plan_leaves whole w) 0 in
      let all = sum_to-same (length running) (λ i. bit (is_running running i)) (λ i. 1) (λ i l. bit_at (is_running running i)
      (all_running 0 i (omega (arith, l, long)))) in
      let ones = sum_to-ones (length running) in
      omega (arith, long, count, all, ones)

  -- each processor holds the pack of its number
  pub holds_own : (n q : ℕ) → q < whole.tree.processors → get_or (onto_at (set_boundary whole.set.tasks) whole.tree n) q None ≡ Some q
  holds_own n q l =
      let b = set_boundary whole.set.tasks in
      let t = whole.tree in
      let running = packs_running b t 0 in
      let long = length-running b t 0 in
      let many = as_many in
      ap (λ onto. get_or onto q None) (onto_const b t w.tree.tree (plan_leaves whole w) roots n ∙ onto_is b t 0)
      ∙ placed_in_order running (length (packs_at t 0)) t.processors q (λ i li. all_running 0 i (omega (arith, li, long))) l (omega (arith, l, long, many))

-- what runs on the processor of a pack is the leaf of the member whose like runs in the pack's own plan
pub leaf_own : (whole own : PlanContents) (i f : ℕ) (w : IsPlan whole) (o : IsPlan own) (roots : IsPartitioned whole.tree) (is : IsOwnPlan whole own i f) →
    (n k : ℕ) → k < member_count own.tree 0 → runs (set_boundary own.set.tasks) own.tree (member_of own.tree 0 k) (n / f) ≡ true →
    leaf_on (set_boundary whole.set.tasks) whole.tree n (Some i) ≡ leaf whole.tree (member_of whole.tree i k)
leaf_own whole own i f w o roots is n k l on =
    let p = own_is_pack whole own i f w o roots is in
    shown_there whole own (own_onto whole own i) f w o (is_part whole own i f w o roots is) n i (first_pack own.tree 0) k p
    (sym (onto_pack whole own i f w o roots is (first_pack own.tree 0) p)) l on
    ∙ ap (leaf whole.tree) (onto_member whole own i f w o roots is k l)
