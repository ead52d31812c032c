-- The compiled tree, from rates that fit.
use Rattle.std.proofs.Common.{◌≡◌, ℕ, ◌-◌, ◌*◌, ◌<◌, ◌≤◌, List, [], ◌∷◌, ◌++◌, map, length, max, sum, None, refl, ap, ap₂, arith, sym, subst, ◌∙◌}
use Rattle.std.proofs.lemmas.List.Elements.{recursion_from_All}
use Rattle.std.specs.List.{AllByRecursion}
use Rattle.sched_base.specs.declared.sets.Task.{Task}
use Rattle.sched_base.specs.FirstFit.{packed, packed_from, homes, homes_from, idles}
use Rattle.sched_base.specs.Scale.{rate_of}
use Rattle.run_tree.specs.Tree.{Tree, rate, level, dual, IsPack, IsTree}
use Rattle.run_tree.specs.TreeOfSet.{HoldsTasks, NumbersIdles}
use Rattle.run_tree.specs.Making.{Making, started, last_rates, lower_packs, new_level, put_items, lifted, dual_items}
use Rattle.run_tree.specs.Compiled.{pack_items, task_items, put_idles, first_level, level_above, tree_of_rates}
use Rattle.tree_laws.specs.Raised.{RatesFit, raised, IsRaised}
use Rattle.tree_laws.proofs.LeafEntries.{entries}
use Rattle.tree_laws.proofs.LastLevel.{IsLevel, total, begun}
use Rattle.tree_laws.proofs.NextLevel.{is_tree, lift_packed}
use Rattle.tree_laws.proofs.RaisedLevels.{all_raised, raised_ends, raised_level, raised_above}
use Rattle.tree_laws.proofs.FirstLevel.{same_total, first_is, filled_in, amounts, task_rates, task_leaves}
use Rattle.tree_laws.proofs.IdleLeaves.{idle_entries}
use Rattle.tree_laws.proofs.FirstLevel as first
use Rattle.tree_laws.proofs.TasksHeld as holds
use Rattle.tree_laws.proofs.FewPacks.{one_level, first_long}
use Rattle.tree_laws.proofs.ToldHomes.{leaves_follow, duals_follow, item_rates}

module _ (processors scale : ℕ) (rates : List ℕ) (h : RatesFit processors scale rates) where
  pub each : AllByRecursion (λ r. (0 < r) × (r ≤ scale)) rates
  each = recursion_from_All (λ r. (0 < r) × (r ≤ scale)) rates h.each

  pub fit : total rates ≤ processors * scale
  fit = let f = h.fit in let same = same_total rates in omega (arith, f, same)

  abbrev pub level_0 : Making
  level_0 = first_level processors scale rates

  abbrev pub tree : Tree
  tree = tree_of_rates processors scale rates

  pub level_0_is : IsLevel level_0
  level_0_is = first_is processors scale rates h.some_processors h.some_scale each fit

  pub last_level : (n : ℕ) → IsRaised n level_0 → length (lower_packs (raised n level_0)) ≡ 0 → tree ≡ (raised n level_0).tree
  unfolding tree_of_rates
  last_level n up done = ap (λ (m : Making). m.tree) (raised_ends level_0 level_0_is n up done)

  -- the tree is that of the last level
  pub tree_is : (n : ℕ) × IsRaised n level_0 × (length (lower_packs (raised n level_0)) ≡ 0) × (tree ≡ (raised n level_0).tree)
  tree_is = let (n, up, done) = all_raised level_0 level_0_is in (n, up, done, last_level n up done)

  pub tree_is_tree : IsTree tree
  tree_is_tree =
      let (n, up, done, same) = tree_is in
      subst IsTree (sym same) (is_tree (raised n level_0) (raised_level level_0 level_0_is n up) done)

  -- the making before any idle leaf
  abbrev pub tasks_in : Making
  tasks_in = pack_items (task_items 0 rates) (started processors scale)

  pub level_0_kept : (level_0.tree.scale ≡ scale) × (level_0.tree.processors ≡ processors) × (level_0.tree.levels ≡ 1)
  level_0_kept =
      let f = filled_in processors scale rates h.some_processors h.some_scale each fit in
      let p = first.packed processors scale rates h.some_processors h.some_scale each fit in
      (f.scale_same ∙ p.scale_same, f.processors_same ∙ p.processors_same, f.levels_same ∙ p.levels_same)

  pub tree_kept : (tree.scale ≡ scale) × (tree.processors ≡ processors)
  tree_kept =
      let (n, up, done, same) = tree_is in
      let above = raised_above level_0 level_0_is n up in
      (ap (λ (t : Tree). t.scale) same ∙ above.scale_same ∙ level_0_kept.0, ap (λ (t : Tree). t.processors) same ∙ above.processors_same ∙ level_0_kept.1)

  abbrev pub given : List ℕ
  given = amounts processors scale rates h.some_processors h.some_scale each fit

  pub tree_leaves : entries tree.nodes ≡ holds.all given 0 rates
  tree_leaves =
      let (n, up, done, same) = tree_is in
      ap (λ (t : Tree). entries t.nodes) same ∙ (raised_above level_0 level_0_is n up).leaves
      ∙ (filled_in processors scale rates h.some_processors h.some_scale each fit).leaves
      ∙ ap (λ xs. xs ++ idle_entries 0 given) (first.packed processors scale rates h.some_processors h.some_scale each fit).leaves

  pub tree_holds : (tasks : List Task) → rates ≡ map (rate_of scale) tasks → HoldsTasks tasks tree
  tree_holds tasks are = holds.holds_tasks tree rates given tree_leaves tasks (are ∙ ap (λ s. map (rate_of s) tasks) (sym tree_kept.0))

  pub tree_numbers : NumbersIdles tree
  tree_numbers = holds.numbers_idles tree rates given tree_leaves

  -- ---- told homes

  pub tasks_follow : put_items (task_items 0 rates) (homes scale rates) (started processors scale) ≡ tasks_in
  unfolding homes
  tasks_follow =
      let start = first.empty_making processors scale rates h.some_processors h.some_scale each fit in
      ap (λ rs. put_items (task_items 0 rates) (homes_from scale rs []) (started processors scale)) (sym (task_rates 0 rates))
      ∙ leaves_follow (task_items 0 rates) (started processors scale) start (λ x i. absurd (let a = i.0 in omega (arith, a))) refl
      (task_leaves scale 0 rates each)

  pub servers_are : last_rates tasks_in ≡ packed scale rates
  unfolding packed
  servers_are = (first.packed processors scale rates h.some_processors h.some_scale each fit).rates ∙ ap (λ rs. packed_from scale rs []) (task_rates 0 rates)

  pub servers_total : sum (packed scale rates) ≡ sum rates
  servers_total = ap sum (sym servers_are) ∙ same_total (last_rates tasks_in) ∙ first.packed_total processors scale rates h.some_processors h.some_scale
      each fit ∙ sym (same_total rates)

  -- what the idle leaves are asked for
  pub amounts_are : idles scale (processors * scale - sum rates) (packed scale rates) ≡ given
  amounts_are =
      let p = first.packed processors scale rates h.some_processors h.some_scale each fit in
      let slack : processors * scale - sum rates ≡ tasks_in.tree.processors * tasks_in.tree.scale - sum (last_rates tasks_in) =
      ap₂ (λ a b. a * b - sum rates) (sym p.processors_same) (sym p.scale_same) ∙ ap (λ a. tasks_in.tree.processors * tasks_in.tree.scale - a)
      (sym servers_total ∙ ap sum (sym servers_are)) in
      ap (λ a. idles scale a (packed scale rates)) slack
      ∙ ap₂ (λ s ss. idles s (tasks_in.tree.processors * tasks_in.tree.scale - sum (last_rates tasks_in)) ss) (sym p.scale_same) (sym servers_are)

  pub idles_follow : put_idles 0 0 (idles scale (processors * scale - sum rates) (packed scale rates)) tasks_in ≡ level_0
  idles_follow = ap (λ xs. put_idles 0 0 xs tasks_in) amounts_are

  -- ---- how large it is

  pub packs_few : length level_0.last ≤ max processors (length (packed scale rates))
  unfolding packed
  packs_few = first_long processors scale rates h.some_processors h.some_scale each fit

  pub few_roots : length (packed scale rates) ≤ processors → (p : ℕ) → IsPack tree p → level tree p ≡ 0 → dual tree p ≡ None
  few_roots few = one_level processors scale rates h.some_processors h.some_scale each fit (let a = packs_few in omega (arith, a, few))

-- ---- one level more

pub duals_as_rates : (t : Tree) (packs : List ℕ) → item_rates (dual_items t packs) ≡ map (λ p. t.scale - rate t p) packs
duals_as_rates t [] = refl
duals_as_rates t (p ∷ packs) = ap (λ xs. (t.scale - rate t p) ∷ xs) (duals_as_rates t packs)

module _ (m : Making) (v : IsLevel m) where
  abbrev pub lower : List ℕ
  lower = lower_packs m

  pub level_follows : lifted lower (homes m.tree.scale (map (λ p. m.tree.scale - rate m.tree p) lower)) m ≡ level_above m lower
  unfolding lifted homes
  level_follows =
      ap (λ rs. put_items (dual_items m.tree lower) (homes_from m.tree.scale rs []) (new_level m)) (sym (duals_as_rates m.tree lower))
      ∙ duals_follow lower m.tree (new_level m) (begun m v) v.filled refl (λ i l. refl)

  pub level_rates : last_rates (level_above m lower) ≡ packed m.tree.scale (map (λ p. m.tree.scale - rate m.tree p) lower)
  unfolding packed
  level_rates = (lift_packed m v).rates ∙ ap (λ rs. packed_from m.tree.scale rs []) (duals_as_rates m.tree lower)
