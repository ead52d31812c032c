-- The tasks, one by one, each put into the home that it is told.
use Rattle.std.proofs.Common.{◌≡◌, ℕ, zero, suc, ◌+◌, ◌<◌, ◌≤◌, List, [], ◌∷◌, ◌++◌, length, get_or, take, refl, ap, ap₂, arith, sym, ◌∙◌}
use Rattle.std.proofs.Math.Seq.{take-suc}
use Rattle.std.proofs.lemmas.List.{length-map, length-take-le, get_or-map}
use Rattle.std.proofs.lemmas.List.Elements.{All-take}
use Rattle.std.proofs.lemmas.List.Sums.{sum_by-take-le}
use Rattle.sched_base.specs.FirstFit.{first_with_room, with_item, packed, packed_from, homes, homes_from}
use Rattle.sched_base.specs.declared.rows.Leaf.TheVariants.{Task}
use Rattle.run_tree.specs.declared.kinds.Kind.TheVariants as kind
use Rattle.run_tree.specs.Tree.{rate}
use Rattle.run_tree.specs.TreeOfSet.{task_id}
use Rattle.run_tree.specs.Making.{Making, Item, started, put, last_rates}
use Rattle.run_tree.specs.Compiled.{pack_items, task_items}
use Rattle.run_tree.specs.Maker.{leaf_count}
use Rattle.tree_laws.specs.Raised.{RatesFit}
use Rattle.tree_laws.proofs.FirstFitRates.{room_is}
use Rattle.tree_laws.proofs.FirstLevel as first
use Rattle.tree_laws.proofs.CompiledTree.{each, fit, servers_are}
use Rattle.tree_laws.proofs.Sizes.{leaves_counted, task_leaves}

-- a leaf of this rate may come to pack b of level 0, the only one
pub record MayCome (m : Making) (leaf_rate b : ℕ) : Type 0 where
  pub first_level : m.tree.levels ≡ 1
  pub pack : b ≤ length m.last
  pub some_rate : 1 ≤ leaf_rate
  pub rate_fits : leaf_rate ≤ m.tree.scale
  pub within : b < length m.last → rate m.tree (get_or m.last b 0) + leaf_rate ≤ m.tree.scale

-- ---- items, one more

pub pack_items-push : (items : List Item) (x : Item) (m : Making) →
    pack_items (items ++ x ∷ []) m ≡ put x.kind x.rate (first_with_room (pack_items items m).tree.scale x.rate (last_rates (pack_items items m)))
    (pack_items items m)
pack_items-push [] x m = refl
pack_items-push (y ∷ items) x m = pack_items-push items x (put y.kind y.rate (first_with_room m.tree.scale y.rate (last_rates m)) m)

abbrev pub task_item : ℕ → ℕ → Item
task_item j rate = record { kind = kind.Leaf (Task (task_id j)); rate = rate }

pub task_items-push : (i : ℕ) (rates : List ℕ) (rate : ℕ) → task_items i (rates ++ rate ∷ []) ≡ task_items i rates ++ task_item (i + length rates) rate ∷ []
task_items-push i [] rate = ap (λ j. task_item j rate ∷ []) (omega arith)
task_items-push i (r ∷ rates) rate = ap (λ xs. task_item i r ∷ xs) (task_items-push (suc i) rates rate ∙ ap (λ j. task_items (suc i) rates ++ task_item j
    rate ∷ []) (omega arith))

-- the home of item j is the first server with room beside the items before
pub home_from : (scale : ℕ) (rates servers : List ℕ) (j : ℕ) → j < length rates → get_or (homes_from scale rates servers) j 0 ≡ first_with_room scale
    (get_or rates j 0) (packed_from scale (take j rates) servers)
home_from scale [] servers j l = absurd (omega arith)
home_from scale (r ∷ rates) servers zero l = refl
home_from scale (r ∷ rates) servers (suc j) l = home_from scale rates (with_item r (first_with_room scale r servers) servers) j (omega arith)

module _ (processors scale : ℕ) (rates : List ℕ) (h : RatesFit processors scale rates) where
  -- the making once the first j tasks are in
  abbrev pub with_tasks : ℕ → Making
  with_tasks j = pack_items (task_items 0 (take j rates)) (started processors scale)

  -- the home that task j is told
  abbrev pub told_home : ℕ → ℕ
  told_home j = get_or (homes scale rates) j 0

  pub rates_below : (j : ℕ) → RatesFit processors scale (take j rates)
  rates_below j = record {
    some_processors = h.some_processors;
    some_scale = h.some_scale;
    each = All-take (λ rate. (1 ≤ rate) × (rate ≤ scale)) j rates h.each;
    fit = (let all = h.fit in let part = sum_by-take-le (λ (x : ℕ). x) rates j in omega (arith, all, part));
  }

  -- what is known of that making
  pub tasks_kept : (j : ℕ) → ((with_tasks j).tree.scale ≡ scale) × ((with_tasks j).tree.processors ≡ processors) × ((with_tasks j).tree.levels ≡ 1)
  tasks_kept j =
      let k = rates_below j in
      let p = first.packed processors scale (take j rates) k.some_processors k.some_scale (each processors scale (take j rates) k)
      (fit processors scale (take j rates) k) in
      (p.scale_same, p.processors_same, p.levels_same)

  pub tasks_rates : (j : ℕ) → last_rates (with_tasks j) ≡ packed scale (take j rates)
  tasks_rates j = servers_are processors scale (take j rates) (rates_below j)

  pub tasks_counted : (j : ℕ) → j ≤ length rates → leaf_count (with_tasks j).tree ≡ j
  tasks_counted j l =
      let k = rates_below j in
      let are = leaves_counted (with_tasks j).tree.nodes in
      let is = ap length (first.packed processors scale (take j rates) k.some_processors k.some_scale (each processors scale (take j rates) k)
      (fit processors scale (take j rates) k)).leaves in
      let count = task_leaves 0 (take j rates) in
      let long = length-take-le j rates l in
      omega (arith, are, is, count, long)

  pub home_is : (j : ℕ) → j < length rates → told_home j ≡ first_with_room scale (get_or rates j 0) (packed scale (take j rates))
  unfolding homes packed
  home_is j l = home_from scale rates [] j l

  -- one more task
  pub task_step : (j : ℕ) → j < length rates → put (kind.Leaf (Task (task_id j))) (get_or rates j 0) (told_home j) (with_tasks j) ≡ with_tasks (suc j)
  task_step j l =
      let m = with_tasks j in
      let r = get_or rates j 0 in
      let long = length-take-le j rates (omega (arith, l)) in
      let home : told_home j ≡ first_with_room m.tree.scale r (last_rates m) =
      home_is j l ∙ ap₂ (λ s ss. first_with_room s r ss) (sym (tasks_kept j).0) (sym (tasks_rates j)) in
      let more : task_items 0 (take (suc j) rates) ≡ task_items 0 (take j rates) ++ task_item j r ∷ [] =
      ap (task_items 0) (take-suc rates j 0 l) ∙ task_items-push 0 (take j rates) r ∙ ap (λ i. task_items 0 (take j rates) ++ task_item i r ∷ [])
      (omega (arith, long)) in
      ap (λ b. put (kind.Leaf (Task (task_id j))) r b m) home
      ∙ sym (pack_items-push (task_items 0 (take j rates)) (task_item j r) (started processors scale))
      ∙ ap (λ xs. pack_items xs (started processors scale)) (sym more)

  pub task_may_come : (j : ℕ) → j < length rates → MayCome (with_tasks j) (get_or rates j 0) (told_home j)
  task_may_come j l =
      let m = with_tasks j in
      let kept = tasks_kept j in
      let same = kept.0 in
      let range = h.each j 0 l in
      let some = range.0 in
      let most = range.1 in
      let room = room_is scale (get_or rates j 0) (packed scale (take j rates)) in
      let home = home_is j l in
      let long : length (packed scale (take j rates)) ≡ length m.last = ap length (sym (tasks_rates j)) ∙ length-map m.last (rate m.tree) in
      let low = room.low in
      record {
        first_level = kept.2;
        pack = omega (arith, home, low, long);
        some_rate = some;
        rate_fits = omega (arith, most, same);
        within = λ b. (
            let f = room.fits (omega (arith, home, b, long)) in
            let at = get_or-map (rate m.tree) m.last (told_home j) 0 0 b in
            let is = ap (λ xs. get_or xs (told_home j) 0) (tasks_rates j) in
            let there : get_or (packed scale (take j rates)) (told_home j) 0 ≡ get_or (packed scale (take j rates)) (first_with_room scale
            (get_or rates j 0) (packed scale (take j rates))) 0 = ap (λ x. get_or (packed scale (take j rates)) x 0) home in
            omega (arith, f, at, is, there, same));
      }
