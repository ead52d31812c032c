-- Level 0: the tasks by first fit, then the idle leaves.
use Rattle.std.proofs.Common.{◌≡◌, ℕ, suc, ◌-◌, ◌*◌, ◌<◌, ◌≤◌, List, [], ◌∷◌, map, length, get_or, sum, refl, ap, arith, sym, subst, ap₂, ◌∙◌, mul-le-mul_right}
use Rattle.std.proofs.lemmas.List.{length-map}
use Rattle.std.proofs.lemmas.List.Recursion.{is_sum_by}
use Rattle.std.specs.List.{AllByRecursion}
use Rattle.sched_base.specs.FirstFit.{packed_from, idles}
use Rattle.run_tree.specs.Tree.{rate}
use Rattle.run_tree.specs.Making.{Making, Item, started, last_rates}
use Rattle.run_tree.specs.Compiled.{pack_items, task_items, first_level}
use Rattle.tree_laws.proofs.MakingSteps.{last_at, IsMaking}
use Rattle.tree_laws.proofs.PackItems.{IsPacked, pack_leaves, parts, IsLeafItem}
use Rattle.tree_laws.proofs.LastLevel.{total, AllSome, IsLevel, some_packed, total_packed}
use Rattle.tree_laws.proofs.IdleLeaves.{idles_fit, idles_total, IsFilled, CanFill, idles_put}

-- each rate of a making is at most the scale
pub rates_within : (m : Making) → IsMaking m [] → AllByRecursion (λ r. r ≤ m.tree.scale) (last_rates m)
rates_within m h = each m.last (λ i l. h.made.within (last_at m i) (h.last_packs i l).0)
  where
    each : (ps : List ℕ) → ((i : ℕ) → i < length ps → rate m.tree (get_or ps i 0) ≤ m.tree.scale) → AllByRecursion (λ r. r ≤ m.tree.scale)
        (map (rate m.tree) ps)
    each [] f = tt
    each (p ∷ ps) f = (f 0 (omega arith), each ps (λ i l. f (suc i) (omega arith)))

pub task_leaves : (scale j : ℕ) (rates : List ℕ) → AllByRecursion (λ r. (0 < r) × (r ≤ scale)) rates → AllByRecursion (IsLeafItem scale) (task_items j rates)
task_leaves scale j [] h = tt
task_leaves scale j (r ∷ rs) h = ((tt, h.0.0, h.0.1), task_leaves scale (suc j) rs h.1)

pub task_parts : (j : ℕ) (rates : List ℕ) → parts (task_items j rates) ≡ total rates
task_parts j [] = refl
task_parts j (r ∷ rs) = let ih = task_parts (suc j) rs in omega (arith, ih)

pub task_rates : (j : ℕ) (rates : List ℕ) → map (λ (x : Item). x.rate) (task_items j rates) ≡ rates
task_rates j [] = refl
task_rates j (r ∷ rs) = ap (λ xs. r ∷ xs) (task_rates (suc j) rs)

pub somes : (scale : ℕ) (rates : List ℕ) → AllByRecursion (λ r. (0 < r) × (r ≤ scale)) rates → AllSome rates
somes scale [] h = tt
somes scale (r ∷ rs) h = (h.0.0, somes scale rs h.1)

pub same_total : (rs : List ℕ) → sum rs ≡ total rs
same_total rs = sym (is_sum_by total (λ x. x) refl (λ x xs. refl) rs)

module _ (processors scale : ℕ) (rates : List ℕ) (p : 0 < processors) (q : 0 < scale) (each : AllByRecursion (λ r. (0 < r) × (r ≤ scale)) rates)
    (fits : total rates ≤ processors * scale) where
  abbrev pub empty : Making
  empty = started processors scale

  pub empty_making : IsMaking empty []
  empty_making = record {
    made = record {
      leveled = λ x i. absurd (let a = i.0 in omega (arith, a));
      summed = λ x i. absurd (let a = i.0 in omega (arith, a));
      within = λ x i. absurd (let a = i.0 in omega (arith, a));
      members_are = λ x k i. absurd (let a = i.0 in omega (arith, a));
      homes_are = λ x i. absurd (let a = i.0 in omega (arith, a));
      leaves_are = λ x i. absurd (let a = i.0 in omega (arith, a));
    };
    duals = record { duals_are = λ x i. absurd (let a = i.0 in omega (arith, a)); has_dual = λ x d i. absurd (let a = i.0 in omega (arith, a)) };
    some_level = omega arith;
    last_packs = λ i l. absurd (omega arith);
    last_all = λ x i. absurd (let a = i.0 in omega (arith, a));
    last_apart = λ i j l. absurd (omega arith);
    pairs_below = λ x y i. absurd (let a = i.0 in omega (arith, a));
    roots_below = λ x i. absurd (let a = i.0 in omega (arith, a));
    each_below = λ l lo. absurd (omega arith);
    waiting = λ i l. absurd (omega arith);
    apart = λ i j l. absurd (omega arith);
  }

  pub packed : IsPacked empty (pack_items (task_items 0 rates) empty) (task_items 0 rates)
  packed = pack_leaves (task_items 0 rates) empty empty_making (λ x i. absurd (let a = i.0 in omega (arith, a))) tt refl (task_leaves scale 0 rates each)

  abbrev pub tasks_in : Making
  tasks_in = pack_items (task_items 0 rates) empty

  pub packed_some : AllSome (last_rates tasks_in)
  packed_some = subst AllSome (sym (packed.rates ∙ ap (λ rs. packed_from scale rs []) (task_rates 0 rates))) (some_packed scale rates []
      (somes scale rates each) tt)

  pub packed_total : total (last_rates tasks_in) ≡ total rates
  packed_total = let a = ap total (packed.rates ∙ ap (λ rs. packed_from scale rs []) (task_rates 0 rates)) ∙ total_packed scale rates [] in omega (arith, a)

  abbrev pub amounts : List ℕ
  amounts = idles tasks_in.tree.scale (tasks_in.tree.processors * tasks_in.tree.scale - sum (last_rates tasks_in)) (last_rates tasks_in)

  pub can_fill : CanFill tasks_in 0 amounts
  can_fill = record {
    making = packed.making;
    filled = packed.filled;
    pairs = packed.pairs;
    positive = packed_some;
    one_level = packed.levels_same;
    scaled = (let s = packed.scale_same in omega (arith, s, q));
    fits = idles_fit tasks_in.tree.scale (tasks_in.tree.processors * tasks_in.tree.scale - sum (last_rates tasks_in)) (last_rates tasks_in)
        (rates_within tasks_in packed.making);
    low = omega arith;
  }

  pub filled_in : IsFilled tasks_in (first_level processors scale rates) 0 0 amounts
  filled_in = idles_put amounts 0 0 tasks_in can_fill

  pub amounts_total : total amounts ≡ processors * scale - total rates
  amounts_total =
      let room : tasks_in.tree.processors * tasks_in.tree.scale ≡ processors * scale = ap₂ (λ a b. a * b) packed.processors_same packed.scale_same in
      let s = same_total (last_rates tasks_in) in
      let t = packed_total in
      let z = packed.scale_same in
      idles_total tasks_in.tree.scale (tasks_in.tree.processors * tasks_in.tree.scale - sum (last_rates tasks_in)) tasks_in.tree.processors
      (last_rates tasks_in) (omega (arith, z, q)) (rates_within tasks_in packed.making)
      (omega (arith, room, s, t, fits)) ∙ omega (arith, room, s, t)

  pub first_is : IsLevel (first_level processors scale rates)
  first_is = record {
    scaled = (let a = filled_in.scale_same in let b = packed.scale_same in omega (arith, a, b, q));
    making = filled_in.making;
    filled = filled_in.filled;
    pairs = filled_in.pairs;
    positive = filled_in.positive;
    whole = (
      processors,
      (let a = filled_in.sums in let b = packed_total in let c = amounts_total in let s = ap (λ x. processors * x) (filled_in.scale_same
          ∙ packed.scale_same) in omega (arith, a, b, c, s, fits)),
    );
    some = (let a = filled_in.sums in let b = packed_total in let c = amounts_total in let m : 1 * scale ≤ processors * scale = mul-le-mul_right scale p in
        let long = length-map (first_level processors scale rates).last (rate (first_level processors scale rates).tree) in
        let t = not_empty (last_rates (first_level processors scale rates)) (omega (arith, a, b, c, m, q, fits)) in omega (arith, t, long));
    leaves = (let a = filled_in.sum in let b = packed.sum in let c = amounts_total in let d = task_parts 0 rates in
        let s = ap₂ (λ x y. x * y) (filled_in.processors_same ∙ packed.processors_same) (filled_in.scale_same ∙ packed.scale_same) in omega (
          arith,
          a,
          b,
          c,
          d,
          s,
          fits,
        ));
  }
    where
      not_empty : (rs : List ℕ) → 0 < total rs → 0 < length rs
      not_empty [] l = l
      not_empty (r ∷ rs) l = omega arith
