-- The levels of a text with no fault are made one by one, and the last one ends the tree.
use Rattle.std.proofs.Common.{◌≡◌, ℕ, zero, suc, ◌+◌, ◌-◌, ◌*◌, ◌<◌, ◌≤◌, List, [], ◌∷◌, map, length, get_or, refl, ap, ap₂, arith, inl, inr, sym}
use Rattle.std.proofs.Common.{subst, subst₂, ◌∙◌}
use Rattle.std.specs.Prelude.{sum}
use Rattle.std.proofs.lemmas.Bool.{cases_eq, ltb-true}
use Rattle.std.proofs.lemmas.List.{get_or-map, length-map, ext_get_or}
use Rattle.std.specs.List.{AllByRecursion}
use Rattle.sched_base.specs.FirstFit.{with_item}
use Rattle.sched_base.specs.Counting.{sum_to}
use Rattle.sched_base.proofs.ListLemmas.{sum_list, sum_list_places}
use Rattle.run_tree.specs.Tree.{Tree, rate, IsTree}
use Rattle.run_tree.specs.Making.{Making, Item, started, last_rates, lower_packs, new_level, dual_items, put_items, lifted}
use Rattle.run_tree.specs.Maker.{packs_named}
use Rattle.tree_laws.proofs.LeafEntries.{entries}
use Rattle.tree_laws.proofs.MakingSteps.{last_at}
use Rattle.tree_laws.proofs.PackItems.{item_entries, parts, IsLeafItem}
use Rattle.tree_laws.proofs.LastLevel.{IsLevel, AllSome, total, is_lower, kept_in}
use Rattle.tree_laws.proofs.NextLevel.{is_tree, dual_rates, duals_long}
use Rattle.tree_laws.proofs.FirstFitRates.{PairsExceed}
use Rattle.tree_laws.proofs.FirstLevel.{same_total, empty_making}
use Rattle.tree_check.specs.declared.faults.TreeKind.TheVariants as kinds
use Rattle.tree_check.specs.declared.written.Member.{Member}
use Rattle.tree_check.specs.declared.written.Member.TheVariants.{Name, Number}
use Rattle.tree_check.specs.Written.{Pack, Written, IsWritten, level_at, no_pack, level_line, end_line}
use Rattle.tree_check.specs.Faults.{to_place, rate_at, named, member_rate, members_of, HasNoFault}
use Rattle.tree_check.specs.TextTree.{leaf_item, number_of, homes_from, text_making, text_tree}
use Rattle.tree_check.proofs.Apart.{sum_of_all}
use Rattle.tree_check.proofs.Told.{told_rates, item_rates, Within, WithinAfter, told_leaves, told_room}
use Rattle.tree_check.proofs.Raising.{AreLower, told_some, told_total, raise_told, raise_level, raise_whole, raise_entries}
use Rattle.tree_check.proofs.LevelLists.{length-homes}
use Rattle.tree_check.proofs.Faultless.{number_in, there_is, numbers, numbers_long, numbers_apart, numbers_all, numbers_low, number_some, rate_named}
use Rattle.tree_check.proofs.Faultless.{printed, printed_at, printed_long, printed_are, printed_within, printed_pairs, printed_some}

-- the tree in the making is that of the text's first levels
pub record IsTextLevel (w : Written) (l : ℕ) (m : Making) : Type 0 where
  pub level : IsLevel m
  pub rates : last_rates m ≡ map (λ (p : Pack). p.rate) (level_at w l)
  pub scale_same : m.tree.scale ≡ w.scale
  pub processors_same : m.tree.processors ≡ w.set.processors
  pub levels_same : m.tree.levels ≡ suc l
  pub leaves : entries m.tree.nodes ≡ item_entries (map (leaf_item w) (members_of (level_at w 0)))

-- the rates of a map of items
pub rates_of_items : (f : Member → Item) (g : Member → ℕ) (xs : List Member) → ((x : Member) → (f x).rate ≡ g x) → item_rates (map f xs) ≡ map g xs
rates_of_items f g [] same = refl
rates_of_items f g (x ∷ xs) same = ap₂ (λ r rs. r ∷ rs) (same x) (rates_of_items f g xs same)

pub leaf_parts : (w : Written) (xs : List Member) → parts (map (leaf_item w) xs) ≡ total (map (member_rate w 0) xs)
leaf_parts w [] = refl
leaf_parts w (x ∷ xs) = ap (λ n. member_rate w 0 x + n) (leaf_parts w xs)

pub total_places : (rs : List ℕ) → total rs ≡ sum_to (length rs) (λ k. get_or rs k 0)
total_places rs = listed rs ∙ sym (sum_list_places (λ x. x) rs)
  where
    listed : (xs : List ℕ) → total xs ≡ sum_list (λ x. x) xs
    listed [] = refl
    listed (x ∷ xs) = ap (λ n. x + n) (listed xs)

module _ (w : Written) (iw : IsWritten w) (nf : HasNoFault w) where
  -- ---- level 0

  abbrev pub firsts : List Member
  firsts = members_of (level_at w 0)

  pub low_0 : 0 < length w.levels
  low_0 = iw.some_level

  -- the members of level 0 have all that there is to place
  pub first_total : total (map (member_rate w 0) firsts) ≡ w.set.processors * w.scale
  first_total =
      let rs = map (member_rate w 0) firsts in
      let ns = numbers w iw nf 0 low_0 in
      let same : rs ≡ map (rate_at w 0) ns = (let n = length-map firsts (member_rate w 0) in let k = numbers_long w iw nf 0 low_0 in
      let j = length-map ns (rate_at w 0) in
      ext_get_or 0 rs (map (rate_at w 0) ns) (omega (arith, n, k, j)) (λ i li. (let lm : i < length firsts = omega (arith, li, n) in
      rate_named w iw nf 0 low_0 i lm ∙ sym (get_or-map (rate_at w 0) ns i 0 0 (omega (arith, lm, k)))))) in
      let all = sum_of_all (length (to_place w 0)) (rate_at w 0) ns (numbers_apart w iw nf 0 low_0) (numbers_low w iw nf 0 low_0) (λ x lx some. numbers_all
      w iw nf 0 low_0 x some) in
      let whole = total_places (to_place w 0) in
      let s = same_total (to_place w 0) in
      let fill : sum (to_place w 0) ≡ w.set.processors * w.scale = elim (cases_eq (sum (to_place w 0)) (w.set.processors * w.scale)) [
        | inl e ↦ e
        | inr ne ↦ absurd (nf kinds.Total (level_line w 0) (refl, ne))
      ] in
      ap total same ∙ listed ns ∙ all ∙ sym whole ∙ sym s ∙ fill
    where
      listed : (xs : List ℕ) → total (map (rate_at w 0) xs) ≡ sum_list (rate_at w 0) xs
      listed [] = refl
      listed (x ∷ xs) = ap (λ n. rate_at w 0 x + n) (listed xs)

  -- each may stand in level 0
  pub first_items : AllByRecursion (IsLeafItem w.scale) (map (leaf_item w) firsts)
  first_items = each firsts (λ k lk. (let at = rate_named w iw nf 0 low_0 k lk in let n = numbers_long w iw nf 0 low_0 in let s = number_some w iw nf 0
      low_0 k (omega (arith, lk, n)) in omega (arith, at, s)))
      (λ k lk. first_within k lk)
    where
      each : (xs : List Member) → ((k : ℕ) → k < length xs → 0 < get_or (map (member_rate w 0) xs) k 0) → ((k : ℕ) → k < length xs →
          get_or (map (member_rate w 0) xs) k 0 ≤ w.scale) → AllByRecursion (IsLeafItem w.scale) (map (leaf_item w) xs)
      each [] some low = tt
      each (x ∷ xs) some low = (
        (tt, some 0 (omega arith), low 0 (omega arith)),
        each xs (λ k lk. some (suc k) (omega (arith, lk)))
            (λ k lk. low (suc k) (omega (arith, lk))),
      )

      first_within : (k : ℕ) → k < length firsts → get_or (map (member_rate w 0) firsts) k 0 ≤ w.scale
      first_within k lk =
          let e = printed_are w iw nf 0 low_0 in
          let long = length-homes 0 (level_at w 0) in
          let n = length-map firsts (member_rate w 0) in
          within_of (map (member_rate w 0) firsts) (homes_from 0 (level_at w 0)) [] (omega (arith, long, n)) (subst (Within w.scale) (sym e)
          (printed_within w iw nf 0 low_0)) k (omega (arith, lk, n))
        where
          within_of : (rs homes ss : List ℕ) → length homes ≡ length rs → Within w.scale (told_rates rs homes ss) → (k : ℕ) → k < length rs →
              get_or rs k 0 ≤ w.scale
          within_of [] homes ss e v k l = absurd (omega (arith, l))
          within_of (r ∷ rs) [] ss e v k l = absurd (omega (arith, e))
          within_of (r ∷ rs) (b ∷ homes) ss e v zero l = (told_room w.scale r b rs homes ss v).0
          within_of (r ∷ rs) (b ∷ homes) ss e v (suc k) l = within_of rs homes (with_item r b ss) (omega (arith, e)) v k (omega (arith, l))

  pub first_level : IsTextLevel w 0 (text_making w 0)
  unfolding text_making
  first_level =
      let items = map (leaf_item w) firsts in
      let homes = homes_from 0 (level_at w 0) in
      let m : Making = started w.set.processors w.scale in
      let some_scale = iw.is_scale.positive in
      let some_processors = iw.lawful.some_processors in
      let rs : item_rates items ≡ map (member_rate w 0) firsts = rates_of_items (leaf_item w) (member_rate w 0) firsts (λ x. refl) in
      let are : told_rates (item_rates items) homes [] ≡ printed w iw nf 0 low_0 = ap (λ xs. told_rates xs homes []) rs ∙ printed_are w iw nf 0 low_0 in
      let n = length-map firsts (leaf_item w) in
      let h = length-homes 0 (level_at w 0) in
      let p = told_leaves items homes m (empty_making w.set.processors w.scale [] some_processors some_scale tt (omega arith))
      (λ x i. absurd (let a = i.0 in omega (arith, a))) refl (omega (arith, n, h)) first_items
      (subst (Within w.scale) (sym are) (printed_within w iw nf 0 low_0)) in
      let made : Making = put_items items homes m in
      let rates = p.rates ∙ are in
      let long = length-map made.last (rate made.tree) in
      let fill = first_total in
      let sums = told_total (item_rates items) homes [] (let k = length-map items (λ (x : Item). x.rate) in omega (arith, n, h, k)) in
      let same = ap total rs in
      record {
        level = record {
          scaled = (let a = p.scale_same in omega (arith, a, some_scale));
          making = p.making;
          filled = p.filled;
          pairs = subst₂ (λ s xs. PairsExceed s xs) (sym p.scale_same) (sym rates) (printed_pairs w iw nf 0 low_0);
          positive = subst AllSome (sym p.rates) (told_some (item_rates items) homes [] (somes items first_items) tt);
          whole = (w.set.processors, ap total p.rates ∙ sums ∙ omega (arith, same, fill) ∙ ap (λ s. w.set.processors * s) (sym p.scale_same));
          some = (let a = ap length rates in let s = printed_some w iw nf 0 low_0 in omega (arith, a, s, long));
          leaves = (let a = p.sum in let z = leaf_parts w firsts in omega (arith, a, z, fill, ap₂ (λ x y. x * y) p.processors_same p.scale_same));
        };
        rates = rates;
        scale_same = p.scale_same;
        processors_same = p.processors_same;
        levels_same = p.levels_same;
        leaves = p.leaves;
      }
    where
      somes : (xs : List Item) → AllByRecursion (IsLeafItem w.scale) xs → AllSome (item_rates xs)
      somes [] a = tt
      somes (x ∷ xs) a = (a.0.1, somes xs a.1)

  -- ---- a level more

  module _ (l : ℕ) (low : suc l < length w.levels) (m : Making) (t : IsTextLevel w l m) where
    pub low_l : l < length w.levels
    low_l = omega (arith, low)

    abbrev pub nexts : List Member
    nexts = members_of (level_at w (suc l))

    abbrev pub order : List ℕ
    order = map number_of nexts

    abbrev pub named_packs : List ℕ
    named_packs = packs_named m order

    abbrev pub next_homes : List ℕ
    next_homes = homes_from 0 (level_at w (suc l))

    pub numbers_are : order ≡ numbers w iw nf (suc l) low
    numbers_are = same nexts
      where
        same : (xs : List Member) → map number_of xs ≡ map (λ x. number_in (named w (suc l) x)) xs
        same [] = refl
        same (Name name ∷ xs) = ap (λ ns. 0 ∷ ns) (same xs)
        same (Number j ∷ xs) = ap (λ ns. j ∷ ns) (same xs)

    pub order_long : length order ≡ length nexts
    order_long = length-map nexts number_of

    pub packs_long : length named_packs ≡ length nexts
    packs_long = length-map order (λ i. get_or m.last i 0) ∙ order_long

    -- what number j lacks
    pub lacks : (j : ℕ) → 0 < rate_at w (suc l) j → (j < length m.last) × (rate_at w (suc l) j + rate m.tree (last_at m j) ≡ m.tree.scale)
    lacks j some =
        let here = there_is w (suc l) j some in
        let n = length-map (level_at w l) (λ (p : Pack). w.scale - p.rate) in
        let lp : j < length (level_at w l) = omega (arith, here, n) in
        let k = ap length t.rates in
        let a = length-map m.last (rate m.tree) in
        let b = printed_long w iw nf l low_l in
        let lm : j < length m.last = omega (arith, lp, k, a, b) in
        let at = get_or-map (λ (p : Pack). w.scale - p.rate) (level_at w l) j no_pack 0 lp in
        let printed_rate = printed_at w iw nf l low_l j lp in
        let made_rate = get_or-map (rate m.tree) m.last j 0 0 lm in
        let same = ap (λ xs. get_or xs j 0) t.rates in
        let s = t.scale_same in
        (lm, omega (arith, at, printed_rate, made_rate, same, s, some))

    pub lacks_some : (j : ℕ) → j < length m.last → rate m.tree (last_at m j) < m.tree.scale → 0 < rate_at w (suc l) j
    lacks_some j lm less =
        let k = ap length t.rates in
        let a = length-map m.last (rate m.tree) in
        let b = printed_long w iw nf l low_l in
        let lp : j < length (level_at w l) = omega (arith, lm, k, a, b) in
        let at = get_or-map (λ (p : Pack). w.scale - p.rate) (level_at w l) j no_pack 0 lp in
        let printed_rate = printed_at w iw nf l low_l j lp in
        let made_rate = get_or-map (rate m.tree) m.last j 0 0 lm in
        let same = ap (λ xs. get_or xs j 0) t.rates in
        let s = t.scale_same in
        omega (arith, at, printed_rate, made_rate, same, s, less)

    pub order_at : (i : ℕ) → i < length nexts → (get_or order i 0 < length m.last) × (get_or named_packs i 0 ≡ last_at m (get_or order i 0))
        × (rate_at w (suc l) (get_or order i 0) + rate m.tree (last_at m (get_or order i 0)) ≡ m.tree.scale) × (0 < rate_at w (suc l) (get_or order i 0))
    order_at i li =
        let P : ℕ → Type 0 = λ j. 0 < rate_at w (suc l) j in
        let n = numbers_long w iw nf (suc l) low in
        let some : 0 < rate_at w (suc l) (get_or order i 0) = subst P (sym (ap (λ xs. get_or xs i 0) numbers_are)) (number_some w iw nf (suc l) low i
        (omega (arith, li, n))) in
        let a = lacks (get_or order i 0) some in
        (a.0, get_or-map (λ j. get_or m.last j 0) order i 0 0 (let o = order_long in omega (arith, li, o)), a.1, some)

    pub are_lower : AreLower m named_packs
    are_lower = record {
      lower = λ i li. (let n = packs_long in let o = order_at i (omega (arith, li, n)) in
          (get_or order i 0, o.0, sym o.1, (let e = ap (rate m.tree) o.1 in let f = o.2 in let g = o.3 in omega (arith, e, f, g))));
      all = λ j lj less. (let (k, lk, e) = numbers_all w iw nf (suc l) low j (lacks_some j lj less) in
          let n = numbers_long w iw nf (suc l) low in
          let lm : k < length nexts = omega (arith, lk, n) in
          let o = order_at k lm in
          (k, (let p = packs_long in omega (arith, lm, p)), o.1 ∙ ap (last_at m) (ap (λ xs. get_or xs k 0) numbers_are ∙ e)));
      apart = λ i j li lj e. (let n = packs_long in
          let mi : i < length nexts = omega (arith, li, n) in let mj : j < length nexts = omega (arith, lj, n) in
          let oi = order_at i mi in let oj = order_at j mj in
          let same = t.level.making.last_apart (get_or order i 0) (get_or order j 0) oi.0 oj.0 (sym oi.1 ∙ e ∙ oj.1) in
          let k = numbers_long w iw nf (suc l) low in
          numbers_apart w iw nf (suc l) low i j (omega (arith, mi, k)) (omega (arith, mj, k)) (sym (ap (λ xs. get_or xs i 0) numbers_are) ∙ same
          ∙ ap (λ xs. get_or xs j 0) numbers_are));
    }

    -- the duals have the rates of the members
    pub duals_are : dual_rates m.tree named_packs ≡ map (member_rate w (suc l)) nexts
    duals_are =
        let n = packs_long in let d = duals_long m.tree named_packs in let k = length-map nexts (member_rate w (suc l)) in
        ext_get_or 0 (dual_rates m.tree named_packs) (map (member_rate w (suc l)) nexts) (omega (arith, n, d, k)) (λ i li.
        let lm : i < length nexts = omega (arith, li, n, d) in
        let o = order_at i lm in
        let e = ap (rate m.tree) o.1 in
        let f = o.2 in
        let at = dual_at m.tree named_packs i (omega (arith, lm, n)) in
        let r = rate_named w iw nf (suc l) low i lm in
        let same = ap (rate_at w (suc l)) (ap (λ xs. get_or xs i 0) numbers_are) in
        omega (arith, at, e, f, r, same))
      where
        dual_at : (t : Tree) (ps : List ℕ) (i : ℕ) → i < length ps → get_or (dual_rates t ps) i 0 ≡ t.scale - rate t (get_or ps i 0)
        dual_at t [] i l = absurd (omega (arith, l))
        dual_at t (p ∷ ps) zero l = refl
        dual_at t (p ∷ ps) (suc i) l = dual_at t ps i (omega (arith, l))

    pub next_printed : told_rates (dual_rates m.tree named_packs) next_homes [] ≡ printed w iw nf (suc l) low
    next_printed = ap (λ rs. told_rates rs next_homes []) duals_are ∙ printed_are w iw nf (suc l) low

    pub next_level : IsTextLevel w (suc l) (lifted named_packs next_homes m)
    next_level =
        let long : length next_homes ≡ length named_packs = (let a = length-homes 0 (level_at w (suc l)) in let b = packs_long in omega (arith, a, b)) in
        let within : WithinAfter (new_level m) (dual_items m.tree named_packs) next_homes =
        subst₂ Within (sym t.scale_same) (sym next_printed) (printed_within w iw nf (suc l) low) in
        let told = raise_told m named_packs next_homes t.level are_lower long within in
        let (k, whole) = raise_whole m named_packs next_homes t.level are_lower long in
        record {
          level = raise_level m named_packs next_homes t.level are_lower long within (subst₂ (λ s xs. PairsExceed s xs) (sym t.scale_same)
              (sym next_printed) (printed_pairs w iw nf (suc l) low))
              (let e = ap length next_printed in let s = printed_some w iw nf (suc l) low in omega (arith, e, s)) k whole;
          rates = told.rates ∙ next_printed;
          scale_same = told.scale_same ∙ t.scale_same;
          processors_same = told.processors_same ∙ t.processors_same;
          levels_same = told.levels_same ∙ ap suc t.levels_same;
          leaves = raise_entries m named_packs next_homes t.level are_lower long within ∙ t.leaves;
        }

  -- ---- all levels

  pub each_level : (l : ℕ) → l < length w.levels → IsTextLevel w l (text_making w l)
  unfolding text_making
  each_level zero low = first_level
  each_level (suc l) low = next_level l low (text_making w l) (each_level l (omega (arith, low)))

  -- the last one has roots alone
  abbrev pub last_level : ℕ
  last_level = length w.levels - 1

  pub low_last : last_level < length w.levels
  low_last = let s = iw.some_level in omega (arith, s)

  pub no_lower : length (lower_packs (text_making w last_level)) ≡ 0
  no_lower =
      let m : Making = text_making w last_level in
      let t = each_level last_level low_last in
      elim (cases_eq (length (lower_packs m)) 0) [
        | inl z ↦ z
        | inr nz ↦ absurd (let (j, lj, e, ok) = kept_in (is_lower m) m.last 0 (omega (arith, nz)) in
            let less = ltb-true (rate m.tree (get_or (lower_packs m) 0 0)) m.tree.scale ok in
            let made_rate = get_or-map (rate m.tree) m.last j 0 0 lj in
            let k = ap length t.rates in
            let a = length-map m.last (rate m.tree) in
            let b = printed_long w iw nf last_level low_last in
            let lp : j < length (level_at w last_level) = omega (arith, lj, k, a, b) in
            let printed_rate = printed_at w iw nf last_level low_last j lp in
            let same = ap (λ xs. get_or xs j 0) t.rates in
            let at = ap (rate m.tree) e in
            let s = t.scale_same in
            nf kinds.Unfinished (end_line w) (refl, (j, lp, omega (arith, less, made_rate, printed_rate, same, at, s))))
      ]

  -- so the tree of the text is a reduction tree
  pub text_is_tree : IsTree (text_tree w)
  text_is_tree = is_tree (text_making w last_level) (each_level last_level low_last).level no_lower
