-- A level whose duals go to homes that are told, in an order that is told.
use Rattle.std.proofs.Common.{◌≡◌, ℕ, suc, ◌+◌, ◌-◌, ◌*◌, ◌<◌, ◌≤◌, List, [], ◌∷◌, ◌++◌, length, get_or, refl, ap, ap₂, arith, inl, inr, sym, subst}
use Rattle.std.proofs.Common.{subst₂, ◌∙◌, None}
use Rattle.std.proofs.lemmas.Bool.{ltb-true, lt-ltb}
use Rattle.std.proofs.lemmas.List.{append-nil, length-map}
use Rattle.std.specs.List.{AllByRecursion}
use Rattle.sched_base.specs.FirstFit.{with_item}
use Rattle.run_tree.specs.Tree.{Tree, rate, level, dual, IsPack}
use Rattle.run_tree.specs.Making.{Making, lower_packs, new_level, dual_items, lifted}
use Rattle.tree_laws.proofs.LeafEntries.{entries}
use Rattle.tree_laws.proofs.MakingSteps.{last_at, Among, IsMaking}
use Rattle.tree_laws.proofs.FirstFitRates.{PairsExceed, with_item_some}
use Rattle.tree_laws.proofs.LastLevel.{IsLevel, AreApart, AllSome, total, is_lower, kept_in, kept_from, kept_apart, begun, some_with_item, total_with_item}
use Rattle.tree_laws.proofs.NextLevel.{lift_whole, dual_rates, duals_some, duals_long, duals_have_no_part}
use Rattle.tree_laws.proofs.RaisedLevels.{duals_no_entries}
use Rattle.sched_base.proofs.UnitLemmas.{multiple}
use Rattle.sched_base.proofs.ListLemmas.{sum_list}
use Rattle.tree_check.proofs.Apart.{sum_of_same}
use Rattle.tree_check.proofs.Told.{told_rates, WithinAfter, IsTold, told_duals}

-- these are the packs of the last level that aren't roots, in some order
pub record AreLower (m : Making) (ps : List ℕ) : Type 0 where
  pub lower : (i : ℕ) → i < length ps → (j : ℕ) × (j < length m.last) × (last_at m j ≡ get_or ps i 0) × (rate m.tree (get_or ps i 0) < m.tree.scale)
  pub all : (j : ℕ) → j < length m.last → rate m.tree (last_at m j) < m.tree.scale → Among (last_at m j) ps
  pub apart : AreApart ps

-- the next level begins
pub begun_by : (m : Making) (ps : List ℕ) → IsLevel m → AreLower m ps → IsMaking (new_level m) ps
begun_by m ps v c =
    let b = begun m v in
    record {
      made = b.made;
      duals = b.duals;
      some_level = b.some_level;
      last_packs = b.last_packs;
      last_all = b.last_all;
      last_apart = b.last_apart;
      pairs_below = b.pairs_below;
      roots_below = λ p i lo none. elim (b.roots_below p i lo none) [ inl e ↦ inl e | inr a ↦ inr (moved p a) ];
      each_below = b.each_below;
      waiting = λ i l. (let (j, lj, e, less) = c.lower i l in
          let P : ℕ → Type 0 = λ x. rate m.tree x < m.tree.scale → IsPack m.tree x × (suc (suc (level m.tree x)) ≡ suc m.tree.levels)
          × (dual m.tree x ≡ None) × (rate m.tree x < m.tree.scale) in
          subst P e (λ less'. (let a = v.making.last_packs j lj in (a.0, ap suc a.1, a.2, less'))) less);
      apart = c.apart;
    }
  where
    moved : (p : ℕ) → Among p (lower_packs m) → Among p ps
    moved p (i, l, e) =
        let (j, lj, at, ok) = kept_in (is_lower m) m.last i l in
        let P : ℕ → Type 0 = λ x. Among x ps in
        let less = ltb-true (rate m.tree (get_or (lower_packs m) i 0)) m.tree.scale ok in
        subst P (at ∙ e) (c.all j lj (let f = ap (rate m.tree) at in omega (arith, f, less)))

-- ---- what told rates have

pub told_some : (rs homes ss : List ℕ) → AllSome rs → AllSome ss → AllSome (told_rates rs homes ss)
told_some [] homes ss h a = a
told_some (r ∷ rs) [] ss h a = a
told_some (r ∷ rs) (b ∷ homes) ss h a = told_some rs homes (with_item r b ss) h.1 (some_with_item r b ss h.0 a)

pub told_total : (rs homes ss : List ℕ) → length homes ≡ length rs → total (told_rates rs homes ss) ≡ total ss + total rs
told_total [] homes ss e = omega arith
told_total (r ∷ rs) [] ss e = absurd (omega (arith, e))
told_total (r ∷ rs) (b ∷ homes) ss e =
    let ih = told_total rs homes (with_item r b ss) (omega (arith, e)) in
    let a = total_with_item r b ss in
    omega (arith, ih, a)

pub told_long : (rs homes ss : List ℕ) → length ss ≤ length (told_rates rs homes ss)
told_long [] homes ss = omega arith
told_long (r ∷ rs) [] ss = omega arith
told_long (r ∷ rs) (b ∷ homes) ss = let ih = told_long rs homes (with_item r b ss) in let a = with_item_some r b ss in omega (arith, ih, a)

-- rates of which any two pass the scale
pub pairs_from : (scale : ℕ) (ss : List ℕ) → ((i j : ℕ) → i < j → j < length ss → scale < get_or ss i 0 + get_or ss j 0) → PairsExceed scale ss
pairs_from scale [] h = tt
pairs_from scale (s ∷ ss) h = (
  front ss (λ j l. h 0 (suc j) (omega arith) (omega (arith, l))),
  pairs_from scale ss (λ i j l m. h (suc i) (suc j)
      (omega arith) (omega arith)),
)
  where
    front : (ys : List ℕ) → ((j : ℕ) → j < length ys → scale < s + get_or ys j 0) → AllByRecursion (λ y. scale < s + y) ys
    front [] f = tt
    front (y ∷ ys) f = (f 0 (omega arith), front ys (λ j l. f (suc j) (omega (arith, l))))

-- ---- the level

module _ (m : Making) (ps homes : List ℕ) (v : IsLevel m) (c : AreLower m ps) (long : length homes ≡ length ps) where
  abbrev pub made : Making
  made = lifted ps homes m

  -- the rates of its packs
  abbrev pub rates : List ℕ
  rates = told_rates (dual_rates m.tree ps) homes []

  pub raise_told : WithinAfter (new_level m) (dual_items m.tree ps) homes → IsTold (new_level m) made (dual_items m.tree ps) homes
  unfolding lifted
  raise_told w = told_duals ps homes m.tree (new_level m) (begun_by m ps v c) v.filled refl (λ i l. refl) long w

  pub raise_level : WithinAfter (new_level m) (dual_items m.tree ps) homes → PairsExceed m.tree.scale rates → 0 < length rates → (k : ℕ) →
      total rates ≡ k * m.tree.scale → IsLevel made
  raise_level w pairs some k whole =
      let p = raise_told w in
      let long = length-map made.last (rate made.tree) in
      record {
        scaled = (let a = p.scale_same in let z = v.scaled in omega (arith, a, z));
        making = p.making;
        filled = p.filled;
        pairs = subst₂ (λ s xs. PairsExceed s xs) (sym p.scale_same) (sym p.rates) pairs;
        positive = subst AllSome (sym p.rates) (told_some (dual_rates m.tree ps) homes []
            (duals_some m.tree ps (λ i l. (let (j, lj, e, less) = c.lower i l in less))) tt);
        whole = (k, ap total p.rates ∙ whole ∙ ap (λ s. k * s) (sym p.scale_same));
        some = (let a = ap length p.rates in omega (arith, a, some, long));
        leaves = (let a = p.sum in let z = duals_have_no_part m.tree ps in let l = v.leaves in
            omega (arith, a, z, l, ap₂ (λ x y. x * y) p.processors_same p.scale_same));
      }

  pub raise_entries : WithinAfter (new_level m) (dual_items m.tree ps) homes → entries made.tree.nodes ≡ entries m.tree.nodes
  raise_entries w = (raise_told w).leaves ∙ ap (λ xs. entries m.tree.nodes ++ xs) (duals_no_entries m.tree ps) ∙ append-nil (entries m.tree.nodes)

-- ---- what the duals and the roots have in all

pub duals_listed : (t : Tree) (ps : List ℕ) → total (dual_rates t ps) ≡ sum_list (λ p. t.scale - rate t p) ps
duals_listed t [] = refl
duals_listed t (p ∷ ps) = ap (λ n. (t.scale - rate t p) + n) (duals_listed t ps)

pub lower_whole : (m : Making) (ps : List ℕ) → IsLevel m → AreLower m ps → (k : ℕ) × (total (dual_rates m.tree ps) + k * m.tree.scale ≡ length
    m.last * m.tree.scale)
lower_whole m ps v c =
    let (k, whole) = lift_whole m v in
    let P : ℕ → Type 0 = λ x. x < length m.tree.nodes in
    let same = sum_of_same (length m.tree.nodes) (λ p. m.tree.scale - rate m.tree p) ps (lower_packs m) c.apart (kept_apart (is_lower m) m.last
    v.making.last_apart)
    (λ i l. (let (j, lj, e, less) = c.lower i l in subst P e (v.making.last_packs j lj).0.0))
    (λ i l. (let (j, lj, e, ok) = kept_in (is_lower m) m.last i l in subst P e (v.making.last_packs j lj).0.0))
    (λ x a. (let (i, l, at) = a in let (j, lj, e, less) = c.lower i l in
    let Q : ℕ → Type 0 = λ y. Among y (lower_packs m) in
    let f = ap (rate m.tree) e in
    subst Q (e ∙ at) (kept_from (is_lower m) m.last j lj (lt-ltb (rate m.tree (last_at m j)) m.tree.scale (omega (arith, f, less))))))
    (λ x a. (let (i, l, at) = a in let (j, lj, e, ok) = kept_in (is_lower m) m.last i l in
    let Q : ℕ → Type 0 = λ y. Among y ps in
    let f = ap (rate m.tree) e in let less = ltb-true (rate m.tree (get_or (lower_packs m) i 0)) m.tree.scale ok in
    subst Q (e ∙ at) (c.all j lj (omega (arith, f, less)))))
    in
    let a = duals_listed m.tree ps in
    let b = duals_listed m.tree (lower_packs m) in
    (k, omega (arith, whole, same, a, b))

-- so the rates of the level above come to a multiple of the scale
pub raise_whole : (m : Making) (ps homes : List ℕ) → IsLevel m → AreLower m ps → length homes ≡ length ps → (k : ℕ)
    × (total (told_rates (dual_rates m.tree ps) homes []) ≡ k * m.tree.scale)
raise_whole m ps homes v c long =
    let (k, whole) = lower_whole m ps v c in
    let sum = told_total (dual_rates m.tree ps) homes [] (let d = duals_long m.tree ps in omega (arith, d, long)) in
    multiple (total (told_rates (dual_rates m.tree ps) homes [])) k (length m.last) m.tree.scale (omega (arith, sum, whole))
