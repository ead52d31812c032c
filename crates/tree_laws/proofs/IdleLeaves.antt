-- Idle leaves at the ends of the packs of level 0, and packs of their own.
use Rattle.std.proofs.Common.{◌≡◌, ℕ, zero, suc, ◌+◌, ◌-◌, ◌*◌, ◌/◌, ◌<◌, ◌≤◌, List, [], ◌∷◌, ◌++◌, length, get_or, drop, min, max, replicate, refl}
use Rattle.std.proofs.Common.{ap, arith, inl, inr, sym, subst, subst₂, ◌∙◌}
use Rattle.std.proofs.lemmas.Bool.{cases_eq, cases_lt}
use Rattle.std.proofs.Math.Nat.{mul-div_cancel}
use Rattle.std.specs.List.{AllByRecursion}
use Rattle.sched_base.specs.FirstFit.{with_item, idles}
use Rattle.sched_base.specs.declared.rows.Leaf.TheVariants.{Idle}
use Rattle.run_tree.specs.declared.kinds.Kind.{Kind}
use Rattle.run_tree.specs.declared.kinds.Kind.TheVariants as kind
use Rattle.run_tree.specs.Making.{Making, put, last_rates}
use Rattle.run_tree.specs.Compiled.{put_idles}
use Rattle.std.proofs.lemmas.List.{append_assoc, append-nil}
use Rattle.tree_laws.proofs.LeafEntries.{Entry, entries, kind_entry}
use Rattle.tree_laws.proofs.MakingSteps.{IsMaking}
use Rattle.tree_laws.proofs.FirstFitRates.{PairsExceed, all_more}
use Rattle.tree_laws.proofs.PutMember.{Filled, leaf_sum}
use Rattle.tree_laws.proofs.PackItems.{IsPut, put_at, serves_leaf}
use Rattle.tree_laws.proofs.LastLevel.{total, AllSome, total_with_item, some_with_item}

-- amounts that fit
abbrev pub Fits : ℕ → List ℕ → List ℕ → Type 0
Fits scale [] rs = Unit {0}
Fits scale (a ∷ more) [] = (a ≡ scale) × Fits scale more []
Fits scale (a ∷ more) (r ∷ rs) = (r + a ≤ scale) × Fits scale more rs

pub fits_whole : (scale n : ℕ) → Fits scale (replicate n scale) []
fits_whole scale zero = tt
fits_whole scale (suc n) = (refl, fits_whole scale n)

pub idles_fit : (scale slack : ℕ) (rs : List ℕ) → AllByRecursion (λ r. r ≤ scale) rs → Fits scale (idles scale slack rs) rs
idles_fit scale slack [] h = fits_whole scale (slack / scale)
idles_fit scale slack (r ∷ rs) h = ((let a = h.0 in omega (arith, a)), idles_fit scale (slack - min (scale - r) slack) rs h.1)

pub total_replicate : (n scale : ℕ) → total (replicate n scale) ≡ n * scale
total_replicate zero scale = omega arith
total_replicate (suc n) scale = let ih = total_replicate n scale in omega (arith, ih)

pub idles_none : (scale slack : ℕ) (rs : List ℕ) → 0 < scale → slack ≡ 0 → total (idles scale slack rs) ≡ 0
idles_none scale slack [] p z = let z' : slack ≡ 0 * scale = omega (arith, z) in let e = ap (λ x. x / scale) z' ∙ mul-div_cancel 0 p in
    let f = ap (λ n. total (replicate n scale)) e in omega (arith, f)
idles_none scale slack (r ∷ rs) p z = let ih = idles_none scale (slack - min (scale - r) slack) rs p (omega arith) in omega (arith, ih, z)

pub idles_total : (scale slack m : ℕ) (rs : List ℕ) → 0 < scale → AllByRecursion (λ r. r ≤ scale) rs → slack + total rs ≡ m * scale →
    total (idles scale slack rs) ≡ slack
idles_total scale slack m [] p h e =
    let f : slack ≡ m * scale = omega (arith, e) in
    let q = ap (λ x. x / scale) f ∙ mul-div_cancel m p in
    ap (λ n. total (replicate n scale)) q ∙ total_replicate m scale ∙ sym f
idles_total scale slack m (r ∷ rs) p h e =
    let w = h.0 in
    elim (cases_lt slack (scale - r)) [
      | inl l ↦ (let z = idles_none scale (slack - min (scale - r) slack) rs p (omega (arith, l)) in omega (arith, z, l))
      | inr ge ↦ (let some : 0 < m = elim (cases_eq m 0)
          [ inl z ↦ absurd (let f = ap (λ x. x * scale) z in omega (arith, e, f, ge, p, w)) | inr nz ↦ omega arith ] in
          let (k, is) = before m some in
          let f = ap (λ x. x * scale) is in
          let ih = idles_total scale (slack - min (scale - r) slack) k rs p h.1 (omega (arith, e, f, ge, w)) in omega (arith, ih, ge))
    ]
  where
    before : (n : ℕ) → 0 < n → (k : ℕ) × (n ≡ suc k)
    before zero l = absurd (omega arith)
    before (suc k) l = (k, refl)

-- pairs exceed still where a pack gets more, or a full one is new
pub pairs_raised : (scale a b : ℕ) (ss : List ℕ) → PairsExceed scale ss → AllSome ss → Fits scale (a ∷ []) (drop b ss) → b ≤ length ss →
    PairsExceed scale (with_item a b ss)
pairs_raised scale a b [] h some f l = (tt, tt)
pairs_raised scale a zero (s ∷ ss) h some f l = (all_more scale s (s + a) ss (omega arith) h.0, h.1)
pairs_raised scale a (suc b) (s ∷ ss) h some f l = (above s b ss h.0 some.0 f (omega arith), pairs_raised scale a b ss h.1 some.1 f (omega arith))
  where
    above : (s b : ℕ) (ss : List ℕ) → AllByRecursion (λ y. scale < s + y) ss → 0 < s → Fits scale (a ∷ []) (drop b ss) → b ≤ length ss →
        AllByRecursion (λ y. scale < s + y) (with_item a b ss)
    above s zero [] h p f l = ((let e = f.0 in omega (arith, e, p)), tt)
    above s (suc b) [] h p f l = absurd (omega arith)
    above s zero (y ∷ ss) h p f l = ((let e = h.0 in omega (arith, e)), h.1)
    above s (suc b) (y ∷ ss) h p f l = (h.0, above s b ss h.1 p f (omega arith))

pub drop_added : (a b : ℕ) (ss : List ℕ) → b ≤ length ss → drop (suc b) (with_item a b ss) ≡ drop (suc b) ss
drop_added a zero [] l = refl
drop_added a (suc b) [] l = absurd (omega arith)
drop_added a zero (s ∷ ss) l = refl
drop_added a (suc b) (s ∷ ss) l = drop_added a b ss (omega arith)

pub longer : (a b : ℕ) (ss : List ℕ) → b ≤ length ss → suc b ≤ length (with_item a b ss)
longer a zero [] l = omega arith
longer a (suc b) [] l = absurd (omega arith)
longer a zero (s ∷ ss) l = omega arith
longer a (suc b) (s ∷ ss) l = let ih = longer a b ss (omega arith) in omega (arith, ih)

pub at_most : (a b : ℕ) (ss : List ℕ) → length (with_item a b ss) ≤ max (length ss) (suc b)
at_most a b [] = omega arith
at_most a zero (s ∷ ss) = omega arith
at_most a (suc b) (s ∷ ss) = let ih = at_most a b ss in omega (arith, ih)

pub fits_next : (scale a : ℕ) (more : List ℕ) (b : ℕ) (ss : List ℕ) → Fits scale (a ∷ more) (drop b ss) → Fits scale more (drop (suc b) ss)
fits_next scale a more zero [] f = f.1
fits_next scale a more (suc b) [] f = f.1
fits_next scale a more zero (s ∷ ss) f = f.1
fits_next scale a more (suc b) (s ∷ ss) f = fits_next scale a more b ss f

pub fits_first : (scale a : ℕ) (more : List ℕ) (b : ℕ) (ss : List ℕ) → Fits scale (a ∷ more) (drop b ss) → Fits scale (a ∷ []) (drop b ss)
fits_first scale a more zero [] f = (f.0, tt)
fits_first scale a more (suc b) [] f = (f.0, tt)
fits_first scale a more zero (s ∷ ss) f = (f.0, tt)
fits_first scale a more (suc b) (s ∷ ss) f = fits_first scale a more b ss f

-- it fits the pack that stands, and is no more than the scale
pub fits_at : (scale a b : ℕ) (ss : List ℕ) → Fits scale (a ∷ []) (drop b ss) → (b < length ss → get_or ss b 0 + a ≤ scale) × (a ≤ scale)
fits_at scale a zero [] f = ((λ l. absurd (omega arith)), (let e = f.0 in omega (arith, e)))
fits_at scale a (suc b) [] f = ((λ l. absurd (omega arith)), (let e = f.0 in omega (arith, e)))
fits_at scale a zero (s ∷ ss) f = ((λ l. f.0), (let e = f.0 in omega (arith, e)))
fits_at scale a (suc b) (s ∷ ss) f = let ih = fits_at scale a b ss f in ((λ l. ih.0 (omega arith)), ih.1)

abbrev pub idle_entries : ℕ → List ℕ → List Entry
idle_entries k [] = []
idle_entries k (zero ∷ more) = idle_entries k more
idle_entries k (suc a ∷ more) = record { leaf = Idle k; rate = suc a } ∷ idle_entries (suc k) more

pub record IsFilled (m made : Making) (b k : ℕ) (more : List ℕ) : Type 0 where
  pub making : IsMaking made []
  pub filled : Filled made.tree
  pub pairs : PairsExceed made.tree.scale (last_rates made)
  pub positive : AllSome (last_rates made)
  pub scale_same : made.tree.scale ≡ m.tree.scale
  pub processors_same : made.tree.processors ≡ m.tree.processors
  pub levels_same : made.tree.levels ≡ m.tree.levels
  pub packs : length (last_rates made) ≤ max (length (last_rates m)) (b + length more)
  pub sum : leaf_sum made.tree ≡ leaf_sum m.tree + total more
  pub sums : total (last_rates made) ≡ total (last_rates m) + total more
  pub leaves : entries made.tree.nodes ≡ entries m.tree.nodes ++ idle_entries k more

-- the last level, level 0, may be given these amounts from pack b on
pub record CanFill (m : Making) (b : ℕ) (amounts : List ℕ) : Type 0 where
  pub making : IsMaking m []
  pub filled : Filled m.tree
  pub pairs : PairsExceed m.tree.scale (last_rates m)
  pub positive : AllSome (last_rates m)
  pub one_level : m.tree.levels ≡ 1
  pub scaled : 0 < m.tree.scale
  pub fits : Fits m.tree.scale amounts (drop b (last_rates m))
  pub low : b ≤ length (last_rates m)

-- a pack that gets nothing
pub fill_none : (m : Making) (b : ℕ) (amounts : List ℕ) → CanFill m b (0 ∷ amounts) → CanFill m (suc b) amounts
fill_none m b amounts h = record {
  making = h.making;
  filled = h.filled;
  pairs = h.pairs;
  positive = h.positive;
  one_level = h.one_level;
  scaled = h.scaled;
  fits = fits_next m.tree.scale 0 amounts b (last_rates m) h.fits;
  low = below b (last_rates m) h.scaled h.fits h.low;
}
  where
    below : (b : ℕ) (ss : List ℕ) → 0 < m.tree.scale → Fits m.tree.scale (0 ∷ amounts) (drop b ss) → b ≤ length ss → suc b ≤ length ss
    below zero [] p g l = absurd (let e = g.0 in omega (arith, e, p))
    below (suc b) [] p g l = absurd (omega arith)
    below zero (s ∷ ss) p g l = omega arith
    below (suc b) (s ∷ ss) p g l = let ih = below b ss p g (omega arith) in omega (arith, ih)

-- a pack, or a new one, that gets an idle leaf
module _ (m : Making) (b a : ℕ) (amounts : List ℕ) (h : CanFill m b (suc a ∷ amounts)) (k : ℕ) where
  abbrev pub idle_kind : Kind
  idle_kind = kind.Leaf (Idle k)

  abbrev pub with_idle : Making
  with_idle = put idle_kind (suc a) b m

  pub first_fits : Fits m.tree.scale (suc a ∷ []) (drop b (last_rates m))
  first_fits = fits_first m.tree.scale (suc a) amounts b (last_rates m) h.fits

  pub fill_room : (b < length (last_rates m) → get_or (last_rates m) b 0 + suc a ≤ m.tree.scale) × (suc a ≤ m.tree.scale)
  fill_room = fits_at m.tree.scale (suc a) b (last_rates m) first_fits

  pub fill_put : IsPut m with_idle [] idle_kind (suc a) b
  fill_put = put_at m [] [] idle_kind (suc a) b h.making h.filled (omega arith) h.one_level (serves_leaf (Idle k)) fill_room.1 fill_room.0

  pub fill_some : CanFill with_idle (suc b) amounts
  fill_some =
      let p = fill_put in
      record {
        making = p.making;
        filled = p.filled;
        pairs = subst₂ (λ s xs. PairsExceed s xs) (sym p.scale_same) (sym p.rates) (pairs_raised m.tree.scale (suc a) b (last_rates m) h.pairs h.positive
            first_fits h.low);
        positive = subst AllSome (sym p.rates) (some_with_item (suc a) b (last_rates m) (omega arith) h.positive);
        one_level = p.levels_same ∙ h.one_level;
        scaled = (let same = p.scale_same in let some = h.scaled in omega (arith, same, some));
        fits = subst₂ (λ s xs. Fits s amounts xs) (sym p.scale_same) (sym (drop_added (suc a) b (last_rates m) h.low) ∙ sym (ap (drop (suc b)) p.rates))
            (fits_next m.tree.scale (suc a) amounts b (last_rates m) h.fits);
        low = (let e = ap length p.rates in let g = longer (suc a) b (last_rates m) h.low in omega (arith, e, g));
      }

pub idles_put : (amounts : List ℕ) (b k : ℕ) (m : Making) → CanFill m b amounts → IsFilled m (put_idles b k amounts m) b k amounts
idles_put [] b k m h = record {
  making = h.making;
  filled = h.filled;
  pairs = h.pairs;
  positive = h.positive;
  scale_same = refl;
  processors_same = refl;
  levels_same = refl;
  packs = omega arith;
  sum = omega arith;
  sums = omega arith;
  leaves = sym (append-nil (entries m.tree.nodes));
}
idles_put (zero ∷ amounts) b k m h =
    let rest = idles_put amounts (suc b) k m (fill_none m b amounts h) in
    record {
      making = rest.making;
      filled = rest.filled;
      pairs = rest.pairs;
      positive = rest.positive;
      scale_same = rest.scale_same;
      processors_same = rest.processors_same;
      levels_same = rest.levels_same;
      packs = (let x = rest.packs in omega (arith, x));
      sum = (let x = rest.sum in omega (arith, x));
      sums = (let x = rest.sums in omega (arith, x));
      leaves = rest.leaves;
    }
idles_put (suc a ∷ amounts) b k m h =
    let p = fill_put m b a amounts h k in
    let rest = idles_put amounts (suc b) (suc k) (with_idle m b a amounts h k) (fill_some m b a amounts h k) in
    record {
      making = rest.making;
      filled = rest.filled;
      pairs = rest.pairs;
      positive = rest.positive;
      scale_same = rest.scale_same ∙ p.scale_same;
      processors_same = rest.processors_same ∙ p.processors_same;
      levels_same = rest.levels_same ∙ p.levels_same;
      packs = (let x = rest.packs in let y = ap length p.rates in let z = at_most (suc a) b (last_rates m) in omega (arith, x, y, z));
      sum = (let x = rest.sum in let y = p.sum in omega (arith, x, y));
      sums = (let x = rest.sums in let y = ap total p.rates ∙ total_with_item (suc a) b (last_rates m) in omega (arith, x, y));
      leaves = rest.leaves ∙ ap (λ ys. ys ++ idle_entries (suc k) amounts) p.leaves ∙ append_assoc (entries m.tree.nodes) (kind_entry (kind.Leaf (Idle k))
          (suc a)) (idle_entries (suc k) amounts);
    }
