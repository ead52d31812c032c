-- The levels above level 0, as they are made.
use Rattle.std.proofs.Common.{◌≡◌, ℕ, zero, suc, ◌+◌, ◌-◌, ◌<◌, ◌≤◌, true, false, cond, List, [], ◌∷◌, ◌++◌, filter, map, length, get_or, take}
use Rattle.std.proofs.Common.{nat_lt, refl, ap, arith, inl, inr, sym, subst, ◌∙◌}
use Rattle.std.proofs.Math.Seq.{take-suc}
use Rattle.std.proofs.lemmas.Bool.{cases_Bool, cases_lt, ltb-true, lt-ltb, le-ltb}
use Rattle.std.proofs.lemmas.List.{length-map, get_or-map, append-nil}
use Rattle.std.proofs.lemmas.List.Elements.{All-from_get_or, filter-append}
use Rattle.std.specs.List.{All}
use Rattle.sched_base.specs.FirstFit.{homes}
use Rattle.run_tree.specs.Tree.{rate, IsTree}
use Rattle.run_tree.specs.Making.{Making, last_rates, lower_packs, lifted}
use Rattle.run_tree.specs.Compiled.{first_level, tree_of_rates}
use Rattle.tree_laws.specs.Raised.{RatesFit, raised, IsRaised, lower_duals}
use Rattle.tree_laws.proofs.LastLevel.{is_lower, kept_in}
use Rattle.tree_laws.proofs.NextLevel.{is_tree}
use Rattle.tree_laws.proofs.RaisedLevels.{raised_level, raised_above, raised_levels, raised_few, raised_fewer, raised_lower}
use Rattle.tree_laws.proofs.CompiledTree.{level_0_is, level_0_kept, packs_few, last_level, level_follows}
use Rattle.tree_laws.proofs.Sizes.{servers_few, level_rates_fit}

-- ---- the rates of the packs that aren't roots

-- those below the scale among the first i rates
abbrev pub below : ℕ → ℕ → List ℕ → List ℕ
below scale i rates = filter (λ r. nat_lt r scale) (take i rates)

-- one rate more
pub below-next : (scale i r : ℕ) (rates : List ℕ) → i < length rates → r ≡ get_or rates i 0 → r < scale → below scale (i + 1) rates ≡ below scale i
    rates ++ r ∷ []
below-next scale i r rates l is small =
    let next : i + 1 ≡ suc i = omega arith in
    let on : nat_lt (get_or rates i 0) scale ≡ true = ap (λ x. nat_lt x scale) (sym is) ∙ lt-ltb r scale small in
    ap (λ k. below scale k rates) next ∙ ap (filter (λ r. nat_lt r scale)) (take-suc rates i 0 l)
    ∙ filter-append (λ r. nat_lt r scale) (take i rates) (get_or rates i 0 ∷ [])
    ∙ ap (λ b. below scale i rates ++ cond b (get_or rates i 0 ∷ []) []) on
    ∙ ap (λ x. below scale i rates ++ x ∷ []) (sym is)

pub below-skip : (scale i r : ℕ) (rates : List ℕ) → i < length rates → r ≡ get_or rates i 0 → scale ≤ r → below scale (i + 1) rates ≡ below scale i rates
below-skip scale i r rates l is large =
    let next : i + 1 ≡ suc i = omega arith in
    let off : nat_lt (get_or rates i 0) scale ≡ false = ap (λ x. nat_lt x scale) (sym is) ∙ le-ltb r scale large in
    ap (λ k. below scale k rates) next ∙ ap (filter (λ r. nat_lt r scale)) (take-suc rates i 0 l)
    ∙ filter-append (λ r. nat_lt r scale) (take i rates) (get_or rates i 0 ∷ [])
    ∙ ap (λ b. below scale i rates ++ cond b (get_or rates i 0 ∷ []) []) off
    ∙ append-nil (below scale i rates)

pub filter-rates : (f : ℕ → ℕ) (scale : ℕ) (packs : List ℕ) → filter (λ r. nat_lt r scale) (map f packs) ≡ map f (filter (λ p. nat_lt (f p) scale) packs)
filter-rates f scale [] = refl
filter-rates f scale (p ∷ packs) =
    elim (cases_Bool (nat_lt (f p) scale)) [
      | inl on ↦ ap (λ b. cond b (f p ∷ filter (λ r. nat_lt r scale) (map f packs)) (filter (λ r. nat_lt r scale) (map f packs))) on ∙ ap (λ xs. f p ∷ xs)
          (filter-rates f scale packs)
          ∙ sym (ap (λ b. map f (cond b (p ∷ filter (λ p. nat_lt (f p) scale) packs) (filter (λ p. nat_lt (f p) scale) packs))) on)
      | inr off ↦ ap (λ b. cond b (f p ∷ filter (λ r. nat_lt r scale) (map f packs)) (filter (λ r. nat_lt r scale) (map f packs))) off ∙ filter-rates f
          scale packs
          ∙ sym (ap (λ b. map f (cond b (p ∷ filter (λ p. nat_lt (f p) scale) packs) (filter (λ p. nat_lt (f p) scale) packs))) off)
    ]

abbrev pub lower_rates : Making → List ℕ
lower_rates m = map (rate m.tree) (lower_packs m)

-- all rates
pub below-all : (m : Making) (scale i : ℕ) → m.tree.scale ≡ scale → length m.last ≤ i → below scale i (last_rates m) ≡ lower_rates m
below-all m scale i same l =
    ap (filter (λ r. nat_lt r scale)) (whole i (last_rates m) (let long = length-map m.last (rate m.tree) in omega (arith, long, l)))
    ∙ ap (λ s. filter (λ r. nat_lt r s) (last_rates m)) (sym same) ∙ filter-rates (rate m.tree) m.tree.scale m.last
  where
    whole : (n : ℕ) (xs : List ℕ) → length xs ≤ n → take n xs ≡ xs
    whole zero [] l = refl
    whole zero (x ∷ xs) l = absurd (omega arith)
    whole (suc n) [] l = refl
    whole (suc n) (x ∷ xs) l = ap (λ ys. x ∷ ys) (whole n xs (omega arith))

pub rate_there : (m : Making) (i r : ℕ) → i < length m.last → r ≡ rate m.tree (get_or m.last i 0) → r ≡ get_or (last_rates m) i 0
rate_there m i r l e = e ∙ sym (get_or-map (rate m.tree) m.last i 0 0 l)

pub last_long : (m : Making) (i : ℕ) → i < length m.last → i < length (last_rates m)
last_long m i l = let long = length-map m.last (rate m.tree) in omega (arith, long, l)

-- each of them is below the scale
pub lower_less : (m : Making) (k : ℕ) → k < length (lower_rates m) → get_or (lower_rates m) k 0 < m.tree.scale
lower_less m k l =
    let long = length-map (lower_packs m) (rate m.tree) in
    let lk : k < length (lower_packs m) = omega (arith, l, long) in
    let (j, lj, at, on) = kept_in (is_lower m) m.last k lk in
    let small = ltb-true (rate m.tree (get_or (lower_packs m) k 0)) m.tree.scale on in
    let is = get_or-map (rate m.tree) (lower_packs m) k 0 0 lk in
    omega (arith, small, is)

-- ---- one level

abbrev pub duals_from : ℕ → List ℕ → List ℕ
duals_from scale rates = map (λ r. scale - r) rates

pub duals_are : (m : Making) (scale : ℕ) → m.tree.scale ≡ scale → duals_from scale (lower_rates m) ≡ lower_duals m
duals_are m scale same = ap (λ s. duals_from s (lower_rates m)) (sym same) ∙ go (lower_packs m)
  where
    go : (packs : List ℕ) → duals_from m.tree.scale (map (rate m.tree) packs) ≡ map (λ p. m.tree.scale - rate m.tree p) packs
    go [] = refl
    go (p ∷ packs) = ap (λ xs. (m.tree.scale - rate m.tree p) ∷ xs) (go packs)

-- what duals asks for, and what it gives
pub lower_range : (m : Making) (scale : ℕ) (lower : List ℕ) → m.tree.scale ≡ scale → lower ≡ lower_rates m → ((k : ℕ) → k < length lower →
    0 < get_or lower k 0) → All (λ r. (0 < r) × (r < scale)) lower
lower_range m scale lower same is some =
    All-from_get_or (λ r. (0 < r) × (r < scale)) lower 0 (λ k l. (
      some k l,
      (let count = ap length is in let b = lower_less m k (omega (arith, l, count)) in
          let e = ap (λ xs. get_or xs k 0) is in omega (arith, b, e, same)),
    ))

pub duals_range : (scale : ℕ) (lower duals : List ℕ) → duals ≡ duals_from scale lower → All (λ r. (0 < r) × (r < scale)) lower →
    All (λ r. (1 ≤ r) × (r ≤ scale)) duals
duals_range scale lower duals is h =
    All-from_get_or (λ r. (1 ≤ r) × (r ≤ scale)) duals 0 (λ k l. (
    let long = ap length is in
    let count = length-map lower (λ r. scale - r) in
    let lk : k < length lower = omega (arith, l, long, count) in
    let e = ap (λ xs. get_or xs k 0) is ∙ get_or-map (λ r. scale - r) lower k 0 0 lk in
    let b = h k 0 lk in
    let some = b.0 in
    let less = b.1 in
    (omega (arith, e, some, less), omega (arith, e, some, less))))

pub duals_long : (m : Making) (scale : ℕ) (lower duals : List ℕ) → lower ≡ lower_rates m → duals ≡ duals_from scale lower →
    length duals ≡ length (lower_packs m)
duals_long m scale lower duals are is =
    let a = ap length is in
    let b = length-map lower (λ r. scale - r) in
    let c = ap length are in
    let d = length-map (lower_packs m) (rate m.tree) in
    omega (arith, a, b, c, d)

-- ---- level on level

-- a tree in the making above level 0, with the rates of the packs that aren't roots
pub record IsClimbing (first m : Making) (lower : List ℕ) : Type 0 where
  pub above : ℕ
  pub up : IsRaised above first
  pub is : m ≡ raised above first
  pub rates : lower ≡ lower_rates m

module _ (processors scale : ℕ) (rates : List ℕ) (h : RatesFit processors scale rates) (few : processors ≤ 32) (tasks : length rates ≤ 256) where
  abbrev pub first : Making
  first = first_level processors scale rates

  pub climb_start : (m : Making) (lower : List ℕ) → m ≡ first → lower ≡ lower_rates m → IsClimbing first m lower
  climb_start m lower e are = record { above = 0; up = (λ k l. absurd (omega arith)); is = e; rates = are }

  -- what the next level asks for
  pub record MayRaise (m : Making) (lower : List ℕ) : Type 0 where
    pub scale_is : m.tree.scale ≡ scale
    pub few_rates : length lower ≤ 1024
    pub few_levels : m.tree.levels < 4096
    pub positive : (k : ℕ) → k < length lower → 0 < get_or lower k 0

  pub packs_limit : length first.last ≤ 256
  packs_limit =
      let a = packs_few processors scale rates h in
      let b = servers_few scale rates in
      omega (arith, a, b, few, tasks)

  pub lower_long : (m : Making) (lower : List ℕ) → IsClimbing first m lower → length lower ≡ length (lower_packs m)
  lower_long m lower c = ap length c.rates ∙ length-map (lower_packs m) (rate m.tree)

  pub climb_asks : (m : Making) (lower : List ℕ) → IsClimbing first m lower → MayRaise m lower
  climb_asks m lower c =
      let v0 = level_0_is processors scale rates h in
      let v = raised_level first v0 c.above c.up in
      let kept = level_0_kept processors scale rates h in
      let top = packs_limit in
      let packs = raised_few first v0 c.above c.up in
      let fewer = raised_lower first v0 c.above in
      let long = lower_long m lower c ∙ ap (λ n. length (lower_packs n)) c.is in
      let levels = raised_levels first v0 c.above c.up in
      let one = kept.2 in
      let at = ap (λ (n : Making). n.tree.levels) c.is in
      record {
        scale_is = ap (λ (n : Making). n.tree.scale) c.is ∙ (raised_above first v0 c.above c.up).scale_same ∙ kept.0;
        few_rates = omega (arith, long, fewer, packs, top);
        few_levels = omega (arith, at, levels, one, packs, top);
        positive = λ k l. (
            let is = c.rates ∙ ap lower_rates c.is in
            let n : Making = raised c.above first in
            let b : k < length (lower_packs n) = omega (arith, l, long) in
            let (j, lj, e, on) = kept_in (is_lower n) n.last k b in
            let there = get_or-map (rate n.tree) (lower_packs n) k 0 0 b in
            let some = level_rates_fit n v j 0 (last_long n j lj) in
            let positive = some.0 in
            let from = get_or-map (rate n.tree) n.last j 0 0 lj in
            let same = ap (rate n.tree) e in
            let read = ap (λ xs. get_or xs k 0) is in
            omega (arith, read, there, same, from, positive));
      }

  pub climb_up : (m : Making) (lower : List ℕ) (c : IsClimbing first m lower) → 0 < length lower → IsRaised (suc c.above) first
  climb_up m lower c some k l =
      elim (cases_lt k c.above) [
        | inl b ↦ c.up k b
        | inr ge ↦
            (let e : c.above ≡ k = omega (arith, l, ge) in
            let long = lower_long m lower c ∙ ap (λ n. length (lower_packs n)) c.is in
            let P : ℕ → Type 0 = λ x. 0 < length (lower_packs (raised x first)) in
            subst P e (omega (arith, long, some)))
      ]

  pub climb_next : (m after : Making) (lower rest : List ℕ) → IsClimbing first m lower → 0 < length lower → after ≡ lifted (lower_packs m)
      (homes scale (lower_duals m)) m → rest ≡ lower_rates after →
      IsClimbing first after rest × (length rest < length lower)
  climb_next m after lower rest c some e are =
      let v0 = level_0_is processors scale rates h in
      let v = raised_level first v0 c.above c.up in
      let up = climb_up m lower c some in
      let same = (raised_above first v0 c.above c.up).scale_same ∙ (level_0_kept processors scale rates h).0 in
      let n : Making = raised c.above first in
      let is : after ≡ raised (suc c.above) first =
      e ∙ ap (λ x. lifted (lower_packs x) (homes scale (lower_duals x)) x) c.is ∙ ap (λ s. lifted (lower_packs n) (homes s (lower_duals n)) n) (sym same)
      ∙ level_follows n v in
      let next : IsClimbing first after rest = record { above = suc c.above; up = up; is = is; rates = are } in
      let fewer = raised_fewer first v0 c.above up in
      let left = raised_lower first v0 (suc c.above) in
      let before = lower_long m lower c ∙ ap (λ x. length (lower_packs x)) c.is in
      let now = lower_long after rest next ∙ ap (λ x. length (lower_packs x)) is in
      (next, omega (arith, fewer, left, before, now))

  pub climb_end : (m : Making) (lower : List ℕ) → IsClimbing first m lower → length lower ≡ 0 → (m.tree ≡ tree_of_rates processors scale rates) × IsTree m.tree
  climb_end m lower c none =
      let v0 = level_0_is processors scale rates h in
      let done : length (lower_packs (raised c.above first)) ≡ 0 = ap (λ n. length (lower_packs n)) (sym c.is) ∙ sym (lower_long m lower c) ∙ none in
      let P : Making → Type 0 = λ n. IsTree n.tree in (
        ap (λ (n : Making). n.tree) c.is ∙ sym (last_level processors scale rates h c.above c.up done),
        subst P (sym c.is) (is_tree (raised c.above first)
            (raised_level first v0 c.above c.up) done),
      )
