-- Three packs that are lifted backwards.
use Rattle.std.proofs.Common.{◌≡◌, ℕ, zero, suc, ◌+◌, ◌<◌, ◌≤◌, [], ◌∷◌, length, refl, sym, subst, ap, ◌∙◌, arith}
use Rattle.std.specs.List.{slice_index}
use Rattle.sched_base.specs.declared.rows.Leaf.TheVariants.{Task}
use Rattle.run_tree.specs.declared.kinds.Kind.TheVariants as kind
use Rattle.run_tree.specs.Tree.{rate}
use Rattle.run_tree.specs.Making.{Making, started, put, lower_packs}
use Rattle.run_tree.specs.Maker.{leaf_count, NamesLower}

-- task j, of rate r, in pack j
abbrev pub with_task : ℕ → ℕ → Making → Making
with_task j r m = put (kind.Leaf (Task (record { 0 = j }))) r j m

abbrev pub one : Making
one = with_task 0 2 (started 2 3)

abbrev pub two : Making
two = with_task 1 1 one

abbrev pub three : Making
three = with_task 2 1 two

-- what is asked of a maker where task j, of rate 1, comes into a new pack
pub record TakesTask (j : ℕ) (m : Making) : Type 0 where
  pub first_level : m.tree.levels ≡ 1
  pub few : leaf_count m.tree < 1280
  pub pack : j ≤ length m.last
  pub rate_fits : 1 ≤ m.tree.scale
  pub within : j < length m.last → rate m.tree (slice_index m.last j) + 1 ≤ m.tree.scale

one_takes : TakesTask 1 one
unfolding put
one_takes = record { first_level = refl; few = omega arith; pack = omega arith; rate_fits = omega arith; within = λ less. absurd (omega (arith, less)) }

two_takes : TakesTask 2 two
unfolding put
two_takes = record { first_level = refl; few = omega arith; pack = omega arith; rate_fits = omega arith; within = λ less. absurd (omega (arith, less)) }

-- each of its packs is named once, and none is a root
three_lower : (k : ℕ) → k < 3 → (slice_index (2 ∷ 1 ∷ 0 ∷ []) k < length three.last)
    × (rate three.tree (slice_index three.last (slice_index (2 ∷ 1 ∷ 0 ∷ []) k)) < three.tree.scale)
unfolding put
three_lower zero less = (omega arith, omega arith)
three_lower (suc zero) less = (omega arith, omega arith)
three_lower (suc (suc zero)) less = (omega arith, omega arith)
three_lower (suc (suc (suc k))) less = absurd (omega (arith, less))

three_once : (j k : ℕ) → j < 3 → k < 3 → slice_index (2 ∷ 1 ∷ 0 ∷ []) j ≡ slice_index (2 ∷ 1 ∷ 0 ∷ []) k → j ≡ k
three_once zero zero a b e = refl
three_once zero (suc zero) a b e = absurd (omega (arith, e))
three_once zero (suc (suc zero)) a b e = absurd (omega (arith, e))
three_once zero (suc (suc (suc k))) a b e = absurd (omega (arith, b))
three_once (suc zero) zero a b e = absurd (omega (arith, e))
three_once (suc zero) (suc zero) a b e = refl
three_once (suc zero) (suc (suc zero)) a b e = absurd (omega (arith, e))
three_once (suc zero) (suc (suc (suc k))) a b e = absurd (omega (arith, b))
three_once (suc (suc zero)) zero a b e = absurd (omega (arith, e))
three_once (suc (suc zero)) (suc zero) a b e = absurd (omega (arith, e))
three_once (suc (suc zero)) (suc (suc zero)) a b e = refl
three_once (suc (suc zero)) (suc (suc (suc k))) a b e = absurd (omega (arith, b))
three_once (suc (suc (suc j))) k a b e = absurd (omega (arith, a))

three_all : (i : ℕ) → i < length three.last → rate three.tree (slice_index three.last i) < three.tree.scale →
    (k : ℕ) × (k < 3) × (slice_index (2 ∷ 1 ∷ 0 ∷ []) k ≡ i)
unfolding put
three_all zero less below = (2, omega arith, refl)
three_all (suc zero) less below = (1, omega arith, refl)
three_all (suc (suc zero)) less below = (0, omega arith, refl)
three_all (suc (suc (suc i))) less below = absurd (omega (arith, less))

-- what is asked of a maker where its packs get a level, from the last one to the first
pub record TakesLevel (m : Making) : Type 0 where
  pub few_levels : m.tree.levels < 4096
  pub some : 0 < length (lower_packs m)
  pub order : NamesLower m (2 ∷ 1 ∷ 0 ∷ [])

three_takes : TakesLevel three
unfolding put
three_takes = record { few_levels = omega arith; some = omega arith; order = record { lower = three_lower; once = three_once; all = three_all } }

-- ---- the maker, step by step

module _ (a : Making) (at_start : a ≡ started 2 3) (b : Making) (b_is : b ≡ with_task 0 2 a) where
  is_one : b ≡ one
  is_one = b_is ∙ ap (with_task 0 2) at_start

  pub second : TakesTask 1 b
  second = subst (TakesTask 1) (sym is_one) one_takes

  module _ (c : Making) (c_is : c ≡ with_task 1 1 b) where
    is_two : c ≡ two
    is_two = c_is ∙ ap (with_task 1 1) is_one

    pub third : TakesTask 2 c
    third = subst (TakesTask 2) (sym is_two) two_takes

    pub higher : (d : Making) → d ≡ with_task 2 1 c → TakesLevel d
    higher d d_is = subst TakesLevel (sym (d_is ∙ ap (with_task 2 1) is_two)) three_takes
