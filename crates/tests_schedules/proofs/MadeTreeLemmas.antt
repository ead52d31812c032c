-- The tree of three tasks, as it is made.
use Rattle.std.proofs.Common.{◌≡◌, ℕ, ◌+◌, ◌<◌, ◌≤◌, [], ◌∷◌, length, refl, sym, subst, ap, ◌∙◌, arith}
use Rattle.std.specs.List.{slice_index}
use Rattle.std.proofs.lemmas.List.Elements.{All-from_recursion}
use Rattle.sched_base.specs.declared.rows.Leaf.TheVariants.{Task}
use Rattle.run_tree.specs.declared.kinds.Kind.TheVariants as kind
use Rattle.run_tree.specs.Tree.{IsTree, rate}
use Rattle.run_tree.specs.Making.{Making, started, put, lower_packs, lifted}
use Rattle.run_tree.specs.Maker.{leaf_count}
use Rattle.run_tree.specs.Compiled.{tree_of_rates}
use Rattle.tree_laws.specs.Raised.{RatesFit}
use Rattle.tree_laws.proofs.CompiledTree.{tree_is_tree}

-- task j, of rate 2, in pack j
abbrev pub with_task : ℕ → Making → Making
with_task j m = put (kind.Leaf (Task (record { 0 = j }))) 2 j m

abbrev pub one : Making
one = with_task 0 (started 2 3)

abbrev pub two : Making
two = with_task 1 one

abbrev pub three : Making
three = with_task 2 two

-- what is asked of a maker where task j comes into a new pack
pub record TakesTask (j : ℕ) (m : Making) : Type 0 where
  pub first_level : m.tree.levels ≡ 1
  pub few : leaf_count m.tree < 1280
  pub pack : j ≤ length m.last
  pub rate_fits : 2 ≤ m.tree.scale
  pub within : j < length m.last → rate m.tree (slice_index m.last j) + 2 ≤ m.tree.scale

one_takes : TakesTask 1 one
unfolding put
one_takes = record { first_level = refl; few = omega arith; pack = omega arith; rate_fits = omega arith; within = λ less. absurd (omega (arith, less)) }

two_takes : TakesTask 2 two
unfolding put
two_takes = record { first_level = refl; few = omega arith; pack = omega arith; rate_fits = omega arith; within = λ less. absurd (omega (arith, less)) }

-- what is asked of a maker where the duals of its three packs get a level
pub record TakesLevel (m : Making) : Type 0 where
  pub few_levels : m.tree.levels < 4096
  pub some : 0 < length (lower_packs m)
  pub homes : 3 ≡ length (lower_packs m)

three_takes : TakesLevel three
unfolding put
three_takes = record { few_levels = omega arith; some = omega arith; homes = refl }

rates_fit : RatesFit 2 3 (2 ∷ 2 ∷ 2 ∷ [])
rates_fit =
    let of_one : (1 ≤ 2) × (2 ≤ 3) = (omega arith, omega arith) in
    record {
      some_processors = omega arith;
      some_scale = omega arith;
      each = All-from_recursion (λ r. (1 ≤ r) × (r ≤ 3)) (2 ∷ 2 ∷ 2 ∷ []) (of_one, (of_one, (of_one, tt)));
      fit = omega arith;
    }

-- it is that which is compiled
compiled : (lifted (lower_packs three) (0 ∷ 0 ∷ 0 ∷ []) three).tree ≡ tree_of_rates 2 3 (2 ∷ 2 ∷ 2 ∷ [])
unfolding put lifted tree_of_rates
compiled = refl

-- ---- the maker, step by step

module _ (a : Making) (at_start : a ≡ started 2 3) (b : Making) (b_is : b ≡ with_task 0 a) where
  is_one : b ≡ one
  is_one = b_is ∙ ap (with_task 0) at_start

  pub second : TakesTask 1 b
  second = subst (TakesTask 1) (sym is_one) one_takes

  module _ (c : Making) (c_is : c ≡ with_task 1 b) where
    is_two : c ≡ two
    is_two = c_is ∙ ap (with_task 1) is_one

    pub third : TakesTask 2 c
    third = subst (TakesTask 2) (sym is_two) two_takes

    module _ (d : Making) (d_is : d ≡ with_task 2 c) where
      is_three : d ≡ three
      is_three = d_is ∙ ap (with_task 2) is_two

      pub higher : TakesLevel d
      higher = subst TakesLevel (sym is_three) three_takes

      pub whole : (e : Making) → e ≡ lifted (lower_packs d) (0 ∷ 0 ∷ 0 ∷ []) d → IsTree e.tree
      whole e e_is = subst (λ m. IsTree m.tree) (sym (e_is ∙ ap (λ m. lifted (lower_packs m) (0 ∷ 0 ∷ 0 ∷ []) m) is_three))
          (subst IsTree (sym compiled) (tree_is_tree 2 3 (2 ∷ 2 ∷ 2 ∷ []) rates_fit))
