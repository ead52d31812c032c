-- Trees of worked sets, computed: a review of the definitions.
use Rattle.std.specs.Prelude.{◌≡◌, ◌==◌, ℕ, List, [], ◌∷◌, map}
use Rattle.std.proofs.Common.{refl}
use Rattle.std.specs.List.{position_or_len}
use Rattle.sched_base.specs.declared.rows.Leaf.{Leaf}
use Rattle.sched_base.specs.declared.rows.Leaf.TheVariants.{Task, Wait, Idle, Empty}
use Rattle.run_tree.specs.declared.kinds.Kind.{Kind}
use Rattle.run_tree.specs.declared.kinds.Kind.TheVariants as kind
use Rattle.run_tree.specs.Tree.{Tree, kind_at, level, rate, members}
use Rattle.run_tree.specs.Schedule.{packs_at}
use Rattle.run_tree.specs.Making.{put}
use Rattle.run_tree.specs.Compiled.{tree_of_rates}

-- what is told of a member: the task, the idle leaf's number, or the place of the primal in its level
data Told : Type 0 where
  task : ℕ → Told
  idle : ℕ → Told
  dual : ℕ → Told
  nothing : Told

record Pack : Type 0 where
  pub rate : ℕ
  pub members : List Told

abbrev pack : ℕ → List Told → Pack
pack rate members = record { rate = rate; members = members }

abbrev told_leaf : Leaf → Told
told_leaf (Task id) = task id.0
told_leaf (Wait id) = nothing
told_leaf (Idle number) = idle number
told_leaf Empty = nothing

abbrev told : Tree → Kind → Told
told t (kind.Leaf leaf) = told_leaf leaf
told t (kind.Pack level) = nothing
told t (kind.Dual primal) = dual (position_or_len (λ p. p == primal.0) (packs_at t (level t primal.0)))

abbrev packs_told : Tree → ℕ → List Pack
packs_told t l = map (λ p. pack (rate t p) (map (λ x. told t (kind_at t x)) (members t p))) (packs_at t l)

-- three tasks of rate 2/3 on two processors
three_tasks : map (packs_told (tree_of_rates 2 3 (2 ∷ 2 ∷ 2 ∷ []))) (0 ∷ 1 ∷ 2 ∷ [])
    ≡ (pack 2 (task 0 ∷ []) ∷ pack 2 (task 1 ∷ []) ∷ pack 2 (task 2 ∷ []) ∷ []) ∷ (pack 3 (dual 0 ∷ dual 1 ∷ dual 2 ∷ []) ∷ []) ∷ [] ∷ []
unfolding tree_of_rates put
three_tasks = refl

-- one idle leaf, at the end of the first pack
one_idle_leaf : map (packs_told (tree_of_rates 2 5 (3 ∷ 3 ∷ 3 ∷ []))) (0 ∷ 1 ∷ 2 ∷ [])
    ≡ (pack 4 (task 0 ∷ idle 0 ∷ []) ∷ pack 3 (task 1 ∷ []) ∷ pack 3 (task 2 ∷ []) ∷ []) ∷ (pack 5 (dual 0 ∷ dual 1 ∷ dual 2 ∷ []) ∷ []) ∷ [] ∷ []
unfolding tree_of_rates put
one_idle_leaf = refl

-- two reductions
two_reductions : map (packs_told (tree_of_rates 3 5 (3 ∷ 3 ∷ 3 ∷ 3 ∷ 3 ∷ []))) (0 ∷ 1 ∷ 2 ∷ 3 ∷ [])
    ≡ (pack 3 (task 0 ∷ []) ∷ pack 3 (task 1 ∷ []) ∷ pack 3 (task 2 ∷ []) ∷ pack 3 (task 3 ∷ []) ∷ pack 3 (task 4 ∷ []) ∷ [])
    ∷ (pack 4 (dual 0 ∷ dual 1 ∷ []) ∷ pack 4 (dual 2 ∷ dual 3 ∷ []) ∷ pack 2 (dual 4 ∷ []) ∷ [])
    ∷ (pack 5 (dual 0 ∷ dual 1 ∷ dual 2 ∷ []) ∷ []) ∷ [] ∷ []
unfolding tree_of_rates put
two_reductions = refl

-- no tasks: each processor has an idle leaf of its own
no_tasks : map (packs_told (tree_of_rates 2 1 [])) (0 ∷ 1 ∷ []) ≡ (pack 1 (idle 0 ∷ []) ∷ pack 1 (idle 1 ∷ []) ∷ []) ∷ [] ∷ []
unfolding tree_of_rates put
no_tasks = refl

-- nine tasks in microseconds, on four processors: control, sense, fuse, plan, video, log, net, store, health
nine_tasks : map (packs_told (tree_of_rates 4 1000000 (600000 ∷ 600000 ∷ 600000 ∷ 600000 ∷ 600000 ∷ 200000 ∷ 300000 ∷ 300000 ∷ 200000 ∷ []))) (0 ∷ 1 ∷ 2 ∷ [])
    ≡ (pack 1000000 (task 0 ∷ task 5 ∷ task 8 ∷ []) ∷ pack 900000 (task 1 ∷ task 6 ∷ []) ∷ pack 900000 (task 2 ∷ task 7 ∷ []) ∷ pack 600000 (task 3 ∷ [])
    ∷ pack 600000 (task 4 ∷ []) ∷ [])
    ∷ (pack 1000000 (dual 1 ∷ dual 2 ∷ dual 3 ∷ dual 4 ∷ []) ∷ []) ∷ [] ∷ []
unfolding tree_of_rates put
nine_tasks = refl
