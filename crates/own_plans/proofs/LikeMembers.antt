-- Members of two packs that are alike.
use Rattle.std.proofs.Common.{◌≡◌, ◌∙◌, ℕ, ◌*◌, ◌<◌, List, ap, length, refl, subst, sym}
use Rattle.sched_base.specs.declared.rows.NodeId.{NodeId}
use Rattle.run_tree.specs.Plans.{PlanContents}
use Rattle.run_tree.specs.Tree.{IsPack, IsTree, Tree, leaf, member, members, numbers, rate}
use Rattle.run_tree.proofs.NodeReads.{length-members}
use Rattle.partition_laws.specs.Partitions.{AreAlike}
use Rattle.part_plans.proofs.NodeLemmas.{member_within}

-- members k of both are alike
abbrev pub AreAlikeAt : PlanContents → PlanContents → ℕ → ℕ → ℕ → ℕ → Type 0
AreAlikeAt whole own p q factor k = (rate whole.tree (member whole.tree p k) ≡ factor * rate own.tree (member own.tree q k))
    × AreAlike whole.set.tasks own.set.tasks (leaf whole.tree (member whole.tree p k)) (leaf own.tree (member own.tree q k))

module _ (s t : Tree) (same : s ≡ t) (p : ℕ) (ids : List NodeId) (all : numbers ids ≡ members s p) where
  -- what is read of a tree that is the same are as many members
  pub count_is : length ids ≡ length (members t p)
  count_is = length-members s p ids all ∙ ap (λ (u : Tree). length (members u p)) same

  -- a place among them is one of the tree read next
  pub place_in : (u : Tree) → u ≡ t → (k : ℕ) → k < length ids → k < length (members u p)
  place_in u next k l = subst (λ n. k < n) (count_is ∙ ap (λ (v : Tree). length (members v p)) (sym next)) l

-- a member that is read of a tree that is the same is a node
pub member_node : (t u : Tree) → u ≡ t → (p k x : ℕ) → IsTree t → IsPack t p → k < length (members u p) → x ≡ member u p k → x < length t.nodes
member_node t u same p k x h is l at =
    member_within t p k x (length t.nodes) h is (subst (λ (v : Tree). k < length (members v p)) same l) (at ∙ ap (λ (v : Tree). member v p k) same) refl

-- nodes that are read as members k of both, and are alike
pub alike_at : (whole own : PlanContents) (p q factor k : ℕ) (s t : Tree) (x y : ℕ) → s ≡ whole.tree → t ≡ own.tree → x ≡ member s p k → y ≡ member t q k →
    rate whole.tree x ≡ factor * rate own.tree y → AreAlike whole.set.tasks own.set.tasks (leaf whole.tree x) (leaf own.tree y) → AreAlikeAt whole own p q
    factor k
alike_at whole own p q factor k s t x y ss st sx sy rates leaves =
    let xs : x ≡ member whole.tree p k = sx ∙ ap (λ (u : Tree). member u p k) ss in
    let ys : y ≡ member own.tree q k = sy ∙ ap (λ (u : Tree). member u q k) st in
    let P : ℕ → ℕ → Type 0 = λ n m. (rate whole.tree n ≡ factor * rate own.tree m) × AreAlike whole.set.tasks own.set.tasks (leaf whole.tree n)
    (leaf own.tree m) in
    subst (λ n. P n (member own.tree q k)) xs (subst (P x) ys (rates, leaves))
