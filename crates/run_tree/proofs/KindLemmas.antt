-- The three kinds of nodes.
use Rattle.std.proofs.Common.{false, inl, inr, refl, sym, true, ℕ, ◌≡◌, ◌⊎◌}
use Rattle.run_tree.specs.declared.kinds.Kind.{Kind}
use Rattle.sched_base.specs.declared.rows.Leaf.TheVariants.{Task}
use Rattle.run_tree.specs.Tree.{is_dual, is_leaf, is_pack, leaf, leaf_of, level, primal}
use Rattle.run_tree.specs.TreeOfSet.{task_id}
use Rattle.run_tree.specs.declared.kinds.Kind.TheVariants as kind

-- a node is a leaf, a dual or a pack
abbrev pub KindOf : Kind → Type 0
KindOf m = (is_leaf m ≡ true) ⊎ ((is_dual m ≡ true) ⊎ (is_pack m ≡ true))

pub kind_of : (m : Kind) → KindOf m
kind_of (kind.Leaf leaf) = inl refl
kind_of (kind.Pack level) = inr (inr refl)
kind_of (kind.Dual primal) = inr (inl refl)

pub not_pack : (m : Kind) → is_dual m ≡ true → is_pack m ≡ false
not_pack (kind.Leaf leaf) e = refl
not_pack (kind.Pack level) e = cc
not_pack (kind.Dual primal) e = refl

pub not_pack_leaf : (m : Kind) → is_leaf m ≡ true → is_pack m ≡ false
not_pack_leaf (kind.Leaf leaf) e = refl
not_pack_leaf (kind.Pack level) e = cc
not_pack_leaf (kind.Dual primal) e = refl

pub leaf_no_dual : (m : Kind) → is_leaf m ≡ true → is_dual m ≡ false
leaf_no_dual (kind.Leaf leaf) e = refl
leaf_no_dual (kind.Pack level) e = refl
leaf_no_dual (kind.Dual primal) e = sym e

pub dual_no_leaf : (m : Kind) → is_dual m ≡ true → is_leaf m ≡ false
dual_no_leaf (kind.Leaf leaf) e = sym e
dual_no_leaf (kind.Pack level) e = refl
dual_no_leaf (kind.Dual primal) e = refl

pub pack_no_leaf : (m : Kind) → is_pack m ≡ true → is_leaf m ≡ false
pack_no_leaf (kind.Leaf leaf) e = sym e
pack_no_leaf (kind.Pack level) e = refl
pack_no_leaf (kind.Dual primal) e = refl

pub leaf_of_task : (j : ℕ) (m : Kind) → leaf_of m ≡ Task (task_id j) → is_leaf m ≡ true
leaf_of_task j (kind.Leaf leaf) e = refl
leaf_of_task j (kind.Pack level) e = cc
leaf_of_task j (kind.Dual primal) e = cc
