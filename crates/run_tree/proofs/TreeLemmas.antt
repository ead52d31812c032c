-- Nodes of a tree, by level.
use Rattle.std.proofs.Common.{ap, arith, eq-eqb, eqb, get_or, inl, inr, length, true, zero-add, ℕ, ◌*◌, ◌+◌, ◌<◌, ◌∙◌, ◌≡◌}
use Rattle.std.proofs.lemmas.Bool.{and_from, and_parts, both_ways, eqb-true}
use Rattle.sched_base.specs.Counting.{bit, sum_to}
use Rattle.sched_base.proofs.SumLemmas.{sum_to-same}
use Rattle.sched_base.proofs.ListLemmas.{first_from, sum_list_passing, sum_list_places}
use Rattle.run_tree.specs.Tree.{IsMember, IsPack, IsTree, Tree, at_level, home, is_leaf, is_pack, kind_at, level}
use Rattle.run_tree.specs.Schedule.{packs_at}
use Rattle.run_tree.proofs.KindLemmas.{KindOf, kind_of}

module _ (t : Tree) where
  -- what the test of the level says
  pub pack_at : (l p : ℕ) → p < length t.nodes → at_level t l p ≡ true → IsPack t p × (level t p ≡ l)
  pack_at l p b e = let both = and_parts (is_pack (kind_at t p)) (eqb (level t p) l) e in ((b, both.0), eqb-true (level t p) l both.1)

  -- and the other way round
  pub at_from : (l p : ℕ) → IsPack t p → level t p ≡ l → at_level t l p ≡ true
  at_from l p i e = and_from (is_pack (kind_at t p)) (eqb (level t p) l) i.1 (eq-eqb (level t p) l e)

-- the packs of level 0 are packs
pub first_is_pack : (t : Tree) (h : IsTree t) (i : ℕ) → i < length (packs_at t 0) → IsPack t (get_or (packs_at t 0) i 0)
first_is_pack t h i l = let r = first_from (at_level t 0) (length t.nodes) 0 i l in (pack_at t 0 (get_or (packs_at t 0) i 0) (let b = r.0 in
    omega (arith, b)) r.1).0

-- a member of a pack of level 0 is a leaf
pub leaf_at_level : (t : Tree) (h : IsTree t) (x : ℕ) → IsMember t x → level t (home t x) ≡ 0 → is_leaf (kind_at t x) ≡ true
leaf_at_level t h x i low = go (kind_of (kind_at t x))
  where
    go : KindOf (kind_at t x) → is_leaf (kind_at t x) ≡ true
    go (inl a_leaf) = a_leaf
    go (inr (inl a_dual)) = (let up = (h.duals_are x (i.0, a_dual)).2 in absurd (omega (arith, up, low)))
    go (inr (inr a_pack)) = absurd (both_ways (is_pack (kind_at t x)) i.1 a_pack)

-- over the packs of level 0, by place or by node
pub over_packs : (t : Tree) (g : ℕ → ℕ) → sum_to (length (packs_at t 0)) (λ i. g (get_or (packs_at t 0) i 0)) ≡ sum_to (length t.nodes)
    (λ p. bit (at_level t 0 p) * g p)
over_packs t g =
    sum_list_places g (packs_at t 0)
    ∙ sum_list_passing g (at_level t 0) (length t.nodes) 0
    ∙ sum_to-same (length t.nodes) (λ k. bit (at_level t 0 (0 + k)) * g (0 + k)) (λ p. bit (at_level t 0 p) * g p)
    (λ k l. ap (λ x. bit (at_level t 0 x) * g x) (zero-add k))
