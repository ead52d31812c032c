-- Duals that are read from a tree.
use Rattle.std.proofs.Common.{ℕ, ◌≡◌, ◌<◌, IfSome, None, Option, Some, length, subst, sym, option_map}
use Rattle.sched_base.specs.declared.rows.NodeId.{NodeId}
use Rattle.run_tree.specs.Tree.{IsDual, IsPack, IsTree, Tree, dual, home, kind_at}
use Rattle.run_tree.proofs.KindLemmas.{not_pack}

module _ (t : Tree) (h : IsTree t) (p : ℕ) (is : IsPack t p) where
  -- what is read as a dual is one
  pub dual_is : (found : Option NodeId) (d : NodeId) → found ≡ Some d → option_map (λ (x : NodeId). x.0) found ≡ dual t p →
      IsDual t d.0
  dual_is found d e told =
      let read : option_map (λ (x : NodeId). x.0) (Some d) ≡ dual t p =
      subst (λ (f : Option NodeId). option_map (λ (x : NodeId). x.0) f ≡ dual t p) e told in
      (h.has_dual p d.0 is (sym read)).0

  -- a node of the tree, if it is read
  pub dual_within : (found : Option NodeId) → option_map (λ (x : NodeId). x.0) found ≡ dual t p → IfSome found (λ d. d.0 < length t.nodes)
  dual_within None e = tt
  dual_within (Some d) e = (h.has_dual p d.0 is (sym e)).0.0

-- the home of a dual is a pack
pub home_is : (t : Tree) (h : IsTree t) (d : ℕ) → IsDual t d → IsPack t (home t d)
home_is t h d is = (h.homes_are d (is.0, not_pack (kind_at t d) is.1)).0
