-- Nodes of a part's own plan that are like those that are noted for them.
use Rattle.std.proofs.Common.{◌≡◌, ◌∙◌, ℕ, ◌*◌, ◌<◌, true, false, List, get_or, length, sym}
use Rattle.std.proofs.lemmas.Bool.{false≢true}
use Rattle.run_tree.specs.Plans.{PlanContents}
use Rattle.run_tree.specs.Tree.{is_pack, kind_at, leaf, rate}
use Rattle.run_tree.proofs.KindLemmas.{not_pack_leaf}
use Rattle.partition_laws.specs.Partitions.{AreAlike}
use Rattle.part_plans.specs.Likeness.{IsNodeLike, IsPackLike}

module _ (whole own : PlanContents) (onto : List ℕ) (factor n : ℕ) (within : get_or onto n 0 < length whole.tree.nodes) where
  -- a pack that is like a pack
  pub pack_like : is_pack (kind_at own.tree n) ≡ true → IsPackLike whole.tree own.tree onto (get_or onto n 0) n → IsNodeLike whole own onto factor n
  pack_like pack like = record {
    within = within;
    pack = λ _. like;
    rates = λ is. absurd (false≢true (sym is.1 ∙ pack));
    alike = λ is. absurd (false≢true (sym (not_pack_leaf (kind_at own.tree n) is.1) ∙ pack));
  }

  -- a leaf that is like a leaf
  pub leaf_like : is_pack (kind_at own.tree n) ≡ false → rate whole.tree (get_or onto n 0) ≡ factor * rate own.tree n →
      AreAlike whole.set.tasks own.set.tasks (leaf whole.tree (get_or onto n 0)) (leaf own.tree n) → IsNodeLike whole own onto factor n
  leaf_like member rates alike = record {
    within = within;
    pack = λ is. absurd (false≢true (sym member ∙ is.1));
    rates = λ _. rates;
    alike = λ _. alike;
  }
