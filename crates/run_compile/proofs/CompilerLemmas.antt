-- What the compiler's tree is to its set.
use Rattle.std.proofs.Common.{◌≡◌, ℕ, List, map, ap, ap₂, sym, subst, subst₂, ◌∙◌}
use Rattle.sched_base.specs.Sets.{SetContents, IsLawful}
use Rattle.sched_base.specs.Scale.{IsScale, Fits, rate_of}
use Rattle.run_tree.specs.Tree.{Tree}
use Rattle.run_tree.specs.TreeOfSet.{IsTreeOf}
use Rattle.run_tree.specs.Compiled.{tree_of, tree_of_rates}
use Rattle.tree_laws.specs.Raised.{RatesFit}
use Rattle.tree_laws.proofs.SetRates.{rates_fit}
use Rattle.tree_laws.proofs.SetTree.{set_tree, set_tree_scale}

module _ (s : SetContents) (scale processors : ℕ) (rates : List ℕ) (lawful : IsLawful s) (is : IsScale s.tasks scale) (fits : Fits scale s)
    (same : processors ≡ s.processors) (are : rates ≡ map (rate_of scale) s.tasks) where
  pub set_rates_fit : RatesFit processors scale rates
  set_rates_fit = subst₂ (λ m rs. RatesFit m scale rs) (sym same) (sym are) (rates_fit s scale lawful is fits)

  module _ (tree : Tree) (made : tree ≡ tree_of_rates processors scale rates) where
    pub tree_made : tree ≡ tree_of scale s
    tree_made = made ∙ ap₂ (λ m rs. tree_of_rates m scale rs) same are

    pub made_scale : tree.scale ≡ scale
    made_scale = ap (λ (t : Tree). t.scale) tree_made ∙ set_tree_scale s scale lawful is fits

    pub made_tree : IsTreeOf s tree
    made_tree = subst (IsTreeOf s) (sym tree_made) (set_tree s scale lawful is fits)
