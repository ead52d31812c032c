-- The compiled tree of a lawful set that fits is a reduction tree of it.
use Rattle.std.proofs.Common.{◌≡◌, ℕ, List, map, refl, sym, subst}
use Rattle.sched_base.specs.Sets.{SetContents, IsLawful}
use Rattle.sched_base.specs.Scale.{IsScale, Fits, rate_of}
use Rattle.run_tree.specs.TreeOfSet.{IsTreeOf}
use Rattle.run_tree.specs.Compiled.{tree_of}
use Rattle.tree_laws.proofs.SetRates.{rates_fit}
use Rattle.tree_laws.proofs.CompiledTree.{tree_is_tree, tree_kept, tree_holds, tree_numbers}

pub set_tree : (s : SetContents) (scale : ℕ) → IsLawful s → IsScale s.tasks scale → Fits scale s → IsTreeOf s (tree_of scale s)
set_tree s scale lawful is fits =
    let rates : List ℕ = map (rate_of scale) s.tasks in
    let fit = rates_fit s scale lawful is fits in
    let kept = tree_kept s.processors scale rates fit in
    record {
      tree = tree_is_tree s.processors scale rates fit;
      processors = kept.1;
      scale = subst (IsScale s.tasks) (sym kept.0) is;
      tasks = tree_holds s.processors scale rates fit s.tasks refl;
      idles = tree_numbers s.processors scale rates fit;
    }

pub set_tree_scale : (s : SetContents) (scale : ℕ) → IsLawful s → IsScale s.tasks scale → Fits scale s → (tree_of scale s).scale ≡ scale
set_tree_scale s scale lawful is fits = (tree_kept s.processors scale (map (rate_of scale) s.tasks) (rates_fit s scale lawful is fits)).0
