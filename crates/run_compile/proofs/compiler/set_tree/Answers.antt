use Rattle.std.proofs.Common.{◌≡◌, ◌∙◌, ap, length, arith, rules}
use Rattle.std.proofs.lemmas.Result.{IfOk-from_err, IfOk-weaker}
use Rattle.std.proofs.lemmas.List.{length-map}
use Rattle.run_tree.specs.Tree.{Tree}
use Rattle.run_tree.specs.TreeOfSet.{IsTreeOf}
use Rattle.run_tree.specs.Compiled.{tree_of, tree_of_rates}
use Rattle.run_compile.proofs.CompilerLemmas.{set_rates_fit, tree_made, made_scale, made_tree}
use Rattle.run_compile.proofs.compiler.set_tree.Goals as goal

pub tree_of-requires : goal.tree_of-requires
tree_of-requires c = record {
  fit = set_rates_fit c.args.set.now c.args.scale c.processors.result c.as_slice.result.now c.processors.ensures.lawful c.requires.scale.is c.requires.fits
      c.processors.ensures.value (c.as_slice.ensures.value ∙ c.in_ok-each.ensures.value);
  few_processors = search rules;
  scale_fits = c.requires.scale.within;
  few_tasks = omega (arith, simp length-map at (ap length (c.as_slice.ensures.value ∙ c.in_ok-each.ensures.value)), c.processors.ensures.lawful.few_tasks);
}

pub returns-clause-tree : goal.returns-clause-tree
returns-clause-tree c =
    IfOk-weaker c.tree_of.result (λ (tree : Tree). tree ≡ tree_of_rates c.processors.result c.args.scale c.as_slice.result.now)
    (λ (tree : Tree). tree ≡ tree_of c.args.scale c.args.set.now)
    (tree_made c.args.set.now c.args.scale c.processors.result c.as_slice.result.now c.processors.ensures.lawful c.requires.scale.is c.requires.fits
    c.processors.ensures.value (c.as_slice.ensures.value ∙ c.in_ok-each.ensures.value)) c.tree_of.ensures

pub returns-clause-scale : goal.returns-clause-scale
returns-clause-scale c =
    IfOk-weaker c.tree_of.result (λ (tree : Tree). tree ≡ tree_of_rates c.processors.result c.args.scale c.as_slice.result.now)
    (λ (tree : Tree). tree.scale ≡ c.args.scale)
    (made_scale c.args.set.now c.args.scale c.processors.result c.as_slice.result.now c.processors.ensures.lawful c.requires.scale.is c.requires.fits
    c.processors.ensures.value (c.as_slice.ensures.value ∙ c.in_ok-each.ensures.value)) c.tree_of.ensures

pub returns-clause-of_set : goal.returns-clause-of_set
returns-clause-of_set c =
    IfOk-weaker c.tree_of.result (λ (tree : Tree). tree ≡ tree_of_rates c.processors.result c.args.scale c.as_slice.result.now) (IsTreeOf c.args.set.now)
    (made_tree c.args.set.now c.args.scale c.processors.result c.as_slice.result.now c.processors.ensures.lawful c.requires.scale.is c.requires.fits
    c.processors.ensures.value (c.as_slice.ensures.value ∙ c.in_ok-each.ensures.value)) c.tree_of.ensures

pub rates_of-requires-clause-scale : goal.rates_of-requires-clause-scale
rates_of-requires-clause-scale c = c.requires.scale.is

pub rates_of-requires-clause-scale_fits : goal.rates_of-requires-clause-scale_fits
rates_of-requires-clause-scale_fits c = c.requires.scale.within

pub returns-in_err-each-clause-tree : goal.returns-in_err-each-clause-tree
returns-in_err-each-clause-tree c = IfOk-from_err _ _ c.from_residual.ensures.0

pub returns-in_err-each-clause-scale : goal.returns-in_err-each-clause-scale
returns-in_err-each-clause-scale c = IfOk-from_err _ _ c.from_residual.ensures.0

pub returns-in_err-each-clause-of_set : goal.returns-in_err-each-clause-of_set
returns-in_err-each-clause-of_set c = IfOk-from_err _ _ c.from_residual.ensures.0
