use Rattle.std.proofs.Common.{arith, ap, ap₂, sym, subst, ◌∙◌}
use Rattle.sched_base.specs.Sets.{SetContents}
use Rattle.run_tree.specs.Tree.{IsTree}
use Rattle.run_tree.specs.Making.{Making, started}
use Rattle.tree_check.proofs.LeafSteps.{first_start}
use Rattle.tree_check.proofs.TextLevels.{text_is_tree}
use Rattle.std.proofs.lemmas.Result.{IfOk-from_err}
use Rattle.tree_check.proofs.plan.tree_of.Goals as goal

pub add_levels-requires : goal.add_levels-requires
add_levels-requires c = record {
  no_fault = c.requires;
  maker =
      c.start-maker.ensures
      ∙ ap₂ started (c.processors.ensures.value ∙ ap (λ (s : SetContents). s.processors) c.set.ensures.value) c.scale-scale.ensures.value
      ∙ sym (first_start c.args.tree.now);
}

pub finish-requires : goal.finish-requires
finish-requires c =
    subst (λ (m : Making). IsTree m.tree) (sym c.in_ok-add_levels.ensures) (text_is_tree c.args.tree.now c.scale-scale.ensures.lawful c.requires)

pub returns : goal.returns
returns c = c.finish.ensures ∙ ap (λ (m : Making). m.tree) c.in_ok-add_levels.ensures

pub returns-in_err-add_levels : goal.returns-in_err-add_levels
returns-in_err-add_levels c = IfOk-from_err _ _ c.from_residual.ensures.0

pub start-maker-requires : goal.start-maker-requires
start-maker-requires c =
    let iw = c.scale-scale.ensures.lawful in
    let width = c.processors.ensures.value ∙ ap (λ (s : SetContents). s.processors) c.set.ensures.value in
    let value = c.scale-scale.ensures.value in
    let some = iw.lawful.some_processors in
    let few = iw.lawful.few_processors in
    let positive = iw.is_scale.positive in
    let fits = iw.scale_fits in record {
      some_processors = omega (arith, width, some);
      few_processors = omega (arith, width, few);
      some_scale = omega (arith, value, positive);
      scale_fits = omega (arith, value, fits);
    }
