use Rattle.std.proofs.Common.{◌≡◌, ap, ap₂, sym, subst, ◌∙◌}
use Rattle.sched_base.specs.Sets.{SetContents}
use Rattle.sched_base.specs.Scale.{IsScale}
use Rattle.run_tree.specs.Tree.{Tree}
use Rattle.run_tree.specs.TreeOfSet.{IsTreeOf}
use Rattle.run_tree.specs.Plans.{PlanContents}
use Rattle.tree_check.specs.TextTree.{text_tree}
use Rattle.tree_check.proofs.TextLeaves.{text_is_tree_of, scale_is}
use Rattle.tree_check.proofs.Again.{written_again}
use Rattle.std.proofs.lemmas.Result.{IfOk-from_err}
use Rattle.tree_check.proofs.plan.plan_of.Goals as goal

pub tree_of-requires : goal.tree_of-requires
tree_of-requires c = c.requires

pub new-requires : goal.new-requires
new-requires c =
    let w = c.args.tree.now in
    let iw = c.scale-scale.ensures.lawful in
    let set : c.in_ok-set.set ≡ w.set = c.in_ok-set.ensures ∙ c.set.ensures.value in
    let tree : c.in_ok-tree_of.field-0 ≡ text_tree w = c.in_ok-tree_of.ensures in
    record {
      scale = subst (λ (s : SetContents). IsScale s.tasks c.scale-scale.result) (sym set) (subst (IsScale w.set.tasks) (sym c.scale-scale.ensures.value)
          iw.is_scale);
      made = ap (λ (t : Tree). t.scale) tree ∙ scale_is w iw c.requires ∙ sym c.scale-scale.ensures.value;
      tree = subst (λ (t : Tree). IsTreeOf c.in_ok-set.set t) (sym tree) (subst (λ (s : SetContents). IsTreeOf s (text_tree w)) (sym set)
          (text_is_tree_of w iw c.requires));
    }

pub returns-clause-plan : goal.returns-clause-plan
returns-clause-plan c =
    let made : SetContents → Tree → PlanContents = λ s t. record { set = s; tree = t } in
    c.new.ensures ∙ ap₂ made (c.in_ok-set.ensures ∙ c.set.ensures.value) c.in_ok-tree_of.ensures

pub returns-clause-text : goal.returns-clause-text
returns-clause-text c =
    let w = c.args.tree.now in
    let iw = c.scale-scale.ensures.lawful in
    record { tree = text_is_tree_of w iw c.requires; again = written_again w iw c.requires }

pub returns-in_err-set-clause-plan : goal.returns-in_err-set-clause-plan
returns-in_err-set-clause-plan c = IfOk-from_err _ _ c.from_residual.ensures.0

pub returns-in_err-set-clause-text : goal.returns-in_err-set-clause-text
returns-in_err-set-clause-text c = IfOk-from_err _ _ c.from_residual.ensures.0

pub returns-in_err-tree_of-clause-plan : goal.returns-in_err-tree_of-clause-plan
returns-in_err-tree_of-clause-plan c = IfOk-from_err _ _ c.from_residual-in_err-tree_of.ensures.0

pub returns-in_err-tree_of-clause-text : goal.returns-in_err-tree_of-clause-text
returns-in_err-tree_of-clause-text c = IfOk-from_err _ _ c.from_residual-in_err-tree_of.ensures.0
