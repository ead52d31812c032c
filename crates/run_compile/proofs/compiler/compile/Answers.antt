use Rattle.std.proofs.Common.{ℕ, ap, sym, subst, ◌∙◌}
use Rattle.std.proofs.lemmas.Result.{IfOk-from_err, err_from_is_err_and}
use Rattle.sched_base.specs.Sets.{SetContents}
use Rattle.sched_base.specs.Scale.{Fits}
use Rattle.run_tree.specs.Compiled.{tree_of}
use Rattle.run_tree.specs.Plans.{PlanContents}
use Rattle.rate_scale.specs.declared.loads.LoadFault.{LoadFault}
use Rattle.rate_scale.specs.declared.loads.LoadFault.TheVariants as load
use Rattle.rate_scale.specs.Loads.{HasScale, IsUnfit, AreSmall}
use Rattle.run_compile.specs.Answers.{IsRefused, IsSmall, of_load}
use Rattle.run_compile.proofs.compiler.compile.Goals as goal

pub new-requires-clause-scale : goal.new-requires-clause-scale
new-requires-clause-scale c = c.in_ok-load.ensures.load.scale.is

pub new-requires-clause-made : goal.new-requires-clause-made
new-requires-clause-made c = c.in_ok-tree.ensures.scale

pub new-requires-clause-tree : goal.new-requires-clause-tree
new-requires-clause-tree c = c.in_ok-tree.ensures.of_set

pub returns-clause-set : goal.returns-clause-set
returns-clause-set c = ap (λ (p : PlanContents). p.set) c.new.ensures

pub returns-clause-scale : goal.returns-clause-scale
returns-clause-scale c =
    subst (λ (l : ℕ). HasScale c.args.set l) (sym (ap (λ (p : PlanContents). p.tree.scale) c.new.ensures ∙ c.in_ok-tree.ensures.scale))
    c.in_ok-load.ensures.load.scale

pub returns-clause-fits : goal.returns-clause-fits
returns-clause-fits c =
    subst (λ (l : ℕ). Fits l c.args.set) (sym (ap (λ (p : PlanContents). p.tree.scale) c.new.ensures ∙ c.in_ok-tree.ensures.scale))
    c.in_ok-load.ensures.load.fits

pub returns-clause-tree : goal.returns-clause-tree
returns-clause-tree c =
    ap (λ (p : PlanContents). p.tree) c.new.ensures ∙ c.in_ok-tree.ensures.tree
    ∙ ap (λ l. tree_of l c.args.set) (sym (ap (λ (p : PlanContents). p.tree.scale) c.new.ensures ∙ c.in_ok-tree.ensures.scale))

pub returns-in_err-load-clause-set : goal.returns-in_err-load-clause-set
returns-in_err-load-clause-set c = IfOk-from_err _ _ c.from_residual.ensures.0

pub returns-in_err-load-clause-scale : goal.returns-in_err-load-clause-scale
returns-in_err-load-clause-scale c = IfOk-from_err _ _ c.from_residual.ensures.0

pub returns-in_err-load-clause-fits : goal.returns-in_err-load-clause-fits
returns-in_err-load-clause-fits c = IfOk-from_err _ _ c.from_residual.ensures.0

pub returns-in_err-load-clause-tree : goal.returns-in_err-load-clause-tree
returns-in_err-load-clause-tree c = IfOk-from_err _ _ c.from_residual.ensures.0

pub returns-in_err-tree-clause-set : goal.returns-in_err-tree-clause-set
returns-in_err-tree-clause-set c = IfOk-from_err _ _ c.from_residual-in_err-tree.ensures.0

pub returns-in_err-tree-clause-scale : goal.returns-in_err-tree-clause-scale
returns-in_err-tree-clause-scale c = IfOk-from_err _ _ c.from_residual-in_err-tree.ensures.0

pub returns-in_err-tree-clause-fits : goal.returns-in_err-tree-clause-fits
returns-in_err-tree-clause-fits c = IfOk-from_err _ _ c.from_residual-in_err-tree.ensures.0

pub returns-in_err-tree-clause-tree : goal.returns-in_err-tree-clause-tree
returns-in_err-tree-clause-tree c = IfOk-from_err _ _ c.from_residual-in_err-tree.ensures.0

pub set_tree-requires-clause-scale : goal.set_tree-requires-clause-scale
set_tree-requires-clause-scale c = c.in_ok-load.ensures.load.scale

pub set_tree-requires-clause-fits : goal.set_tree-requires-clause-fits
set_tree-requires-clause-fits c = c.in_ok-load.ensures.load.fits

-- a set that doesn't fit is refused as such
unfit : (s : SetContents) (e : LoadFault) → IsUnfit s e → IsRefused s (of_load e)
unfit s (load.ScaleTooLarge at) is = is
unfit s (load.Overload total room) is = is

small : (e : LoadFault) → AreSmall e → IsSmall (of_load e)
small (load.ScaleTooLarge at) are = tt
small (load.Overload total room) are = are

pub returns-in_err-load-clause-refused : goal.returns-in_err-load-clause-refused
returns-in_err-load-clause-refused c =
    let why = err_from_is_err_and c.from_residual.result c.from_residual.ensures.1 in
    rw (why.1, why.2) (unfit _ _ c.in_err-load.ensures.refused)

pub returns-in_err-tree-clause-refused : goal.returns-in_err-tree-clause-refused
returns-in_err-tree-clause-refused c =
    let why = err_from_is_err_and c.from_residual-in_err-tree.result c.from_residual-in_err-tree.ensures.1 in
    rw (why.1, why.2) (c.in_ok-load.load.scale, c.in_ok-load.ensures.load.scale, c.in_ok-load.ensures.load.fits)

pub returns-in_err-tree-clause-small : goal.returns-in_err-tree-clause-small
returns-in_err-tree-clause-small c =
    let why = err_from_is_err_and c.from_residual-in_err-tree.result c.from_residual-in_err-tree.ensures.1 in
    rw (why.1, why.2) tt

pub returns-in_err-load-clause-small : goal.returns-in_err-load-clause-small
returns-in_err-load-clause-small c =
    let why = err_from_is_err_and c.from_residual.result c.from_residual.ensures.1 in
    rw (why.1, why.2) (small _ c.in_err-load.ensures.small)
