use Rattle.std.proofs.Common.{ℕ, ◌<◌, ◌∙◌, ap, subst}
use Rattle.run_tree.specs.Tree.{Tree}
use Rattle.sched_laws.proofs.LevelBound.{levels_bound_at, three_duals}
use Rattle.run_compile.proofs.compiler.levels.Goals as goal

pub returns-clause-height : goal.returns-clause-height
returns-clause-height c = λ k e. levels_bound_at c.args.plan.now.tree c.tree.ensures.lawful.tree.tree k (e ∙ c.levels.ensures.value
    ∙ ap (λ (t : Tree). t.levels) c.tree.ensures.value)

pub returns-clause-three : goal.returns-clause-three
returns-clause-three c l below =
    let levels = c.levels.ensures.value ∙ ap (λ (t : Tree). t.levels) c.tree.ensures.value in
    three_duals c.args.plan.now.tree c.tree.ensures.lawful.tree.tree l (subst (λ (x : ℕ). l < x) levels below)
