use Rattle.std.proofs.Common.{◌≡◌, ℕ, subst}
use Rattle.round_looks.specs.Looks.{leaf_at}
use Rattle.merged_rounds.proofs.ChangeLemmas.{leaf_known}
use Rattle.merged_rounds.proofs.sources.Source.leaf_by.Goals as goal

pub returns-else-self : goal.returns-else-self
returns-else-self c = λ none.
    let p = c.args.plan.now in
    let s = c.args.self.now in
    let at = c.node_on.ensures in
    subst (λ (n : ℕ). leaf_at p c.args.start n c.args.q none ≡ c.leaf_of.result) (c.requires.belongs.computed c.if-self.false).tick
    (leaf_known p c.args.start s.core.tick c.args.q c.args.leaves.now c.node_on.result c.leaf_of.result c.requires.leaves at.none (λ n row is. at.some n row
    is) at.within c.leaf_of.ensures.none c.leaf_of.ensures.some none)
