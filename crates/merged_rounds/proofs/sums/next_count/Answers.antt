use Rattle.std.proofs.Common.{◌+◌, ◌*◌, ◌<◌, ◌≤◌, ℕ, ap, arith, refl, subst, ◌∙◌}
use Rattle.sched_base.specs.Tables.{row_limit}
use Rattle.run_tree.specs.Plans.{stop_of}
use Rattle.run_tree.specs.Tree.{Tree}
use Rattle.merged_rounds.proofs.SumLemmas.{no_room}
use Rattle.merged_rounds.proofs.sums.next_count.Goals as goal

pub returns-then-rows-gt-ROW_LIMIT-clause-fault : goal.returns-then-rows-gt-ROW_LIMIT-clause-fault
returns-then-rows-gt-ROW_LIMIT-clause-fault c =
    let p = c.args.plan.now in
    let many = c.from.ensures ∙ c.processors.ensures.value ∙ ap (λ (t : Tree). t.processors) c.tree.ensures.value in
    let up = c.requires.round.above in
    let below = c.requires.round.below in
    let early : c.args.start < stop_of p = omega (arith, up, below) in
    no_room p c.tree.ensures.lawful c.args.start c.args.end c.requires.round c.args.sum.now c.requires.sum early c.from.result
    ((c.args.sum.now.rounds + 1) * c.from.result) many refl c.if-rows-gt-ROW_LIMIT.true

pub returns-clause-few : goal.returns-clause-few
returns-clause-few c =
    let many = c.from.ensures ∙ c.processors.ensures.value ∙ ap (λ (t : Tree). t.processors) c.tree.ensures.value in
    subst (λ (n : ℕ). (c.args.sum.now.rounds + 1) * n ≤ row_limit) many c.if-rows-gt-ROW_LIMIT.false
