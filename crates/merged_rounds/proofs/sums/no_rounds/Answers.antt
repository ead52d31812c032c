use Rattle.std.proofs.Common.{ℕ, List, [], ap, refl, replicate, ◌∙◌}
use Rattle.sched_base.specs.declared.rows.Row.{Row}
use Rattle.run_tree.specs.Tree.{Tree}
use Rattle.merged_rounds.proofs.SumLemmas.{sum_none}
use Rattle.merged_rounds.proofs.sums.no_rounds.Goals as goal

pub returns : goal.returns
returns c =
    let many = c.processors.ensures.value ∙ ap (λ (t : Tree). t.processors) c.tree.ensures.value in
    sum_none c.args.plan.now c.tree.ensures.lawful (record { rows = c.in_ok-new.field-0; rounds = 0 }) refl
    (c.in_ok-new.ensures.none ∙ ap (λ (n : ℕ). replicate {A = List Row} n []) many) c.in_ok-new.ensures.start
