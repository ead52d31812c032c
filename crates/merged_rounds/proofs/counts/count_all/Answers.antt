use Rattle.std.proofs.Common.{◌≡◌, ℕ, ◌+◌, ◌*◌, ◌/◌, ◌≤◌, min, ap, arith, subst, sym, ◌∙◌}
use Rattle.sched_base.specs.Tables.{row_limit}
use Rattle.run_tree.specs.Plans.{rounds_of}
use Rattle.run_tree.specs.Tree.{Tree}
use Rattle.merged_rounds.proofs.CountLemmas.{counted, few_rows}
use Rattle.merged_rounds.proofs.counts.count_all.Goals as goal

pub returns-clause-count : goal.returns-clause-count
returns-clause-count c =
    let p = c.args.plan.now in
    let m = c.from-processors.result in
    let is : m ≡ p.tree.processors = c.from-processors.ensures ∙ c.processors.ensures.value ∙ ap (λ (t : Tree). t.processors) c.tree.ensures.value in
    let most = row_limit / m in
    let least : c.min-times.result ≡ min c.args.times (most + 1) = c.min-times.ensures ∙ ap (λ n. min c.args.times (n + 1)) c.from.ensures in
    let few = c.if-count-most.false in
    let all : c.min-times.result * c.args.each + c.args.rest ≡ rounds_of p =
    ap (λ n. n * c.args.each + c.args.rest) least
    ∙ (counted c.args.times c.args.each c.args.rest most).0 (subst (λ (n : ℕ). n * c.args.each + c.args.rest ≤ most) least few)
    ∙ sym c.requires.all in
    let some = c.processors.ensures.lawful.sized.some_processors in
    let tree = ap (λ (t : Tree). t.processors) c.tree.ensures.value in (
      all,
      subst (λ (n : ℕ). (c.min-times.result * c.args.each + c.args.rest) * n ≤ row_limit) is
          (few_rows (c.min-times.result * c.args.each + c.args.rest) m (omega (arith, some, tree, is)) few),
    )
