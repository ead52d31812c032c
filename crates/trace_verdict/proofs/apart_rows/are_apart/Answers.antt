use Rattle.std.proofs.Common.{◌≤◌, subst}
use Rattle.std.proofs.lemmas.Bool.{leb-true}
use Rattle.trace_verdict.specs.Orders.{key_by}
use Rattle.trace_verdict.proofs.ApartLemmas.{are_apart}
use Rattle.trace_verdict.proofs.apart_rows.are_apart.Goals as goal

pub returns : goal.returns
returns c = λ t. are_apart (key_by c.args.by) c.args.rows.now c.loop-key.dealt c.loop-key.invariant (subst (λ n. n ≤ c.loop-key.dealt.count)
    c.count_rows-count.ensures (leb-true _ _ t))
