use Rattle.merged_rounds.proofs.ApartLemmas.{apart_none, apart_one}
use Rattle.std.proofs.Common.{eqb-true}
use Rattle.merged_rounds.proofs.apart.is_apart.Goals as goal

pub returns-then-first-count : goal.returns-then-first-count
returns-then-first-count c = λ _. apart_none c.args.tree.now c.args.n.0 c.members-members.result.now c.members-members.ensures c.first_idle-first.result
    c.first_idle-first.ensures.first c.if-first-count.true

pub returns : goal.returns
returns c = λ e. apart_one c.args.tree.now c.args.n.0 c.members-members.result.now c.members-members.ensures c.first_idle-first.result c.first_idle.result
    c.first_idle-first.ensures.first c.first_idle.ensures.first (eqb-true _ _ e) c.if-count-eq1.false
