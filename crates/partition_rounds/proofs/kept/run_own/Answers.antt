use Rattle.std.proofs.Common.{ap, arith, get_or, length, subst, sym, ℕ, ◌∙◌}
use Rattle.sched_base.specs.declared.rows.Leaf.TheVariants.{Empty}
use Rattle.event_core.specs.Rounds.{IsRoundUpTo}
use Rattle.round_looks.specs.Looks.{IsNodeOn}
use Rattle.partition_rounds.proofs.KeptLemmas.{own_round}
use Rattle.partition_rounds.proofs.kept.run_own.Goals as goal

pub node_on-requires-clause-processor : goal.node_on-requires-clause-processor
node_on-requires-clause-processor c =
    let some = c.know_lawful.ensures.lawful.sized.some_processors in
    omega (arith, some)

pub returns-clause-round : goal.returns-clause-round
returns-clause-round c =
    let own = c.args.own.now in
    let is = c.requires.own.own in
    let end = c.go.new.self.tick in
    let on : IsNodeOn own.plan c.now-start.result end 0 c.node_on.result =
    record { none = c.node_on.ensures.none; some = c.node_on.ensures.some; within = c.node_on.ensures.within } in
    own_round own c.know_lawful.ensures.lawful is.root is.one c.args.core.now.tick end c.go.ensures.round c.node_on.result c.shown_by.result
    (subst (λ (s : ℕ). IsNodeOn own.plan s end 0 c.node_on.result) c.now-start.ensures.value on)
    (λ n e. c.shown_by.ensures.some n e ∙ ap (λ ls. get_or ls n.0 Empty) c.deref.ensures.value)

pub go-requires-clause-belongs : goal.go-requires-clause-belongs
go-requires-clause-belongs c = c.requires.belongs

pub go-requires-clause-early : goal.go-requires-clause-early
go-requires-clause-early c = c.requires.early

pub node_on-requires-clause-belongs : goal.node_on-requires-clause-belongs
node_on-requires-clause-belongs c = c.go.ensures.belongs

pub node_on-requires-clause-round : goal.node_on-requires-clause-round
node_on-requires-clause-round c = subst (λ (n : ℕ). IsRoundUpTo c.args.own.now.plan n c.go.new.self.tick) (sym c.now-start.ensures.value) c.go.ensures.round

pub shown_by-requires : goal.shown_by-requires
shown_by-requires c = λ n e.
    let low = c.node_on.ensures.within n e in
    let long = c.requires.own.long in
    let same = ap length c.deref.ensures.value in
    omega (arith, low, long, same)

pub returns-clause-belongs : goal.returns-clause-belongs
returns-clause-belongs c = c.go.ensures.belongs
