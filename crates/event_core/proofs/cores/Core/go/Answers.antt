use Rattle.run_tree.specs.Plans.{stop_of}
use Rattle.std.proofs.Common.{◌<◌}
use Rattle.event_core.specs.Rounds.{IsRoundUpTo}
use Rattle.std.proofs.Common.{arith, subst, sym}
use Rattle.event_core.specs.Cores.{CoreContents, IsCoreOf}
use Rattle.event_core.specs.States.{contents}
use Rattle.event_core.proofs.KeptLemmas.{stop_fits}
use Rattle.event_core.proofs.OneRound.{last_long}
use Rattle.event_core.proofs.cores.Core.go.Goals as goal

pub invariant_of-self : goal.invariant_of-self
invariant_of-self c =
    let p = c.args.plan.now in
    let h = c.know_lawful.ensures.lawful in
    let before = contents c.self.inside.state in
    let after = contents c.run_round.new.state in
    let old = subst (λ (k : CoreContents). IsCoreOf p k) (sym c.self.view_is) c.requires.belongs in
    let new = c.run_round.ensures.core in
    let packs = c.self.invariant.0 in
    let room = c.run_round.ensures.room in
    let last = last_long p h before old.at in
    let last' = last_long p h after new.at in
    let early = new.at.early in
    let most = stop_fits p h in
    (omega (arith, packs, room, last, last'), omega (arith, early, most))

pub run_round-requires-clause-room : goal.run_round-requires-clause-room
run_round-requires-clause-room c =
    let old = subst (λ (k : CoreContents). IsCoreOf c.args.plan.now k) (sym c.self.view_is) c.requires.belongs in
    let room = c.self.invariant.0 in
    let last = last_long c.args.plan.now c.know_lawful.ensures.lawful (contents c.self.inside.state) old.at in
    omega (arith, room, last)

pub run_round-requires-clause-plan : goal.run_round-requires-clause-plan
run_round-requires-clause-plan c = c.know_lawful.ensures.lawful

pub run_round-requires-clause-core : goal.run_round-requires-clause-core
run_round-requires-clause-core c = subst (λ (k : CoreContents). IsCoreOf c.args.plan.now k) (sym c.self.view_is) c.requires.belongs

pub run_round-requires-clause-early : goal.run_round-requires-clause-early
run_round-requires-clause-early c = subst (λ (k : CoreContents). k.tick < stop_of c.args.plan.now) (sym c.self.view_is) c.requires.early

pub returns-clause-belongs : goal.returns-clause-belongs
returns-clause-belongs c = c.run_round.ensures.core

pub returns-clause-round : goal.returns-clause-round
returns-clause-round c = subst (λ (k : CoreContents). IsRoundUpTo c.args.plan.now k.tick c.run_round.new.state.dues.tick) c.self.view_is
    c.run_round.ensures.round
