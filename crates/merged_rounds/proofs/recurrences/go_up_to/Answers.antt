use Rattle.std.proofs.Common.{◌<◌, arith}
use Rattle.run_tree.specs.Plans.{stop_of}
use Rattle.event_core.proofs.NextCores.{event_before_end}
use Rattle.event_core.proofs.RoundsInOrder.{more_rounds, next_rounds}
use Rattle.merged_rounds.proofs.recurrences.go_up_to.Goals as goal

pub rounds-preserved : goal.rounds-preserved
rounds-preserved c =
    let next = next_rounds c.args.plan.now c.rounds.core.tick c.go.new.self.tick c.go.ensures.round in
    let is = c.rounds.invariant.here in
    record { belongs = c.go.ensures.belongs; here = omega (arith, next, is) }

pub overflow_add-count : goal.overflow_add-count
overflow_add-count c =
    let p = c.args.plan.now in
    let now = c.now.ensures.value in
    let on = c.rounds-test.true in
    let until = c.requires.until in
    let early : c.rounds.core.tick < stop_of p = omega (arith, now, until, on) in
    let more = more_rounds p c.rounds.core.tick (event_before_end p c.rounds.core c.rounds.invariant.belongs early) early in
    let is = c.rounds.invariant.here in
    let few = c.requires.few in
    omega (arith, more, is, few)
