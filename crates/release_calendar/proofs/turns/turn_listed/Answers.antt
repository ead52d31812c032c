use Rattle.std.proofs.Common.{arith, length, refl}
use Rattle.release_calendar.proofs.NextLemmas.{first_end_is}
use Rattle.release_calendar.proofs.OrderLemmas.{all_turned, least_of_leaves}
use Rattle.release_calendar.proofs.ListedTurns.{due_listed, turning_none}
use Rattle.release_calendar.proofs.turns.turn_listed.Goals as goal

pub returns-clause-windows : goal.returns-clause-windows
returns-clause-windows c =
    let long = c.requires.ends in
    let kept = c.turn_ended.auto.ends in
    all_turned c.args.plan.now c.requires.plan c.turn_ended.new.begins c.turn_ended.new.ends c.turn_ended.ensures.turning.due c.args.at
    (omega (arith, long, kept)) c.turn_ended.ensures.turning.turning c.turn_ended.ensures.later

pub returns-clause-next : goal.returns-clause-next
returns-clause-next c =
    let long = c.requires.ends in
    let kept = c.turn_ended.auto.ends in
    let windows = all_turned c.args.plan.now c.requires.plan c.turn_ended.new.begins c.turn_ended.new.ends c.turn_ended.ensures.turning.due c.args.at
    (omega (arith, long, kept)) c.turn_ended.ensures.turning.turning c.turn_ended.ensures.later in
    first_end_is c.args.plan.now c.requires.plan c.turn_ended.new.begins c.turn_ended.new.ends c.args.at c.turn_ended.result.0 c.requires.at windows
    (least_of_leaves c.args.plan.now c.requires.plan c.turn_ended.new.begins c.turn_ended.new.ends c.args.at (length c.args.plan.now.tree.nodes)
    c.turn_ended.result.0 refl (omega (arith, long, kept)) c.turn_ended.ensures.turning.turning.packs windows c.turn_ended.ensures.first)

pub returns-clause-due : goal.returns-clause-due
returns-clause-due c =
    let long = c.requires.ends in
    let kept = c.turn_ended.auto.ends in
    due_listed c.args.plan.now c.requires.plan c.turn_ended.new.begins c.turn_ended.new.ends _ c.args.at (omega (arith, long, kept))
    c.turn_ended.ensures.turning c.turn_ended.ensures.later

pub turn_ended-requires-clause-turning : goal.turn_ended-requires-clause-turning
turn_ended-requires-clause-turning c = turning_none c.args.plan.now c.requires.plan c.args.begins.now c.args.ends.now c.args.at c.requires.ready
    c.requires.packs c.requires.earlier

pub turn_ended-requires-clause-plan : goal.turn_ended-requires-clause-plan
turn_ended-requires-clause-plan c = c.requires.plan

pub turn_ended-requires-clause-at : goal.turn_ended-requires-clause-at
turn_ended-requires-clause-at c = c.requires.at

pub turn_ended-requires-clause-begins : goal.turn_ended-requires-clause-begins
turn_ended-requires-clause-begins c = c.requires.begins

pub turn_ended-requires-clause-ends : goal.turn_ended-requires-clause-ends
turn_ended-requires-clause-ends c = c.requires.ends

pub turn_ended-requires-clause-order : goal.turn_ended-requires-clause-order
turn_ended-requires-clause-order c = c.requires.order

pub turn_ended-requires-clause-begun : goal.turn_ended-requires-clause-begun
turn_ended-requires-clause-begun c = c.requires.begun

pub returns-clause-order : goal.returns-clause-order
returns-clause-order c = c.turn_ended.ensures.order

pub returns-clause-packs : goal.returns-clause-packs
returns-clause-packs c = c.turn_ended.ensures.turning.turning.packs

pub returns-clause-fit : goal.returns-clause-fit
returns-clause-fit c = c.turn_ended.ensures.fit

pub returns-clause-count : goal.returns-clause-count
returns-clause-count c = c.turn_ended.ensures.count

pub turn_ended-requires-clause-steps : goal.turn_ended-requires-clause-steps
turn_ended-requires-clause-steps c = c.requires.steps

pub turn_ended-requires-clause-fit : goal.turn_ended-requires-clause-fit
turn_ended-requires-clause-fit c = c.requires.fit
