use Rattle.std.proofs.Common.{arith, sym, subst, ℕ}
use Rattle.event_core.proofs.TickLemmas.{ticks_long, ticks_set}
use Rattle.event_core.specs.Ticks.{ArePlaces}
use Rattle.event_core.proofs.ticks.set_node.Goals as goal

pub returns-clause-ticks : goal.returns-clause-ticks
returns-clause-ticks c =
    let node = c.requires.node in
    let long = ticks_long c.args.number.now c.args.ticks.now in
    ticks_set c.args.number.now c.args.nodes.now c.args.ticks.now c.set_at.new.ticks c.args.p.0 c.place_of-place.result c.args.tick c.requires.places
    (omega (arith, node, long)) c.place_of-place.ensures c.set_at.ensures.ticks

pub place_of-place-requires : goal.place_of-place-requires
place_of-place-requires c = let node = c.requires.node in let long = ticks_long c.args.number.now c.args.ticks.now in omega (arith, node, long)

pub set_at-requires-clause-narrowed : goal.set_at-requires-clause-narrowed
set_at-requires-clause-narrowed c = c.requires.narrowed

pub set_at-requires-clause-blocks : goal.set_at-requires-clause-blocks
set_at-requires-clause-blocks c = c.requires.blocks

pub set_at-requires-clause-place : goal.set_at-requires-clause-place
set_at-requires-clause-place c =
    let node = c.requires.node in
    let long = ticks_long c.args.number.now c.args.ticks.now in
    let many = c.requires.places.number_long in
    let stands = c.requires.places.stands c.args.p.0 (omega (arith, node, long, many)) in
    let place = c.place_of-place.ensures in
    omega (arith, stands, place)

pub returns-clause-places : goal.returns-clause-places
returns-clause-places c = subst (λ (n : ℕ). ArePlaces c.args.number.now c.args.nodes.now n) (sym c.set_at.auto.ticks) c.requires.places

pub returns-clause-narrowed : goal.returns-clause-narrowed
returns-clause-narrowed c = c.set_at.ensures.narrowed

pub returns-clause-blocks : goal.returns-clause-blocks
returns-clause-blocks c = c.set_at.ensures.blocks
