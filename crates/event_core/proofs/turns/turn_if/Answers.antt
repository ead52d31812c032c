use Rattle.std.proofs.Common.{ap, arith, refl, sym, ◌*◌, ◌∙◌}
use Rattle.event_core.proofs.KeptLemmas.{stop_fits}
use Rattle.event_core.proofs.turns.turn_if.Goals as goal

pub in_ticks-requires : goal.in_ticks-requires
in_ticks-requires c = c.next.ensures.within

pub turn-requires-clause-plan : goal.turn-requires-clause-plan
turn-requires-clause-plan c = c.requires.plan

pub turn-requires-clause-calendar : goal.turn-requires-clause-calendar
turn-requires-clause-calendar c = c.requires.calendar

pub turn-requires-clause-late : goal.turn-requires-clause-late
turn-requires-clause-late c = c.requires.late

pub turn-requires-clause-tick : goal.turn-requires-clause-tick
turn-requires-clause-tick c =
    let most = stop_fits c.args.plan.now c.requires.plan in
    let early = c.requires.early in
    omega (arith, most, early)

pub turn-requires-clause-remains : goal.turn-requires-clause-remains
turn-requires-clause-remains c = c.requires.remains

pub turn-requires-clause-long : goal.turn-requires-clause-long
turn-requires-clause-long c = c.requires.long

pub turn-requires-clause-serving : goal.turn-requires-clause-serving
turn-requires-clause-serving c = c.requires.serving

pub returns-then-now-in_ticks-clause-same : goal.returns-then-now-in_ticks-clause-same
returns-then-now-in_ticks-clause-same c = λ low. absurd (
    let at = sym c.now.ensures.value ∙ c.if-now-in_ticks.true ∙ c.in_ticks.ensures ∙ ap (λ n. n * c.args.plan.now.tree.scale) c.next.ensures.value in
    omega (arith, low, at))

pub returns-then-now-in_ticks-clause-same_calendar : goal.returns-then-now-in_ticks-clause-same_calendar
returns-then-now-in_ticks-clause-same_calendar c = λ low. absurd (
    let at = sym c.now.ensures.value ∙ c.if-now-in_ticks.true ∙ c.in_ticks.ensures ∙ ap (λ n. n * c.args.plan.now.tree.scale) c.next.ensures.value in
    omega (arith, low, at))

pub returns-then-now-in_ticks-clause-turned : goal.returns-then-now-in_ticks-clause-turned
returns-then-now-in_ticks-clause-turned c = λ _. c.turn.ensures.turned

pub returns-then-now-in_ticks-clause-tick : goal.returns-then-now-in_ticks-clause-tick
returns-then-now-in_ticks-clause-tick c = c.turn.ensures.tick

pub returns-then-now-in_ticks-clause-long : goal.returns-then-now-in_ticks-clause-long
returns-then-now-in_ticks-clause-long c = c.turn.ensures.long

pub returns-then-now-in_ticks-clause-serving : goal.returns-then-now-in_ticks-clause-serving
returns-then-now-in_ticks-clause-serving c = c.turn.ensures.serving

pub returns-then-now-in_ticks-clause-serves : goal.returns-then-now-in_ticks-clause-serves
returns-then-now-in_ticks-clause-serves c = c.turn.ensures.serves

pub returns-then-now-in_ticks-clause-runs : goal.returns-then-now-in_ticks-clause-runs
returns-then-now-in_ticks-clause-runs c = c.turn.ensures.runs

pub returns-then-now-in_ticks-clause-places : goal.returns-then-now-in_ticks-clause-places
returns-then-now-in_ticks-clause-places c = c.turn.ensures.places

pub returns-else-now-in_ticks-clause-same : goal.returns-else-now-in_ticks-clause-same
returns-else-now-in_ticks-clause-same c = λ _. refl

pub returns-else-now-in_ticks-clause-same_calendar : goal.returns-else-now-in_ticks-clause-same_calendar
returns-else-now-in_ticks-clause-same_calendar c = λ _. refl

pub returns-else-now-in_ticks-clause-turned : goal.returns-else-now-in_ticks-clause-turned
returns-else-now-in_ticks-clause-turned c = λ e. absurd (c.if-now-in_ticks.false (c.now.ensures.value ∙ e ∙ sym (c.in_ticks.ensures
    ∙ ap (λ n. n * c.args.plan.now.tree.scale) c.next.ensures.value)))

pub returns-else-now-in_ticks-clause-tick : goal.returns-else-now-in_ticks-clause-tick
returns-else-now-in_ticks-clause-tick c = refl

pub returns-else-now-in_ticks-clause-long : goal.returns-else-now-in_ticks-clause-long
returns-else-now-in_ticks-clause-long c = c.requires.long

pub returns-else-now-in_ticks-clause-serving : goal.returns-else-now-in_ticks-clause-serving
returns-else-now-in_ticks-clause-serving c = c.requires.serving

pub returns-else-now-in_ticks-clause-serves : goal.returns-else-now-in_ticks-clause-serves
returns-else-now-in_ticks-clause-serves c = refl

pub returns-else-now-in_ticks-clause-runs : goal.returns-else-now-in_ticks-clause-runs
returns-else-now-in_ticks-clause-runs c = refl

pub returns-else-now-in_ticks-clause-places : goal.returns-else-now-in_ticks-clause-places
returns-else-now-in_ticks-clause-places c = refl

pub returns-then-now-in_ticks-clause-masks : goal.returns-then-now-in_ticks-clause-masks
returns-then-now-in_ticks-clause-masks c = c.turn.ensures.masks

pub returns-else-now-in_ticks-clause-masks : goal.returns-else-now-in_ticks-clause-masks
returns-else-now-in_ticks-clause-masks c = refl
