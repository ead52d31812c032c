use Rattle.std.proofs.Common.{refl}
use Rattle.event_core.proofs.KeptLemmas.{listed_members, has_turned, still_serving, places_stand}
use Rattle.event_core.proofs.turns.turn.Goals as goal

pub begin-requires-clause-members : goal.begin-requires-clause-members
begin-requires-clause-members c =
    listed_members c.args.plan.now c.requires.plan c.args.state.now.calendar c.move_on.new.self c.requires.calendar c.move_on.ensures.belongs
    c.move_on.ensures.unit c.requires.late c.move_on.ensures.begun.due c.move_on.ensures.begun.long c.move_on.ensures.begun.marked
    c.move_on.ensures.begun.listed

pub begin-requires-clause-places : goal.begin-requires-clause-places
begin-requires-clause-places c = places_stand c.args.plan.now.tree c.requires.plan.tree.tree c.args.state.now.dues c.args.state.now.calendar.ends
    c.args.state.now.serving c.requires.serving

pub returns-clause-turned : goal.returns-clause-turned
returns-clause-turned c =
    has_turned c.args.plan.now c.requires.plan c.args.state.now.calendar c.move_on.new.self c.requires.calendar c.move_on.ensures.belongs
    c.move_on.ensures.unit c.requires.late c.move_on.ensures.begun.due c.move_on.ensures.begun.long c.move_on.ensures.begun.marked
    c.move_on.ensures.begun.listed
    c.args.state.now.dues c.begin.new.dues c.args.state.now.serving c.begin.new.self c.requires.serving c.begin.ensures.begun

pub returns-clause-serving : goal.returns-clause-serving
returns-clause-serving c =
    still_serving c.args.plan.now c.requires.plan c.args.state.now.calendar c.move_on.new.self c.requires.calendar c.move_on.ensures.belongs
    c.move_on.ensures.unit c.requires.late c.move_on.ensures.begun.due c.move_on.ensures.begun.long c.move_on.ensures.begun.marked
    c.move_on.ensures.begun.listed
    c.args.state.now.dues c.begin.new.dues c.args.state.now.serving c.begin.new.self c.requires.serving c.begin.ensures.begun c.begin.ensures.tick
    c.begin.ensures.dues c.begin.ensures.serves c.begin.ensures.dry c.begin.ensures.runs

pub move_on-requires-clause-belongs : goal.move_on-requires-clause-belongs
move_on-requires-clause-belongs c = c.requires.calendar

pub move_on-requires-clause-early : goal.move_on-requires-clause-early
move_on-requires-clause-early c = c.requires.early

pub begin-requires-clause-plan : goal.begin-requires-clause-plan
begin-requires-clause-plan c = c.requires.plan

pub begin-requires-clause-calendar : goal.begin-requires-clause-calendar
begin-requires-clause-calendar c = c.move_on.ensures.belongs

pub begin-requires-clause-early : goal.begin-requires-clause-early
begin-requires-clause-early c = c.requires.tick

pub begin-requires-clause-remains : goal.begin-requires-clause-remains
begin-requires-clause-remains c = c.requires.remains

pub begin-requires-clause-long : goal.begin-requires-clause-long
begin-requires-clause-long c = c.requires.long

pub returns-clause-tick : goal.returns-clause-tick
returns-clause-tick c = c.begin.ensures.tick

pub returns-clause-long : goal.returns-clause-long
returns-clause-long c = c.begin.ensures.long

pub returns-clause-serves : goal.returns-clause-serves
returns-clause-serves c = c.begin.ensures.serves

pub returns-clause-runs : goal.returns-clause-runs
returns-clause-runs c = c.begin.ensures.runs

pub returns-clause-places : goal.returns-clause-places
returns-clause-places c = refl

pub returns-clause-masks : goal.returns-clause-masks
returns-clause-masks c = refl
