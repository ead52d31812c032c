use Rattle.std.proofs.Common.{ap, false, length, replicate, ◌∙◌}
use Rattle.std.proofs.lemmas.Result.{IfOk-from_err}
use Rattle.run_tree.specs.Tree.{Tree}
use Rattle.event_core.proofs.NextCores.{first_left}
use Rattle.event_core.proofs.firsts.first_serving.Goals as goal

pub returns-clause-left : goal.returns-clause-left
returns-clause-left c = first_left c.args.plan.now c.requires.plan c.args.calendar.now c.requires.calendar c.requires.unit c.begin_first.new.dues.remains
    c.begin_first.ensures.filled

pub returns-in_err-dues-clause-tick : goal.returns-in_err-dues-clause-tick
returns-in_err-dues-clause-tick c = IfOk-from_err c.from_residual.result _ c.from_residual.ensures.0

pub returns-in_err-dues-clause-nodes : goal.returns-in_err-dues-clause-nodes
returns-in_err-dues-clause-nodes c = IfOk-from_err c.from_residual.result _ c.from_residual.ensures.0

pub returns-in_err-dues-clause-left : goal.returns-in_err-dues-clause-left
returns-in_err-dues-clause-left c = IfOk-from_err c.from_residual.result _ c.from_residual.ensures.0

pub returns-in_err-dues-clause-long : goal.returns-in_err-dues-clause-long
returns-in_err-dues-clause-long c = IfOk-from_err c.from_residual.result _ c.from_residual.ensures.0

pub returns-in_err-dues-clause-serving : goal.returns-in_err-dues-clause-serving
returns-in_err-dues-clause-serving c = IfOk-from_err c.from_residual.result _ c.from_residual.ensures.0

pub returns-in_err-dues-clause-marked : goal.returns-in_err-dues-clause-marked
returns-in_err-dues-clause-marked c = IfOk-from_err c.from_residual.result _ c.from_residual.ensures.0

pub returns-in_err-serving-clause-tick : goal.returns-in_err-serving-clause-tick
returns-in_err-serving-clause-tick c = IfOk-from_err c.from_residual-in_err-serving.result _ c.from_residual-in_err-serving.ensures.0

pub returns-in_err-serving-clause-nodes : goal.returns-in_err-serving-clause-nodes
returns-in_err-serving-clause-nodes c = IfOk-from_err c.from_residual-in_err-serving.result _ c.from_residual-in_err-serving.ensures.0

pub returns-in_err-serving-clause-left : goal.returns-in_err-serving-clause-left
returns-in_err-serving-clause-left c = IfOk-from_err c.from_residual-in_err-serving.result _ c.from_residual-in_err-serving.ensures.0

pub returns-in_err-serving-clause-long : goal.returns-in_err-serving-clause-long
returns-in_err-serving-clause-long c = IfOk-from_err c.from_residual-in_err-serving.result _ c.from_residual-in_err-serving.ensures.0

pub returns-in_err-serving-clause-serving : goal.returns-in_err-serving-clause-serving
returns-in_err-serving-clause-serving c = IfOk-from_err c.from_residual-in_err-serving.result _ c.from_residual-in_err-serving.ensures.0

pub returns-in_err-serving-clause-marked : goal.returns-in_err-serving-clause-marked
returns-in_err-serving-clause-marked c = IfOk-from_err c.from_residual-in_err-serving.result _ c.from_residual-in_err-serving.ensures.0

pub blank_serving-requires : goal.blank_serving-requires
blank_serving-requires c = record { plan = c.requires.plan }

pub begin_first-requires-clause-plan : goal.begin_first-requires-clause-plan
begin_first-requires-clause-plan c = c.requires.plan

pub begin_first-requires-clause-calendar : goal.begin_first-requires-clause-calendar
begin_first-requires-clause-calendar c = c.requires.calendar

pub begin_first-requires-clause-first : goal.begin_first-requires-clause-first
begin_first-requires-clause-first c = c.in_ok-dues.ensures.tick

pub begin_first-requires-clause-remains : goal.begin_first-requires-clause-remains
begin_first-requires-clause-remains c = c.in_ok-dues.ensures.remains ∙ ap (λ (t : Tree). replicate (length t.nodes) 0) c.tree.ensures.value

pub begin_first-requires-clause-dues : goal.begin_first-requires-clause-dues
begin_first-requires-clause-dues c = c.in_ok-dues.ensures.runs ∙ ap (λ (t : Tree). replicate (length t.nodes) false) c.tree.ensures.value

pub begin_first-requires-clause-blank : goal.begin_first-requires-clause-blank
begin_first-requires-clause-blank c = c.in_ok-serving.ensures

pub returns-clause-tick : goal.returns-clause-tick
returns-clause-tick c = c.begin_first.ensures.tick

pub returns-clause-nodes : goal.returns-clause-nodes
returns-clause-nodes c = c.begin_first.ensures.nodes

pub returns-clause-long : goal.returns-clause-long
returns-clause-long c = c.begin_first.ensures.long

pub returns-clause-serving : goal.returns-clause-serving
returns-clause-serving c = c.begin_first.ensures.serving

pub returns-clause-marked : goal.returns-clause-marked
returns-clause-marked c = c.begin_first.ensures.marked
