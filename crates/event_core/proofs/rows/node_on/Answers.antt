use Rattle.std.proofs.Common.{sym, ap, ◌≡◌, ◌∙◌, None, Some}
use Rattle.run_tree.specs.Tree.{members}
use Rattle.run_tree.specs.Schedule.{shown}
use Rattle.event_core.specs.Steps.{leaf_by, leaf_shown}
use Rattle.event_core.proofs.rows.node_on.Goals as goal

pub returns-in-None-clause-none : goal.returns-in-None-clause-none
returns-in-None-clause-none c = λ start _. ap (leaf_shown c.args.plan.now c.args.serving.now.runs start) c.in-None.is

pub returns-in-None-clause-some : goal.returns-in-None-clause-some
returns-in-None-clause-some c = λ n start e. absurd (let e' : None ≡ Some n = e in cc)

pub returns-in-Some-clause-none : goal.returns-in-Some-clause-none
returns-in-Some-clause-none c = λ start e.
    let p = c.args.plan.now in
    let runs = c.args.serving.now.runs in
    ap (leaf_shown p runs start) c.in-Some.is
    ∙ ap (λ q. shown p.set.tasks p.tree.scale start (leaf_by p.tree runs (members p.tree q))) (sym c.first_pack.ensures.value)
    ∙ ap (shown p.set.tasks p.tree.scale start) (c.node_in.ensures.none e)

pub returns-in-Some-clause-some : goal.returns-in-Some-clause-some
returns-in-Some-clause-some c = λ n start e.
    let p = c.args.plan.now in
    let runs = c.args.serving.now.runs in
    ap (leaf_shown p runs start) c.in-Some.is
    ∙ ap (λ q. shown p.set.tasks p.tree.scale start (leaf_by p.tree runs (members p.tree q))) (sym c.first_pack.ensures.value)
    ∙ ap (shown p.set.tasks p.tree.scale start) (c.node_in.ensures.some n e)

pub first_pack-requires-clause-plan : goal.first_pack-requires-clause-plan
first_pack-requires-clause-plan c = c.requires.plan

pub first_pack-requires-clause-pack : goal.first_pack-requires-clause-pack
first_pack-requires-clause-pack c = c.requires.pack c.in-Some.i c.in-Some.is

pub node_in-requires-clause-plan : goal.node_in-requires-clause-plan
node_in-requires-clause-plan c = c.requires.plan

pub node_in-requires-clause-pack : goal.node_in-requires-clause-pack
node_in-requires-clause-pack c = c.first_pack.ensures.pack

pub node_in-requires-clause-serves : goal.node_in-requires-clause-serves
node_in-requires-clause-serves c = c.requires.serves

pub node_in-requires-clause-serving : goal.node_in-requires-clause-serving
node_in-requires-clause-serving c = c.requires.serving

pub returns-in-None-clause-within : goal.returns-in-None-clause-within
returns-in-None-clause-within c = λ n e. absurd (let e' : None ≡ Some n = e in cc)

pub returns-in-Some-clause-within : goal.returns-in-Some-clause-within
returns-in-Some-clause-within c = c.node_in.ensures.within
