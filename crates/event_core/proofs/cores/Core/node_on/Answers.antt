use Rattle.sched_base.specs.declared.rows.Leaf.TheVariants.{Empty}
use Rattle.run_tree.specs.Schedule.{shown}
use Rattle.run_tree.specs.Tree.{leaf}
use Rattle.event_core.specs.Rounds.{rows_of_round}
use Rattle.std.proofs.Common.{◌≡◌, get_or, subst, sym}
use Rattle.event_core.specs.Cores.{CoreContents, IsCoreOf}
use Rattle.event_core.specs.Rounds.{IsRoundUpTo}
use Rattle.event_core.proofs.cores.Core.node_on.Goals as goal

pub node_gone-requires-clause-plan : goal.node_gone-requires-clause-plan
node_gone-requires-clause-plan c = c.know_lawful.ensures.lawful

pub node_gone-requires-clause-core : goal.node_gone-requires-clause-core
node_gone-requires-clause-core c = subst (λ (k : CoreContents). IsCoreOf c.args.plan.now k) (sym c.self.view_is) c.requires.belongs

pub node_gone-requires-clause-round : goal.node_gone-requires-clause-round
node_gone-requires-clause-round c = subst (λ (k : CoreContents). IsRoundUpTo c.args.plan.now c.args.start k.tick) (sym c.self.view_is) c.requires.round

pub node_gone-requires-clause-processor : goal.node_gone-requires-clause-processor
node_gone-requires-clause-processor c = c.requires.processor

pub returns-clause-within : goal.returns-clause-within
returns-clause-within c = c.node_gone.ensures.within

pub returns-clause-none : goal.returns-clause-none
returns-clause-none c = λ none e. subst (λ (k : CoreContents). (get_or (rows_of_round c.args.plan.now c.args.start k.tick) c.args.q none).leaf ≡ Empty)
    c.self.view_is (c.node_gone.ensures.none none e)

pub returns-clause-some : goal.returns-clause-some
returns-clause-some c = λ n none e.
    let p = c.args.plan.now in
    subst (λ (k : CoreContents). (get_or (rows_of_round p c.args.start k.tick) c.args.q none).leaf ≡ shown p.set.tasks p.tree.scale c.args.start
    (leaf p.tree n.0)) c.self.view_is (c.node_gone.ensures.some n none e)
