use Rattle.std.proofs.Common.{get_or, ◌≡◌}
use Rattle.event_core.specs.Rounds.{rows_of_round}
use Rattle.std.proofs.Common.{subst, sym}
use Rattle.event_core.specs.Cores.{CoreContents, IsCoreOf}
use Rattle.event_core.specs.Rounds.{IsRoundUpTo}
use Rattle.event_core.proofs.cores.Core.leaf_on.Goals as goal

pub leaf_gone-requires-clause-plan : goal.leaf_gone-requires-clause-plan
leaf_gone-requires-clause-plan c = c.know_lawful.ensures.lawful

pub leaf_gone-requires-clause-core : goal.leaf_gone-requires-clause-core
leaf_gone-requires-clause-core c = subst (λ (k : CoreContents). IsCoreOf c.args.plan.now k) (sym c.self.view_is) c.requires.belongs

pub leaf_gone-requires-clause-round : goal.leaf_gone-requires-clause-round
leaf_gone-requires-clause-round c = subst (λ (k : CoreContents). IsRoundUpTo c.args.plan.now c.args.start k.tick) (sym c.self.view_is) c.requires.round

pub leaf_gone-requires-clause-processor : goal.leaf_gone-requires-clause-processor
leaf_gone-requires-clause-processor c = c.requires.processor

pub returns-clause-full : goal.returns-clause-full
returns-clause-full c = c.leaf_gone.ensures.full

pub returns-clause-row : goal.returns-clause-row
returns-clause-row c = λ none. subst (λ (k : CoreContents). get_or (rows_of_round c.args.plan.now c.args.start k.tick) c.args.q none ≡ record
    { processor = c.args.q; leaf = c.leaf_gone.result; start = c.args.start; end = k.tick }) c.self.view_is (c.leaf_gone.ensures.row none)
