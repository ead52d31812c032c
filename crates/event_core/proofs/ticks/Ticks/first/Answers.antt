use Rattle.std.proofs.Common.{ℕ, List, subst}
use Rattle.event_core.specs.Ticks.{IsFirstTick}
use Rattle.event_core.proofs.TickLemmas.{first_by}
use Rattle.event_core.proofs.ticks.Ticks.first.Goals as goal

pub returns-clause-first : goal.returns-clause-first
returns-clause-first c =
    subst (λ (ticks : List ℕ). IsFirstTick ticks c.args.most c.first_of.result) c.self.view_is
    (first_by c.self.inside.number.items c.self.inside.nodes.items c.self.inside.by_place.items c.args.most c.first_of.result c.self.invariant.0
    (subst (λ (ticks : List ℕ). IsFirstTick ticks c.args.most c.first_of.result) c.deref-2.ensures.value c.first_of.ensures.first))
