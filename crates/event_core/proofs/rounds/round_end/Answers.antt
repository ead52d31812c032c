use Rattle.std.proofs.Common.{ap, min, subst, ◌*◌, ◌∙◌}
use Rattle.run_tree.specs.Plans.{stop_of}
use Rattle.event_core.specs.Serving.{IsSoonest}
use Rattle.event_core.proofs.rounds.round_end.Goals as goal

pub last_tick-most-requires : goal.last_tick-most-requires
last_tick-most-requires c = c.next.ensures.within

pub first_dry-requires-clause-dry : goal.first_dry-requires-clause-dry
first_dry-requires-clause-dry c = c.requires.dry

pub first_dry-requires-clause-most : goal.first_dry-requires-clause-most
first_dry-requires-clause-most c = c.last_tick-most.ensures.fits

pub returns-clause-same : goal.returns-clause-same
returns-clause-same c = c.first_dry.ensures.same

pub returns-clause-end : goal.returns-clause-end
returns-clause-end c =
    let p = c.args.plan.now in
    subst (λ n. IsSoonest p.tree c.args.serving.now.dry n c.first_dry.result) (c.last_tick-most.ensures.value ∙ ap (λ n. min (stop_of p) (n * p.tree.scale))
    c.next.ensures.value) c.first_dry.ensures.first
