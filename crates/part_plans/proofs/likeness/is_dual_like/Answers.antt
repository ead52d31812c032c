use Rattle.std.proofs.Common.{subst, sym, ◌<◌}
use Rattle.part_plans.proofs.Duals.{dual_is}
use Rattle.part_plans.proofs.likeness.is_dual_like.Goals as goal

pub bounds-onto-d : goal.bounds-onto-d
bounds-onto-d c =
    let i = c.in-Some-Some in
    subst (λ n. i.d.0 < n) (sym c.requires.long)
    (dual_is c.args.own.now c.know_lawful.ensures.lawful.tree c.args.p.0 c.requires.own c.dual-2.result i.d i.is-1 c.dual-2.ensures).0
