use Rattle.std.proofs.Common.{◌-◌, ◌∙◌, ap}
use Rattle.tree_check.specs.Written.{Pack}
use Rattle.run_tree.proofs.MappedLists.{mapped_more, mapped_all}
use Rattle.tree_check.proofs.rates.lacks.Goals as goal

pub loop-pack-preserved : goal.loop-pack-preserved
loop-pack-preserved c = mapped_more (λ (p : Pack). c.args.scale - p.rate) c.args.packs.now c.loop-pack.pack-index c.pack-item.result _ _
    c.saturating_sub.result c.loop-pack-test.true c.pack-item.is c.loop-pack.invariant c.in_ok-push.ensures.items (c.saturating_sub.ensures
    ∙ ap (λ (p : Pack). c.args.scale - p.rate) c.pack.view_is)

pub returns : goal.returns
returns c = mapped_all (λ (p : Pack). c.args.scale - p.rate) c.args.packs.now c.loop-pack.pack-index _ c.loop-pack-test.false c.loop-pack.invariant
