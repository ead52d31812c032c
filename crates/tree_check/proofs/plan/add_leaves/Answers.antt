use Rattle.std.proofs.Common.{◌≡◌, ◌+◌, suc, length, ap, ◌∙◌, arith}
use Rattle.tree_check.specs.Written.{level_at}
use Rattle.tree_check.specs.Faults.{before}
use Rattle.tree_check.specs.FirstSteps.{first_making}
use Rattle.tree_check.proofs.LeafSteps.{at_leaf, leaf_asks, leaf_next, pack_done}
use Rattle.tree_check.proofs.plan.add_leaves.Goals as goal

pub leaf-requires : goal.leaf-requires
leaf-requires c =
    let w = c.args.tree.now in
    let x = c.member-item.result in
    let at =
    at_leaf w c.args.i c.loop-member.member-index c.args.members.now c.args.rates.now c.loop-member.maker x c.leaf_of-leaf.result c.rate_named-rate.result
    c.set.result.now c.named.result
    c.requires.pack c.requires.members c.loop-member-test.true c.member-item.is c.requires.rates c.loop-member.invariant
    c.set.ensures.value c.leaf_of-leaf.ensures c.named.ensures c.rate_named-rate.ensures in
    let may = leaf_asks w c.scale-scale.ensures.lawful c.requires.no_fault c.args.i c.loop-member.member-index c.args.members.now c.args.rates.now
    c.loop-member.maker x c.leaf_of-leaf.result c.rate_named-rate.result at in
    record { first_level = may.first_level; few = may.few; pack = may.pack; some_rate = may.some_rate; rate_fits = may.rate_fits; within = may.within }

pub loop-member-preserved : goal.loop-member-preserved
loop-member-preserved c =
    let w = c.args.tree.now in
    let x = c.member-item.result in
    let at =
    at_leaf w c.args.i c.loop-member.member-index c.args.members.now c.args.rates.now c.loop-member.maker x c.leaf_of-leaf.result c.rate_named-rate.result
    c.set.result.now c.named.result
    c.requires.pack c.requires.members c.loop-member-test.true c.member-item.is c.requires.rates c.loop-member.invariant
    c.set.ensures.value c.leaf_of-leaf.ensures c.named.ensures c.rate_named-rate.ensures in
    c.in_ok-leaf.ensures.ok
    ∙ leaf_next w c.scale-scale.ensures.lawful c.requires.no_fault c.args.i c.loop-member.member-index c.args.members.now c.args.rates.now
    c.loop-member.maker x c.leaf_of-leaf.result c.rate_named-rate.result at

pub returns : goal.returns
returns c =
    let w = c.args.tree.now in
    let packs = level_at w 0 in
    let whole = ap length c.requires.members in
    let done = pack_done packs c.args.i c.requires.pack in
    let e : before packs c.args.i + c.loop-member.member-index ≡ before packs (suc c.args.i) = omega (
      arith,
      c.loop-member-test.false,
      c.loop-member.auto.member-index-end,
      whole,
      done,
    ) in
    c.loop-member.invariant ∙ ap (first_making w) e
