use Rattle.std.proofs.Common.{◌/◌, ◌∙◌, refl, sym, arith}
use Rattle.knockout.proofs.KnockoutLemmas.{here, pair_won, partner_below, second_same, right_but}
use Rattle.knockout.proofs.replay.Goals as goal

pub loop-at-preserved : goal.loop-at-preserved
loop-at-preserved c =
    let at = c.loop-at.at / 2 in
    let won = pair_won c.loop-at.keys c.loop-at.at c.partner.result c.loop-at.first.0 c.earlier-first.result.0 c.partner.ensures.left
    c.partner.ensures.right c.loop-at.invariant.4 c.earlier-first.ensures in (
      omega arith,
      omega arith,
      second_same c.loop-at.keys _ at c.earlier-first.result refl won c.args.count (omega arith) ∙ c.loop-at.invariant.2,
      right_but c.loop-at.keys _ at c.earlier-first.result refl won c.args.count c.loop-at.at refl (omega arith) (omega arith) c.loop-at.invariant.3,
      sym (here c.loop-at.keys _ at c.earlier-first.result refl won (omega arith)),
    )

pub offset_bounds-keys-partner : goal.offset_bounds-keys-partner
offset_bounds-keys-partner c =
    let low = partner_below c.loop-at.at c.partner.result c.args.count c.partner.ensures.left c.partner.ensures.right c.loop-at.invariant.1 in
    let few = c.requires.few in
    omega (arith, low, few)

pub slice_copy_out-earlier : goal.slice_copy_out-earlier
slice_copy_out-earlier c =
    let low = partner_below c.loop-at.at c.partner.result c.args.count c.partner.ensures.left c.partner.ensures.right c.loop-at.invariant.1 in
    let long = c.requires.count in
    let kept = c.loop-at.auto.keys in
    omega (arith, low, long, kept)
