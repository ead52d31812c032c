use Rattle.std.proofs.Common.{ℕ, get_or, refl}
use Rattle.std.proofs.lemmas.List.{get_or_default}
use Rattle.run_tree.proofs.MappedLists.{mapped_more, mapped_all}
use Rattle.run_tree.proofs.maker.named_of.Goals as goal

pub loop-place-preserved : goal.loop-place-preserved
loop-place-preserved c =
    let order = c.args.order.now in
    let place = get_or order c.loop-place.place-index 0 in
    let at = get_or_default order c.loop-place.place-index 0 place c.loop-place-test.true in
    mapped_more (λ (i : ℕ). get_or c.args.packs.now i 0) order c.loop-place.place-index place _ _ _ c.loop-place-test.true at c.loop-place.invariant
    c.in_ok-push.ensures.items refl

pub returns : goal.returns
returns c = mapped_all (λ (i : ℕ). get_or c.args.packs.now i 0) c.args.order.now c.loop-place.place-index _ c.loop-place-test.false c.loop-place.invariant
