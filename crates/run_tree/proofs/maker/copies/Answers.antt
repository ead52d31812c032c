use Rattle.std.proofs.Common.{◌+◌, ap, sym, take, ◌∙◌}
use Rattle.run_tree.proofs.MappedLists.{copied_more}
use Rattle.run_tree.proofs.maker.copies.Goals as goal

pub loop-packs-preserved : goal.loop-packs-preserved
loop-packs-preserved c =
    let i = c.loop-packs.packs-index in
    let levels = c.deref-packs-items.ensures.value in
    copied_more c.deref-packs-items.result.now i c.packs-item.result _ _ _ c.loop-packs-test.true c.packs-item.is (c.loop-packs.invariant
    ∙ sym (ap (take i) levels)) c.in_ok-push.ensures.items
    (c.in_ok-from_slice.ensures.items ∙ c.as_slice.ensures.value ∙ c.packs.view_is)
    ∙ ap (take (i + 1)) levels
