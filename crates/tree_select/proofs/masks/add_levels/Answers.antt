use Rattle.std.proofs.Common.{ap, arith, length, subst, sym, ℕ, List, ◌+◌}
use Rattle.tree_select.specs.declared.masks.Span.{Span}
use Rattle.tree_select.specs.Masks.{AreSpansOf}
use Rattle.tree_select.proofs.MaskLemmas.{spans_more}
use Rattle.tree_select.proofs.masks.add_levels.Goals as goal

pub loop-level-init : goal.loop-level-init
loop-level-init c = record { long = ap (λ (xs : List Span). length xs) c.new-spans.ensures.items; each = λ l m. absurd (omega (arith, m)) }

pub loop-level-preserved : goal.loop-level-preserved
loop-level-preserved c =
    subst (λ (spans : List Span). AreSpansOf c.args.tree.now c.add_level.new.groups.items spans (c.loop-level.level + 1)) (sym c.in_ok-push.ensures.items)
    (spans_more c.args.tree.now c.loop-level.groups.items c.add_level.new.groups.items c.loop-level.spans.items c.loop-level.level c.in_ok-add_level.field-0
    c.in_ok-add_level.ensures.kept c.in_ok-add_level.ensures.span c.loop-level.invariant)

pub returns : goal.returns
returns c =
    let many = c.levels-level-end.ensures.value in
    let off = c.loop-level-test.false in
    let most = c.loop-level.auto.level-end in
    subst (λ (n : ℕ). AreSpansOf c.args.tree.now c.loop-level.groups.items c.loop-level.spans.items n) (omega (arith, many, off, most)) c.loop-level.invariant
