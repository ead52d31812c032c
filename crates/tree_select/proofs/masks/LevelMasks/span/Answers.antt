use Rattle.std.proofs.Common.{ap, arith, get_or, length, subst, sym, List, ◌≡◌, ◌∙◌}
use Rattle.std.proofs.lemmas.List.{get_or_default}
use Rattle.tree_select.specs.declared.masks.Span.{Span}
use Rattle.tree_select.specs.Masks.{no_span, IsSpanOf, Masks}
use Rattle.tree_select.proofs.masks.LevelMasks.span.Goals as goal

pub returns : goal.returns
returns c =
    let m = c.args.self.now in
    let spans : c.self.inside.spans.items ≡ m.spans = ap (λ (x : Masks). x.spans) c.self.view_is in
    let same = ap (λ (xs : List Span). length xs) spans in
    let long = c.requires.masks.spans.long in
    let low = c.requires.level in
    let at = c.index.ensures ∙ get_or_default c.self.inside.spans.items c.args.level c.index.result.now no_span (omega (arith, same, long, low))
    ∙ ap (λ (xs : List Span). get_or xs c.args.level no_span) spans in
    subst (IsSpanOf c.args.tree.now m.groups c.args.level) (sym at) (c.requires.masks.spans.each c.args.level low)
