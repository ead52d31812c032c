use Rattle.std.proofs.Common.{◌≡◌, ◌++◌, ◌∷◌, [], sym, ap, ◌∙◌, append-nil}
use Rattle.text_window.specs.Windows.{WindowHeld}
use Rattle.text_window.proofs.window.Window.end_line.Goals as goal

pub returns-then-not-lacks_feed-clause-kept : goal.returns-then-not-lacks_feed-clause-kept
returns-then-not-lacks_feed-clause-kept c = ([], sym (append-nil _))

pub returns-clause-kept : goal.returns-clause-kept
returns-clause-kept c =
    let view = ap (λ (w : WindowHeld). w.ahead) c.self.view_is in
    let same : c.self.inside.bytes.items ≡ c.args.self.now.ahead = cc in
    (10 ∷ [], c.in_ok-extend_from_slice.ensures.items ∙ ap (λ t. t ++ 10 ∷ []) same)
