use Rattle.std.proofs.Common.{List, ap, ◌∙◌}
use Rattle.merged_rounds.specs.Shown.{PackShows, packs_in, shown_in}
use Rattle.merged_rounds.proofs.TurnLemmas.{packs_push, shown_push}
use Rattle.merged_rounds.proofs.turns.Turn.keep.Goals as goal

pub returns-clause-packs : goal.returns-clause-packs
returns-clause-packs c = ap (λ (es : List PackShows). packs_in es) c.in_ok-push.ensures.items ∙ packs_push _ _ _ c.new.ensures.pack

pub returns-clause-shown : goal.returns-clause-shown
returns-clause-shown c = ap (λ (es : List PackShows). shown_in es) c.in_ok-push.ensures.items ∙ shown_push _ _ _ c.new.ensures.shown
