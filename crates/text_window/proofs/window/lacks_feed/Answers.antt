use Rattle.std.proofs.Common.{eq-eqb}
use Rattle.std.proofs.lemmas.Bool.{both_ways, not-true}
use Rattle.text_window.proofs.LineLemmas.{feed_added}
use Rattle.text_window.proofs.window.lacks_feed.Goals as goal

pub returns-in-Some-clause-other : goal.returns-in-Some-clause-other
returns-in-Some-clause-other c =
    λ other. feed_added c.args.text.now c.in-Some.last.now c.in-Some.field-0-1.now c.in-Some.ensures.cases.0 (λ e. both_ways _ (not-true _ other)
    (eq-eqb c.in-Some.last.now 10 e))
