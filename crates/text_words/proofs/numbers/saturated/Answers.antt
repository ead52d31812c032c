use Rattle.std.proofs.Common.{ap, ◌∙◌, ◌+◌, ◌^◌, ◌-◌, ◌*◌, min}
use Rattle.text_words.proofs.TextLemmas.{value_more}
use Rattle.text_words.proofs.numbers.saturated.Goals as goal

pub loop-b-preserved : goal.loop-b-preserved
loop-b-preserved c =
    value_more c.args.word.now c.loop-b.b-index c.loop-b.value c.saturating_add-value.result c.requires c.loop-b-test.true c.loop-b.invariant
    (c.saturating_add-value.ensures ∙ (ap (λ m. min (m + c.from.result) (2 ^ 128 - 1)) c.saturating_mul.ensures
    ∙ ap (λ f. min (min (c.loop-b.value * 10) (2 ^ 128 - 1) + f) (2 ^ 128 - 1)) c.from.ensures))
