use Rattle.std.proofs.Common.{◌<◌, ◌+◌, ◌++◌, ◌∷◌, take, length, sym, refl, ap, ◌∙◌, Some, arith}
use Rattle.std.proofs.lemmas.Bool.{cond-true, and_from}
use Rattle.text_words.proofs.TextLemmas.{cut_here, take_rest}
use Rattle.text_words.proofs.numbers.cut_short_number.Goals as goal

pub returns : goal.returns
returns c =
    let bs = c.args.text.now in
    let n = c.front_digits-count.result.0 in
    let within = c.front_digits-count.ensures.within in
    let inside : n < length bs = omega (arith, within, c.if-count-text.false) in (
      take n bs,
      cut_here bs n inside c.if-text-count-ne32.false ∙ ap (λ r. take n bs ++ 32 ∷ r) (sym (take_rest (n + 1) (length bs) bs refl)),
      cond-true _ _ _ (and_from _ _ (sym c.leads.ensures ∙ c.if-not-leads.false) c.front_digits-count.ensures.digits)
          ∙ ap Some (sym c.front_digits-count.ensures.value),
    )
