use Rattle.text_words.proofs.TextLemmas.{cut_from, cut_none}
use Rattle.std.proofs.Common.{sym, arith}
use Rattle.text_words.proofs.words.cut_space.Goals as goal

pub returns-then-end-text : goal.returns-then-end-text
returns-then-end-text c = sym (cut_none c.args.text.now (λ k h. c.place_of-end.ensures.before k (omega (arith, h))))

pub returns-else-end-text : goal.returns-else-end-text
returns-else-end-text c = cut_from c.args.text.now c.place_of-end.result c.place_of-end.ensures.within c.if-end-text.false c.place_of-end.ensures.before
    c.place_of-end.ensures.at
