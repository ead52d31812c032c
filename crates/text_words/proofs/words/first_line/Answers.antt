use Rattle.text_words.proofs.TextLemmas.{line_from, line_to_end}
use Rattle.text_words.proofs.words.first_line.Goals as goal

pub returns-then-end-text-clause-line : goal.returns-then-end-text-clause-line
returns-then-end-text-clause-line c = line_to_end c.args.text.now c.place_of-end.result c.requires c.if-end-text.true c.place_of-end.ensures.before

pub returns-else-end-text-clause-line : goal.returns-else-end-text-clause-line
returns-else-end-text-clause-line c = line_from c.args.text.now c.place_of-end.result c.place_of-end.ensures.within c.if-end-text.false
    c.place_of-end.ensures.before c.place_of-end.ensures.at
