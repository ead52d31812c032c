use Rattle.text_window.proofs.LineLemmas.{whole_line_is, all_lacks}
use Rattle.text_window.proofs.lines.whole_line.Goals as goal

pub returns-else-end-text-clause-line : goal.returns-else-end-text-clause-line
returns-else-end-text-clause-line c = whole_line_is c.args.text.now c.place_of_feed-end.result c.place_of_feed-end.ensures.within c.if-end-text.false
    c.place_of_feed-end.ensures.before c.place_of_feed-end.ensures.at

pub returns-then-end-text-clause-none : goal.returns-then-end-text-clause-none
returns-then-end-text-clause-none c = all_lacks c.args.text.now c.place_of_feed-end.result c.if-end-text.true c.place_of_feed-end.ensures.before
