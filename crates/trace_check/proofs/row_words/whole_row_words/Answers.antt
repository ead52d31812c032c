use Rattle.trace_check.proofs.WholeRowLemmas.{says_whole_row}
use Rattle.trace_check.proofs.row_words.whole_row_words.Goals as goal

pub returns : goal.returns
returns c =
    let front = c.in-Some.ensures in
    says_whole_row c.args.text.now front.behind c.in-Some.rest.now c.in-Some-cut_number.rest.now c.in-Some-cut_word.rest.now _ front.row front.processor
    c.in-Some-cut_number.ensures c.in-Some-cut_word.ensures c.in-Some-whole_line.ensures.line
