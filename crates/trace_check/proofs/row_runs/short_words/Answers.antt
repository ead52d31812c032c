use Rattle.std.proofs.Common.{subst, sym}
use Rattle.text_words.specs.Words.{BeginsWith}
use Rattle.trace_check.proofs.WholeRowLemmas.{says_whole_row}
use Rattle.trace_check.proofs.row_runs.short_words.Goals as goal

pub returns-clause-says : goal.returns-clause-says
returns-clause-says c =
    let front = c.in-Some.ensures in
    let b = c.in-Some.rest.now in
    let d = c.in-Some-cut_short.rest.now in
    let f = c.in-Some-cut_short-2.rest.now in
    let start : BeginsWith c.from.result b d = subst (λ n. BeginsWith n b d) (sym c.from.ensures) c.in-Some-cut_short.ensures in
    let end : BeginsWith c.from-2.result d f = subst (λ n. BeginsWith n d f) (sym c.from-2.ensures) c.in-Some-cut_short-2.ensures in
    says_whole_row c.args.text.now front.behind b d f _ front.row front.processor start end c.in-Some-named_line.ensures.line
