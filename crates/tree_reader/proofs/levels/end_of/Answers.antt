use Rattle.std.proofs.Common.{codes, sym, eq-eqb}
use Rattle.std.proofs.lemmas.Bool.{both_ways}
use Rattle.text_words.specs.Words.{lines_of}
use Rattle.trace_check.specs.Steps.{number_after}
use Rattle.tree_reader.proofs.WordLemmas.{some_line}
use Rattle.tree_reader.proofs.ReadingLemmas.{ended_more}
use Rattle.tree_reader.proofs.levels.end_of.Goals as goal

pub returns-then-not-is_empty-clause-fault : goal.returns-then-not-is_empty-clause-fault
returns-then-not-is_empty-clause-fault c =
    let n = number_after (codes "levels") c.args.line.now in
    let more = some_line c.args.rest.now (λ e. both_ways _ (sym c.if-not-is_empty.ensures) (eq-eqb _ _ e)) in
    ended_more c.args.at c.args.levels.now n (lines_of c.args.rest.now) more.0.0 more.0.1 (sym (c.if-not-is_count.ensures n c.number_after.ensures)) more.1
