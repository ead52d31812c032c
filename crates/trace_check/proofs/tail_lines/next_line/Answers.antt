use Rattle.std.proofs.Common.{sym}
use Rattle.std.proofs.lemmas.Bool.{eqb-false}
use Rattle.trace_check.proofs.TailLemmas.{cuts_whole, cuts_last}
use Rattle.trace_check.proofs.tail_lines.next_line.Goals as goal

pub returns-in-Some-clause-some : goal.returns-in-Some-clause-some
returns-in-Some-clause-some c = cuts_whole c.args.ended c.args.text.now c.in-Some.line.now c.in-Some.later.now c.in-Some.ensures.line

pub returns-then-not-is_empty-clause-some : goal.returns-then-not-is_empty-clause-some
returns-then-not-is_empty-clause-some c = cuts_last c.args.ended c.args.text.now c.if-ended.true c.in-None.ensures.none
    (eqb-false _ _ (sym c.if-not-is_empty.ensures))
