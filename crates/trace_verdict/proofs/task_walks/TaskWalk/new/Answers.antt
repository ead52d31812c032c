use Rattle.std.proofs.Common.{refl, arith}
use Rattle.trace_verdict.proofs.TimedLemmas.{gone_none}
use Rattle.trace_verdict.proofs.task_walks.TaskWalk.new.Goals as goal

pub returns-clause-gone : goal.returns-clause-gone
returns-clause-gone c = λ rows j.
    gone_none rows j _
    (record {
      lawful = c.requires.lawful;
      stands = λ begun. record { base = refl; span = refl; number = refl; begun = omega arith; ends = begun; small = omega arith };
      late = c.most_rows.ensures;
    }) refl refl refl c.none.ensures
