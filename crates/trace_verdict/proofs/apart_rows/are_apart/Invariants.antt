use Rattle.trace_verdict.specs.Dealt.{AreDealt}
use Rattle.trace_verdict.specs.Orders.{key_by}
use Rattle.trace_verdict.proofs.apart_rows.are_apart.Given as goal

abbrev pub invariant-loop-key : goal.invariant-loop-key
invariant-loop-key l = AreDealt (key_by l.by) l.rows l.dealt
