use Rattle.std.proofs.Common.{◌∙◌, refl, sym}
use Rattle.exec_lanes.proofs.ErrorLemmas.{untrue}
use Rattle.run_tool.proofs.RunLemmas.{back_same}
use Rattle.run_tool.proofs.running.run.Goals as goal

-- ---- no execution

pub run_without_crew-requires-clause-still : goal.run_without_crew-requires-clause-still
run_without_crew-requires-clause-still g c κs within = sym c.asks_to_execute.ensures ∙ c.if-not-asks_to_execute.true

pub returns-then-not-asks_to_execute-clause-usage : goal.returns-then-not-asks_to_execute-clause-usage
returns-then-not-asks_to_execute-clause-usage g c = c.run_without_crew.ensures.usage

pub returns-then-not-asks_to_execute-clause-unread : goal.returns-then-not-asks_to_execute-clause-unread
returns-then-not-asks_to_execute-clause-unread g c = c.run_without_crew.ensures.unread

pub returns-then-not-asks_to_execute-clause-done : goal.returns-then-not-asks_to_execute-clause-done
returns-then-not-asks_to_execute-clause-done g c = λ is. let (k, asked, done) = c.run_without_crew.ensures.done is in (k, asked, done _)

pub returns-then-not-asks_to_execute-clause-invalid : goal.returns-then-not-asks_to_execute-clause-invalid
returns-then-not-asks_to_execute-clause-invalid g c = c.run_without_crew.ensures.invalid

pub returns-then-not-asks_to_execute-clause-ends : goal.returns-then-not-asks_to_execute-clause-ends
returns-then-not-asks_to_execute-clause-ends g c k e = c.run_without_crew.ensures.ends k _ _ e

pub returns-then-not-asks_to_execute-clause-still : goal.returns-then-not-asks_to_execute-clause-still
returns-then-not-asks_to_execute-clause-still g c = λ _. (refl, refl)

pub returns-then-not-asks_to_execute-clause-uncalled : goal.returns-then-not-asks_to_execute-clause-uncalled
returns-then-not-asks_to_execute-clause-uncalled g c = λ _. (refl, refl)

pub returns-then-not-asks_to_execute-clause-back : goal.returns-then-not-asks_to_execute-clause-back
returns-then-not-asks_to_execute-clause-back g c = back_same _

pub returns-then-not-asks_to_execute-clause-answered : goal.returns-then-not-asks_to_execute-clause-answered
returns-then-not-asks_to_execute-clause-answered g c = λ quiet. c.run_without_crew.ensures.answered

-- ---- an execution

pub run_execution-requires-clause-asks : goal.run_execution-requires-clause-asks
run_execution-requires-clause-asks g c κs within = sym c.asks_to_execute.ensures ∙ c.if-not-asks_to_execute.false

pub run_execution-requires-clause-ready : goal.run_execution-requires-clause-ready
run_execution-requires-clause-ready g c κs within = c.requires.ready

pub returns-clause-usage : goal.returns-clause-usage
returns-clause-usage g c = c.run_execution.ensures.usage

pub returns-clause-unread : goal.returns-clause-unread
returns-clause-unread g c = c.run_execution.ensures.unread

pub returns-clause-done : goal.returns-clause-done
returns-clause-done g c = c.run_execution.ensures.done

pub returns-clause-invalid : goal.returns-clause-invalid
returns-clause-invalid g c = λ is. absurd (c.run_execution.ensures.valid is)

pub returns-clause-ends : goal.returns-clause-ends
returns-clause-ends g c = c.run_execution.ensures.ends

pub returns-clause-still : goal.returns-clause-still
returns-clause-still g c = λ asks. untrue (sym (sym (sym c.asks_to_execute.ensures ∙ c.if-not-asks_to_execute.false) ∙ asks))

pub returns-clause-uncalled : goal.returns-clause-uncalled
returns-clause-uncalled g c = c.run_execution.ensures.uncalled

pub returns-clause-back : goal.returns-clause-back
returns-clause-back g c = c.run_execution.ensures.back

pub returns-clause-answered : goal.returns-clause-answered
returns-clause-answered g c = c.run_execution.ensures.answered
