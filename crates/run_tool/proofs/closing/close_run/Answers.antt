use Rattle.std.proofs.Common.{refl}
use Rattle.run_tool.proofs.ClosingLemmas.{closed_by_fault, closed_quietly, closed_after_text, closed_whole}
use Rattle.run_tool.proofs.closing.close_run.Goals as goal

pub returns-clause-fault : goal.returns-clause-fault
returns-clause-fault g c = closed_by_fault _ _ _ _ _ _ _ c.flush-flushed.ensures.cause c.close_flushed.ensures.status c.close_flushed.ensures.told

pub returns-clause-quiet : goal.returns-clause-quiet
returns-clause-quiet g c = closed_quietly 0 0 _ _ _ _ _ c.close_flushed.ensures.status c.close_flushed.ensures.told

pub returns-clause-told : goal.returns-clause-told
returns-clause-told g c = closed_after_text _ _ _ c.close_flushed.ensures.status

pub returns-clause-done : goal.returns-clause-done
returns-clause-done g c = λ is. closed_whole _ _ _ _ _ c.flush-flushed.ensures.handed_on c.close_flushed.ensures.status is refl

pub returns-clause-invalid : goal.returns-clause-invalid
returns-clause-invalid g c = λ is. closed_whole _ _ _ _ _ c.flush-flushed.ensures.handed_on c.close_flushed.ensures.status is refl

pub returns-clause-closed : goal.returns-clause-closed
returns-clause-closed g c = record {
  flushed = c.flush-flushed.result;
  handed_on = c.flush-flushed.ensures.handed_on;
  cause = c.flush-flushed.ensures.cause;
  status_is = c.close_flushed.ensures.status;
  told = c.close_flushed.ensures.told;
}
