use Rattle.std.proofs.Common.{refl}
use Rattle.run_tool.proofs.ClosedLemmas.{usage_closed, sure_closed, done_closed, command_closed}
use Rattle.furnacelime.proofs.run_and_close.Goals as goal

pub returns-clause-ends : goal.returns-clause-ends
returns-clause-ends g c =
    let run = c.run_words-status.ensures in
    let close = c.close_run.ensures in
    record {
      status = _;
      mid = _;
      told = _;
      ends = run.ends;
      unread = run.unread;
      left = refl;
      read_faults = refl;
      out = close.kept;
      closed = close.closed;
    }

pub returns-clause-usage : goal.returns-clause-usage
returns-clause-usage g c = usage_closed _ _ _ c.close_run.ensures.closed.status_is c.run_words-status.ensures.ends.usage

pub returns-clause-sure : goal.returns-clause-sure
returns-clause-sure g c = sure_closed _ _ _ c.close_run.ensures.closed.status_is c.run_words-status.ensures.ends.sure

pub returns-clause-done : goal.returns-clause-done
returns-clause-done g c = λ is.
    let own = c.run_words-status.ensures.ends.done (done_closed _ _ _ c.close_run.ensures.closed.status_is is) in
    record {
      command = own.command;
      asked = own.asked;
      before = own.before;
      fresh = own.fresh;
      programs = own.programs;
      done = command_closed _ _ _ _ c.close_run.ensures.kept own.command own.before own.done;
    }
