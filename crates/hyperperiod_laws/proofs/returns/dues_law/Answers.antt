use Rattle.hyperperiod_laws.proofs.LaterEvents.{event_again}
use Rattle.hyperperiod_laws.proofs.LaterRuns.{runs_again}
use Rattle.hyperperiod_laws.proofs.RoundTrees.{left_again, recurs_by, schedule_goes_on}
use Rattle.hyperperiod_laws.proofs.returns.dues_law.Goals as goal

pub returns-clause-runs : goal.returns-clause-runs
returns-clause-runs c = λ s t units start is n x after early l. runs_again s.tasks t units start (recurs_by s t units start is) n x after early l

pub returns-clause-events : goal.returns-clause-events
returns-clause-events c = λ s t units start is n after early. event_again s.tasks t units start (recurs_by s t units start is) n after early

pub returns-clause-left : goal.returns-clause-left
returns-clause-left c = λ s t units start is n x after early i other. left_again s t units start (recurs_by s t units start is) n x after early i other

pub returns-clause-schedule : goal.returns-clause-schedule
returns-clause-schedule c = λ s t units start is from to after up early on there same rows goes.
    schedule_goes_on s t units start (recurs_by s t units start is) from to after up early on there same rows goes
