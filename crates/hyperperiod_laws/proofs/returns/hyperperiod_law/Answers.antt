use Rattle.std.proofs.Common.{arith}
use Rattle.hyperperiod_laws.proofs.LaterEvents.{event_again}
use Rattle.hyperperiod_laws.proofs.LaterRuns.{runs_again}
use Rattle.hyperperiod_laws.proofs.RoundTrees.{few_units, recurs_on_time}
use Rattle.hyperperiod_laws.proofs.returns.hyperperiod_law.Goals as goal

pub returns-clause-runs : goal.returns-clause-runs
returns-clause-runs c = λ s t units is n x early l. runs_again s.tasks t units 0 (recurs_on_time s t units is (few_units n units t.scale early)) n x
    (omega arith) early l

pub returns-clause-events : goal.returns-clause-events
returns-clause-events c = λ s t units is n some early. event_again s.tasks t units 0 (recurs_on_time s t units is (few_units n units t.scale early)) n some
    early
