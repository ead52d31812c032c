use Rattle.std.proofs.Common.{length}
use Rattle.exec_lanes.specs.Ends.{NoGateBefore, NoJobBefore}
use Rattle.exec_lanes.proofs.EndLemmas.{if_none}
use Rattle.exec_lanes.proofs.ends.first_fault.Goals as goal

pub first_gate-requires : goal.first_gate-requires
first_gate-requires g c = c.requires

pub first_job-requires-clause-few : goal.first_job-requires-clause-few
first_job-requires-clause-few g c = c.requires

pub first_job-requires-clause-no_gate : goal.first_job-requires-clause-no_gate
first_job-requires-clause-no_gate g c = c.in-None.ensures.none

pub returns-in-Some-clause-some : goal.returns-in-Some-clause-some
returns-in-Some-clause-some g c = c.in-Some.ensures.some

pub returns-in-None-clause-some : goal.returns-in-None-clause-some
returns-in-None-clause-some g c = c.first_job.ensures.some

pub returns-in-None-clause-none : goal.returns-in-None-clause-none
returns-in-None-clause-none g c =
    if_none {B = NoGateBefore c.args.lanes.now (length c.args.lanes.now) × NoJobBefore c.args.lanes.now (length c.args.lanes.now)} c.first_job.result
    (λ no_job. (c.in-None.ensures.none, no_job)) c.first_job.ensures.none
