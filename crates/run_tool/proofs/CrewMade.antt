-- What is told of gates and jobs, put together.
use Rattle.std.proofs.Common.{List, Option}
use Rattle.job_vm.specs.Seen.{JobSeen}
use Rattle.run_tool.specs.Executions.{GateSeen, Crew}

abbrev pub crew : List (Option GateSeen) → List (Option JobSeen) → Crew
crew gates jobs = record { gates = gates; jobs = jobs }
