-- What the findings of a task tell of its jobs.
use Rattle.std.specs.Prelude.{ℕ, ◌≡◌, ◌<◌, ◌^◌}
use Rattle.trace_check.specs.Traces.{Trace}
use Rattle.trace_verdict.specs.declared.findings.Findings.{Findings}
use Rattle.trace_verdict.specs.Findings.{is_preemption, is_migration}
use Rattle.stat_report.specs.Report.{task_pairs, response}

-- the findings are the preemptions, migrations and response of task j, as the report counts them
pub record Tell (t : Trace) (j : ℕ) (f : Findings) : Type 0 where
  pub preemptions : f.preemptions ≡ task_pairs is_preemption t.set t.scale t.rows j
  pub migrations : f.migrations ≡ task_pairs is_migration t.set t.scale t.rows j
  pub response : f.response ≡ response t.set t.scale t.rows j
  pub few_preemptions : f.preemptions < 2 ^ 32
  pub few_migrations : f.migrations < 2 ^ 32
