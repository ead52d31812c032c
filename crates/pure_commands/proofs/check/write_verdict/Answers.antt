use Rattle.std.proofs.Common.{refl, ◌∙◌, rules}
use Rattle.std.proofs.lemmas.Result.{err_from_is_err_and}
use Rattle.stat_report.specs.Text.{report_text}
use Rattle.pure_commands.specs.Checks.{TellsTrace}
use Rattle.exit_status.specs.declared.Status.TheVariants.{Done, Invalid}
use Rattle.pure_commands.proofs.check.write_verdict.Goals as goal

pub returns-in_err-write_report-in-Valid-clause-stops : goal.returns-in_err-write_report-in-Valid-clause-stops
returns-in_err-write_report-in-Valid-clause-stops g c =
    let t = c.args.trace.now in
    let why = err_from_is_err_and c.from_residual.result c.from_residual.ensures.1 in
    rw (why.1, why.2) (
      report_text t.set t.scale t.rows,
      Done,
      (c.in-Valid.ensures.valid.0 refl, refl),
      c.in_err-write_report-in-Valid.ensures.wrote.err,
      c.in_err-write_report-in-Valid.ensures.cause.failed,
    )

pub returns-in_err-write_all-in-Fault-clause-stops : goal.returns-in_err-write_all-in-Fault-clause-stops
returns-in_err-write_all-in-Fault-clause-stops g c =
    let told : TellsTrace c.args.trace.now Invalid c.as_slice.result.now =
    (search rules, (c.in-Fault.line, c.in-Fault.kind, c.in-Fault.ensures.verdict, c.as_slice.ensures.bytes ∙ c.invalid_line.ensures)) in
    let why = err_from_is_err_and c.from_residual-in_err-write_all-in-Fault.result c.from_residual-in_err-write_all-in-Fault.ensures.1 in
    rw (why.1, why.2)
    (c.as_slice.result.now, Invalid, told, c.in_err-write_all-in-Fault.ensures.wrote.err, c.in_err-write_all-in-Fault.ensures.cause.failed)
