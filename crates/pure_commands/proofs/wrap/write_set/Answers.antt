use Rattle.std.proofs.Common.{ℕ, List, Option, ◌*◌, ◌≤◌, subst}
use Rattle.std.proofs.lemmas.Result.{IfOk-from_err, err_from_is_err_and}
use Rattle.sched_base.specs.Sets.{SetContents}
use Rattle.sched_base.specs.Tables.{row_limit}
use Rattle.wrap_sched.specs.Faults.{IsWrapFault}
use Rattle.wrap_sched.specs.declared.counts.WrapFault.{WrapFault}
use Rattle.wrap_sched.specs.declared.counts.WrapFault.TheVariants as wrap
use Rattle.pure_commands.specs.Commands.{wrapped_rows}
use Rattle.pure_commands.specs.Faults.{of_wrap}
use Rattle.pure_commands.specs.Input.{IsSchedulable, StopsAtSet}
use Rattle.pure_commands.proofs.EndLemmas.{keeps_same}
use Rattle.pure_commands.proofs.SetLemmas.{refused_stops}
use Rattle.pure_commands.proofs.wrap.write_set.Goals as goal

-- a set whose wrapped schedule isn't counted
uncounted : (s : SetContents) (scale : ℕ) (out : Option (List ℕ)) (faults : ℕ) (e : WrapFault) → IsSchedulable s scale → IsWrapFault scale s e
    → StopsAtSet wrapped_rows out out faults faults s (of_wrap e)
uncounted s scale out faults (wrap.TooLong rows) run is = ((scale, run, is), keeps_same out)
uncounted s scale out faults wrap.NoMemory run is = (tt, keeps_same out)

pub returns-in_err-scale-clause-done : goal.returns-in_err-scale-clause-done
returns-in_err-scale-clause-done g c = IfOk-from_err _ _ c.from_residual.ensures.0

pub returns-in_err-scale-clause-stops : goal.returns-in_err-scale-clause-stops
returns-in_err-scale-clause-stops g c =
    let why = err_from_is_err_and c.from_residual.result c.from_residual.ensures.1 in
    rw (why.1, why.2) (refused_stops wrapped_rows c.args.set.now _ _ _ c.in_err-scale.ensures.refused)

pub wrap_rounds-requires-clause-scale : goal.wrap_rounds-requires-clause-scale
wrap_rounds-requires-clause-scale g c = c.in_ok-scale.ensures.run.is_scale

pub wrap_rounds-requires-clause-scale_fits : goal.wrap_rounds-requires-clause-scale_fits
wrap_rounds-requires-clause-scale_fits g c = c.in_ok-scale.ensures.run.within

pub wrap_rounds-requires-clause-fits : goal.wrap_rounds-requires-clause-fits
wrap_rounds-requires-clause-fits g c = c.in_ok-scale.ensures.run.fits

pub returns-in_err-_rounds-clause-done : goal.returns-in_err-_rounds-clause-done
returns-in_err-_rounds-clause-done g c = IfOk-from_err _ _ c.from_residual-in_err-_rounds.ensures.0

pub returns-in_err-_rounds-clause-stops : goal.returns-in_err-_rounds-clause-stops
returns-in_err-_rounds-clause-stops g c =
    let why = err_from_is_err_and c.from_residual-in_err-_rounds.result c.from_residual-in_err-_rounds.ensures.1 in
    rw (why.1, why.2) (uncounted c.args.set.now c.in_ok-scale.scale _ _ _ c.in_ok-scale.ensures.run c.in_err-_rounds.ensures.fault)

pub write_wrapped-requires-clause-run : goal.write_wrapped-requires-clause-run
write_wrapped-requires-clause-run g c = c.in_ok-scale.ensures.run

pub write_wrapped-requires-clause-few : goal.write_wrapped-requires-clause-few
write_wrapped-requires-clause-few g c =
    let count = c.in_ok-_rounds.ensures.count in
    subst (λ (n : ℕ). n * c.args.set.now.processors ≤ row_limit) count.0 count.1
