use Rattle.std.proofs.Common.{◌≡◌, refl}
use Rattle.command_words.specs.declared.command.Command.TheVariants.{Batch}
use Rattle.exit_status.specs.declared.Status.TheVariants.{Done, Invalid, Usage}
use Rattle.pure_commands.specs.Commands.{of_batch}
use Rattle.pure_commands.proofs.AnswerLemmas.{asked_answers, done_answers, stops_answers}
use Rattle.pure_commands.proofs.EndLemmas.{quiet_same, not_fault, stopped_fault, stopped_ends}
use Rattle.pure_commands.proofs.batch.run_batch.Goals as goal

-- ---- where all was told

pub returns-in-Ok-clause-done : goal.returns-in-Ok-clause-done
returns-in-Ok-clause-done g c = λ is. c.in-Ok.ensures.done

pub returns-in-Ok-clause-usage : goal.returns-in-Ok-clause-usage
returns-in-Ok-clause-usage g c = λ is. absurd (let bad : Done ≡ Usage = is in cc)

pub returns-in-Ok-clause-valid : goal.returns-in-Ok-clause-valid
returns-in-Ok-clause-valid g c = λ is. absurd (let bad : Done ≡ Invalid = is in cc)

pub returns-in-Ok-clause-ends : goal.returns-in-Ok-clause-ends
returns-in-Ok-clause-ends g c = (c.in-Ok.ensures.done, quiet_same _)

pub returns-in-Ok-clause-answered : goal.returns-in-Ok-clause-answered
returns-in-Ok-clause-answered g c = asked_answers _ Batch _ _ _ Done refl (done_answers of_batch Done _ _ c.in-Ok.ensures.done)

-- ---- where it stopped

pub returns-in-Err-clause-done : goal.returns-in-Err-clause-done
returns-in-Err-clause-done g c =
    let fault = stopped_fault of_batch _ _ _ _ c.in-Err.refusal _ c.in-Err.ensures.stops c.refuse.ensures in
    λ is. absurd (not_fault Done _ refl fault is)

pub returns-in-Err-clause-usage : goal.returns-in-Err-clause-usage
returns-in-Err-clause-usage g c =
    let fault = stopped_fault of_batch _ _ _ _ c.in-Err.refusal _ c.in-Err.ensures.stops c.refuse.ensures in
    λ is. not_fault Usage _ refl fault is

pub returns-in-Err-clause-valid : goal.returns-in-Err-clause-valid
returns-in-Err-clause-valid g c =
    let fault = stopped_fault of_batch _ _ _ _ c.in-Err.refusal _ c.in-Err.ensures.stops c.refuse.ensures in
    λ is. not_fault Invalid _ refl fault is

pub returns-in-Err-clause-ends : goal.returns-in-Err-clause-ends
returns-in-Err-clause-ends g c = stopped_ends of_batch _ _ _ _ c.in-Err.refusal _ c.in-Err.ensures.stops c.refuse.ensures

pub returns-in-Err-clause-answered : goal.returns-in-Err-clause-answered
returns-in-Err-clause-answered g c =
    asked_answers _ Batch _ _ _ _ refl (stops_answers of_batch _ _ _ _ c.in-Err.refusal _ c.in-Err.ensures.stops c.refuse.ensures)
