use Rattle.std.proofs.Common.{refl}
use Rattle.pure_commands.proofs.AnswerLemmas.{done_answers, stops_answers}
use Rattle.pure_commands.specs.Commands.{output_of}
use Rattle.pure_commands.proofs.SoundLemmas.{done_soundly_as}
use Rattle.exit_status.specs.declared.Status.TheVariants.{Done, Invalid, Usage}
use Rattle.pure_commands.proofs.EndLemmas.{not_fault, stopped_fault, stopped_ends, told_ends, told_no_usage, told_invalid}
use Rattle.pure_commands.proofs.top.run_reading.Goals as goal

pub returns-in-Ok-clause-done : goal.returns-in-Ok-clause-done
returns-in-Ok-clause-done g c =
    λ is.
    done_soundly_as c.sound_law.ensures c.follow_law.ensures.trees (output_of c.args.reading) _ _ _ is c.in-Ok.ensures.done

pub returns-in-Ok-clause-answered : goal.returns-in-Ok-clause-answered
returns-in-Ok-clause-answered g c = done_answers (output_of c.args.reading) _ _ _ c.in-Ok.ensures.done

pub returns-in-Err-clause-answered : goal.returns-in-Err-clause-answered
returns-in-Err-clause-answered g c = stops_answers (output_of c.args.reading) _ _ _ _ c.in-Err.refusal _ c.in-Err.ensures.stops c.refuse.ensures

pub returns-in-Ok-clause-ends : goal.returns-in-Ok-clause-ends
returns-in-Ok-clause-ends g c =
    told_ends (output_of c.args.reading) _ _ _ _ c.in-Ok.ensures.done

pub returns-in-Ok-clause-invalid : goal.returns-in-Ok-clause-invalid
returns-in-Ok-clause-invalid g c =
    λ is. told_invalid c.args.reading _ _ _ c.in-Ok.ensures.done is

pub returns-in-Ok-clause-usage : goal.returns-in-Ok-clause-usage
returns-in-Ok-clause-usage g c =
    λ is. told_no_usage (output_of c.args.reading) _ _ _ c.in-Ok.ensures.done is

pub returns-in-Err-clause-done : goal.returns-in-Err-clause-done
returns-in-Err-clause-done g c =
    let fault = stopped_fault (output_of c.args.reading) _ _ _ _ c.in-Err.refusal _ c.in-Err.ensures.stops c.refuse.ensures in
    λ is. absurd (not_fault Done _ refl fault is)

pub returns-in-Err-clause-ends : goal.returns-in-Err-clause-ends
returns-in-Err-clause-ends g c =
    stopped_ends (output_of c.args.reading) _ _ _ _ c.in-Err.refusal _ c.in-Err.ensures.stops c.refuse.ensures

pub returns-in-Err-clause-invalid : goal.returns-in-Err-clause-invalid
returns-in-Err-clause-invalid g c =
    let fault = stopped_fault (output_of c.args.reading) _ _ _ _ c.in-Err.refusal _ c.in-Err.ensures.stops c.refuse.ensures in
    λ is. absurd (not_fault Invalid _ refl fault is)

pub returns-in-Err-clause-usage : goal.returns-in-Err-clause-usage
returns-in-Err-clause-usage g c =
    let fault = stopped_fault (output_of c.args.reading) _ _ _ _ c.in-Err.refusal _ c.in-Err.ensures.stops c.refuse.ensures in
    λ is. not_fault Usage _ refl fault is
