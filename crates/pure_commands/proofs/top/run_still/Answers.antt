use Rattle.std.proofs.Common.{◌≡◌, ◌∙◌, inl, inr, Some, None, refl, sym, ap, map, string_bytes, rules}
use Rattle.command_words.specs.Words.{command_of}
use Rattle.command_words.specs.declared.command.Command.TheVariants.{Read}
use Rattle.pure_commands.specs.declared.refusal.Refusal.TheVariants as why
use Rattle.exit_status.specs.declared.Status.TheVariants.{Done, Invalid, Usage}
use Rattle.pure_commands.specs.Commands.{output_of}
use Rattle.pure_commands.proofs.AnswerLemmas.{asked_answers, unread_answered}
use Rattle.pure_commands.proofs.EndLemmas.{keeps_same, unread_same, is_fault, not_fault, stopped_ends, none_answered, no_none, asked_ends, invalid_told}
use Rattle.pure_commands.proofs.top.run_still.Goals as goal

pub returns-in-Ok-Some-clause-done : goal.returns-in-Ok-Some-clause-done
returns-in-Ok-Some-clause-done g c =
    let asked : Some (Read c.in-Ok-Some.reading) ≡ command_of (map string_bytes c.args.words.now) = search rules in
    λ is. (c.in-Ok-Some.reading, sym asked, c.run_reading.ensures.done is)

pub returns-in-Err-clause-answered : goal.returns-in-Err-clause-answered
returns-in-Err-clause-answered g c = unread_answered (command_of (map string_bytes c.args.words.now)) _ _ _ _ _ _ c.refuse.ensures

pub returns-in-Ok-Some-clause-answered : goal.returns-in-Ok-Some-clause-answered
returns-in-Ok-Some-clause-answered g c =
    let asked : Some (Read c.in-Ok-Some.reading) ≡ command_of (map string_bytes c.args.words.now) = search rules in
    asked_answers (command_of (map string_bytes c.args.words.now)) (Read c.in-Ok-Some.reading) _ _ _ c.run_reading.result asked c.run_reading.ensures.answered

pub returns-in-Err-clause-usage : goal.returns-in-Err-clause-usage
returns-in-Err-clause-usage g c =
    λ wanted. absurd (wanted c.refuse.ensures.status_is)

pub returns-in-Err-clause-unread : goal.returns-in-Err-clause-unread
returns-in-Err-clause-unread g c =
    λ none. record {
      unread = unread_same _ _ refl;
      out = keeps_same _;
      out_faults = refl;
      line = inr (c.refuse.ensures.status_is, c.refuse.ensures.tells);
    }

pub returns-in-Err-clause-done : goal.returns-in-Err-clause-done
returns-in-Err-clause-done g c =
    λ is. absurd (not_fault Done _ refl (ap is_fault c.refuse.ensures.status_is) is)

pub returns-in-Err-clause-invalid : goal.returns-in-Err-clause-invalid
returns-in-Err-clause-invalid g c =
    λ is. absurd (not_fault Invalid _ refl (ap is_fault c.refuse.ensures.status_is) is)

pub returns-in-Err-clause-ends : goal.returns-in-Err-clause-ends
returns-in-Err-clause-ends g c =
    λ r is. stopped_ends (output_of r) _ _ _ _ why.NoMemory _ (keeps_same _) c.refuse.ensures

pub returns-in-Ok-None-clause-usage : goal.returns-in-Ok-None-clause-usage
returns-in-Ok-None-clause-usage g c =
    let none : command_of (map string_bytes c.args.words.now) ≡ None = search rules in
    λ wanted. (λ is. none, λ is. c.refuse-in-Ok-None.ensures.status_is)

pub returns-in-Ok-None-clause-unread : goal.returns-in-Ok-None-clause-unread
returns-in-Ok-None-clause-unread g c =
    λ none. record {
      unread = unread_same _ _ refl;
      out = keeps_same _;
      out_faults = refl;
      line = inl (c.refuse-in-Ok-None.ensures.status_is, c.refuse-in-Ok-None.ensures.tells);
    }

pub returns-in-Ok-None-clause-done : goal.returns-in-Ok-None-clause-done
returns-in-Ok-None-clause-done g c =
    λ is. absurd (let bad : Usage ≡ Done = sym c.refuse-in-Ok-None.ensures.status_is ∙ is in cc)

pub returns-in-Ok-None-clause-invalid : goal.returns-in-Ok-None-clause-invalid
returns-in-Ok-None-clause-invalid g c =
    λ is. absurd (let bad : Usage ≡ Invalid = sym c.refuse-in-Ok-None.ensures.status_is ∙ is in cc)

pub returns-in-Ok-None-clause-ends : goal.returns-in-Ok-None-clause-ends
returns-in-Ok-None-clause-ends g c =
    let none : command_of (map string_bytes c.args.words.now) ≡ None = search rules in
    λ r is. absurd (no_none _ (Read r) is none)

pub returns-in-Ok-None-clause-answered : goal.returns-in-Ok-None-clause-answered
returns-in-Ok-None-clause-answered g c =
    let none : command_of (map string_bytes c.args.words.now) ≡ None = search rules in
    none_answered _ _ _ _ _ none

pub returns-in-Ok-Some-clause-usage : goal.returns-in-Ok-Some-clause-usage
returns-in-Ok-Some-clause-usage g c =
    let asked : Some (Read c.in-Ok-Some.reading) ≡ command_of (map string_bytes c.args.words.now) = search rules in
    λ wanted. (λ is. absurd (c.run_reading.ensures.usage is), λ none. absurd (no_none _ _ (sym asked) none))

pub returns-in-Ok-Some-clause-unread : goal.returns-in-Ok-Some-clause-unread
returns-in-Ok-Some-clause-unread g c =
    let asked : Some (Read c.in-Ok-Some.reading) ≡ command_of (map string_bytes c.args.words.now) = search rules in
    λ none. absurd (no_none _ _ (sym asked) none)

pub returns-in-Ok-Some-clause-invalid : goal.returns-in-Ok-Some-clause-invalid
returns-in-Ok-Some-clause-invalid g c =
    let asked : Some (Read c.in-Ok-Some.reading) ≡ command_of (map string_bytes c.args.words.now) = search rules in
    λ is.
    let check = c.run_reading.ensures.invalid is in
    (sym asked ∙ ap (λ r. Some (Read r)) check, invalid_told c.in-Ok-Some.reading _ _ _ _ _ is check c.run_reading.ensures.ends)

pub returns-in-Ok-Some-clause-ends : goal.returns-in-Ok-Some-clause-ends
returns-in-Ok-Some-clause-ends g c =
    let asked : Some (Read c.in-Ok-Some.reading) ≡ command_of (map string_bytes c.args.words.now) = search rules in
    λ r is. asked_ends c.in-Ok-Some.reading r _ _ _ _ _ (asked ∙ is) c.run_reading.ensures.ends
