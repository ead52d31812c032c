use Rattle.std.proofs.Common.{◌≡◌, ◌∙◌, ℕ, List, None, Some, true, false, ◌||◌, inl, inr, refl, ap, map, string_bytes, sym, rules}
use Rattle.command_words.specs.Words.{asks_to_execute, asks_for_batch, asks_for_threads, command_of}
use Rattle.command_words.specs.declared.command.Command.TheVariants.{Read, Batch}
use Rattle.exit_status.specs.declared.Status.TheVariants.{Done, Invalid, Usage}
use Rattle.pure_commands.specs.Commands.{of_batch}
use Rattle.pure_commands.specs.declared.refusal.Refusal.TheVariants as why
use Rattle.pure_commands.proofs.AnswerLemmas.{asked_answers, unread_answered}
use Rattle.pure_commands.proofs.EndLemmas.{keeps_same, unread_same, is_fault, not_fault, stopped_ends, none_answered, no_none}
use Rattle.run_tool.proofs.ExecutionAnswerLemmas.{still_answered}
use Rattle.run_tool.proofs.RunLemmas.{ends_reading, ends_batch}
use Rattle.run_tool.proofs.running.run_without_crew.Goals as goal

-- ---- a command that reads

pub run_still-requires : goal.run_still-requires
run_still-requires g c =
    let words : List (List ℕ) = map string_bytes c.args.words.now in
    let executes : asks_to_execute words ≡ false = c.requires.still in
    let batch : asks_for_batch words ≡ false = sym c.asks_for_batch.ensures ∙ c.if-not-asks_for_batch.true in
    record { still = λ i. executes i || batch i }

pub returns-then-not-asks_for_batch-clause-usage : goal.returns-then-not-asks_for_batch-clause-usage
returns-then-not-asks_for_batch-clause-usage g c = c.run_still.ensures.usage

pub returns-then-not-asks_for_batch-clause-unread : goal.returns-then-not-asks_for_batch-clause-unread
returns-then-not-asks_for_batch-clause-unread g c = c.run_still.ensures.unread

pub returns-then-not-asks_for_batch-clause-done : goal.returns-then-not-asks_for_batch-clause-done
returns-then-not-asks_for_batch-clause-done g c = λ is. let (r, asked, done) = c.run_still.ensures.done is in (Read r, asked, λ before. done)

pub returns-then-not-asks_for_batch-clause-invalid : goal.returns-then-not-asks_for_batch-clause-invalid
returns-then-not-asks_for_batch-clause-invalid g c = c.run_still.ensures.invalid

pub returns-then-not-asks_for_batch-clause-ends : goal.returns-then-not-asks_for_batch-clause-ends
returns-then-not-asks_for_batch-clause-ends g c k before now e =
    let words : List (List ℕ) = map string_bytes c.args.words.now in
    let executes : asks_to_execute words ≡ false = c.requires.still in
    let batch : asks_for_batch words ≡ false = sym c.asks_for_batch.ensures ∙ c.if-not-asks_for_batch.true in
    let asks : asks_for_threads words ≡ false = λ i. executes i || batch i in
    ends_reading words k _ _ _ _ _ _ _ asks e c.run_still.ensures.ends

pub returns-then-not-asks_for_batch-clause-answered : goal.returns-then-not-asks_for_batch-clause-answered
returns-then-not-asks_for_batch-clause-answered g c = still_answered (map string_bytes c.args.words.now) _ _ _ _ c.requires.still c.run_still.ensures.answered

-- ---- `batch`, where there was no memory to read the words

pub is_batch-requires : goal.is_batch-requires
is_batch-requires g c = record { batch = sym c.asks_for_batch.ensures ∙ c.if-not-asks_for_batch.false }

pub returns-in-Err-clause-usage : goal.returns-in-Err-clause-usage
returns-in-Err-clause-usage g c = λ wanted. absurd (wanted c.refuse.ensures.status_is)

pub returns-in-Err-clause-unread : goal.returns-in-Err-clause-unread
returns-in-Err-clause-unread g c =
    λ none. record {
      unread = unread_same _ _ refl;
      out = keeps_same _;
      out_faults = refl;
      line = inr (c.refuse.ensures.status_is, c.refuse.ensures.tells);
    }

pub returns-in-Err-clause-done : goal.returns-in-Err-clause-done
returns-in-Err-clause-done g c = λ is. absurd (not_fault Done _ refl (ap is_fault c.refuse.ensures.status_is) is)

pub returns-in-Err-clause-invalid : goal.returns-in-Err-clause-invalid
returns-in-Err-clause-invalid g c = λ is. absurd (not_fault Invalid _ refl (ap is_fault c.refuse.ensures.status_is) is)

pub returns-in-Err-clause-ends : goal.returns-in-Err-clause-ends
returns-in-Err-clause-ends g c k before now e =
    let words : List (List ℕ) = map string_bytes c.args.words.now in
    let batch : asks_for_batch words ≡ true = sym c.asks_for_batch.ensures ∙ c.if-not-asks_for_batch.false in
    ends_batch words k _ _ _ _ _ _ _ batch e (λ is. stopped_ends of_batch _ _ _ _ why.NoMemory _ (keeps_same _) c.refuse.ensures)

pub returns-in-Err-clause-answered : goal.returns-in-Err-clause-answered
returns-in-Err-clause-answered g c =
    let words : List (List ℕ) = map string_bytes c.args.words.now in
    still_answered words _ _ _ _ c.requires.still (unread_answered (command_of words) _ _ _ _ _ _ c.refuse.ensures)

-- ---- where the words are no command line

pub returns-in-Ok-false-clause-usage : goal.returns-in-Ok-false-clause-usage
returns-in-Ok-false-clause-usage g c =
    let none : command_of (map string_bytes c.args.words.now) ≡ None = search rules in
    λ wanted. (λ is. none, λ is. c.refuse-in-Ok-false.ensures.status_is)

pub returns-in-Ok-false-clause-unread : goal.returns-in-Ok-false-clause-unread
returns-in-Ok-false-clause-unread g c =
    λ none. record {
      unread = unread_same _ _ refl;
      out = keeps_same _;
      out_faults = refl;
      line = inl (c.refuse-in-Ok-false.ensures.status_is, c.refuse-in-Ok-false.ensures.tells);
    }

pub returns-in-Ok-false-clause-done : goal.returns-in-Ok-false-clause-done
returns-in-Ok-false-clause-done g c = λ is. absurd (let bad : Usage ≡ Done = sym c.refuse-in-Ok-false.ensures.status_is ∙ is in cc)

pub returns-in-Ok-false-clause-invalid : goal.returns-in-Ok-false-clause-invalid
returns-in-Ok-false-clause-invalid g c = λ is. absurd (let bad : Usage ≡ Invalid = sym c.refuse-in-Ok-false.ensures.status_is ∙ is in cc)

pub returns-in-Ok-false-clause-ends : goal.returns-in-Ok-false-clause-ends
returns-in-Ok-false-clause-ends g c k before now e =
    let none : command_of (map string_bytes c.args.words.now) ≡ None = search rules in
    absurd (no_none _ k e none)

pub returns-in-Ok-false-clause-answered : goal.returns-in-Ok-false-clause-answered
returns-in-Ok-false-clause-answered g c =
    let words : List (List ℕ) = map string_bytes c.args.words.now in
    let none : command_of words ≡ None = search rules in
    still_answered words _ _ _ _ c.requires.still (none_answered _ _ _ _ _ none)

-- ---- where they are that of `batch`

pub returns-in-Ok-true-clause-usage : goal.returns-in-Ok-true-clause-usage
returns-in-Ok-true-clause-usage g c =
    let asked : command_of (map string_bytes c.args.words.now) ≡ Some Batch = search rules in
    λ wanted. (λ is. absurd (c.run_batch.ensures.usage is), λ none. absurd (no_none _ Batch asked none))

pub returns-in-Ok-true-clause-unread : goal.returns-in-Ok-true-clause-unread
returns-in-Ok-true-clause-unread g c =
    let asked : command_of (map string_bytes c.args.words.now) ≡ Some Batch = search rules in
    λ none. absurd (no_none _ Batch asked none)

pub returns-in-Ok-true-clause-done : goal.returns-in-Ok-true-clause-done
returns-in-Ok-true-clause-done g c =
    let asked : command_of (map string_bytes c.args.words.now) ≡ Some Batch = search rules in
    λ is. (Batch, asked, λ before. c.run_batch.ensures.done is)

pub returns-in-Ok-true-clause-invalid : goal.returns-in-Ok-true-clause-invalid
returns-in-Ok-true-clause-invalid g c = λ is. absurd (c.run_batch.ensures.valid is)

pub returns-in-Ok-true-clause-ends : goal.returns-in-Ok-true-clause-ends
returns-in-Ok-true-clause-ends g c k before now e =
    let words : List (List ℕ) = map string_bytes c.args.words.now in
    let batch : asks_for_batch words ≡ true = sym c.asks_for_batch.ensures ∙ c.if-not-asks_for_batch.false in
    ends_batch words k _ _ _ _ _ _ _ batch e (λ is. c.run_batch.ensures.ends)

pub returns-in-Ok-true-clause-answered : goal.returns-in-Ok-true-clause-answered
returns-in-Ok-true-clause-answered g c =
    let words : List (List ℕ) = map string_bytes c.args.words.now in
    let asked : command_of words ≡ Some Batch = search rules in
    still_answered words _ _ _ _ c.requires.still (asked_answers (command_of words) Batch _ _ _ _ (sym asked) c.run_batch.ensures.answered)
