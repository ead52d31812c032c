-- How a call whose words ask for an execution ends, in each of its ways.
use Rattle.std.proofs.Common.{◌≡◌, ◌∙◌, ℕ, true, false, List, Some, None, inl, inr, refl, ap, sym}
use Rattle.std.specs.Io.KnownBytes.{Keeps}
use Rattle.command_words.specs.Words.{command_of, asks_to_execute}
use Rattle.command_words.specs.declared.command.Command.TheVariants.{Execute}
use Rattle.command_words.specs.declared.command.Execution.{Execution}
use Rattle.command_words.proofs.WordLemmas.{some_is}
use Rattle.exec_lanes.proofs.ErrorLemmas.{untrue}
use Rattle.pure_commands.specs.Ends.{Streams, ErrorStream, IsUnread, IsQuiet}
use Rattle.pure_commands.specs.Refusals.{status_of}
use Rattle.pure_commands.specs.Refuse.{IsRefused}
use Rattle.pure_commands.specs.declared.refusal.Refusal.{Refusal}
use Rattle.pure_commands.specs.declared.refusal.Refusal.TheVariants as why
use Rattle.exit_status.specs.declared.Status.{Status}
use Rattle.exit_status.specs.declared.Status.TheVariants.{Done, Invalid, Usage}
use Rattle.pure_commands.proofs.EndLemmas.{is_fault, not_fault, no_none}
use Rattle.run_tool.specs.ExecutionWords.{EndsAsked}
use Rattle.run_tool.specs.Executed.{ToldRun, StopsRun, may_have_run}
use Rattle.run_tool.specs.Executions.{Crew, AreBack}
use Rattle.run_tool.proofs.ExecutionAnswerLemmas.{done_answered, stops_answered, wanting_answered, none_asked}
use Rattle.run_tool.proofs.RunLemmas.{back_same, stopped_fault, done_is, stop_is, none_failed, ends_unread, ends_done, ends_stopped, uncalled_by}

module _ (words : List (List ℕ)) (old new : Streams) (err err' : ErrorStream) (Uncalled : Type 0) where
  -- there was no memory to read the words
  pub words_unread : (b : Crew) (status : Status) → asks_to_execute words ≡ true → IsUnread old new → Keeps old.out new.out
      → new.out_faults ≡ old.out_faults → Uncalled → IsRefused why.NoMemory err err' status → EndsAsked words old new err err' b b Uncalled status
  words_unread b status asks unread keeps faults uncalled refused = record {
    usage = λ wanted. absurd (wanted refused.status_is);
    unread = λ none. record { unread = unread; out = keeps; out_faults = faults; line = inr (refused.status_is, refused.tells) };
    done = λ is. absurd (not_fault Done status refl (ap is_fault refused.status_is) is);
    valid = λ is. not_fault Invalid status refl (ap is_fault refused.status_is) is;
    ends = λ k is. ends_unread words k old new err err' b b status asks is unread keeps refl refused;
    uncalled = λ quiet. uncalled;
    back = back_same b;
    answered = λ quiet. wanting_answered (command_of words) old.left old new err err' status refused;
  }

  -- the words are no command line
  pub no_execution : (b : Crew) (status : Status) → command_of words ≡ None → IsUnread old new → Keeps old.out new.out
      → new.out_faults ≡ old.out_faults → Uncalled → IsRefused why.Usage err err' status → EndsAsked words old new err err' b b Uncalled status
  no_execution b status none unread keeps faults uncalled refused = record {
    usage = λ wanted. (λ is. none, λ is. refused.status_is);
    unread = λ is. record { unread = unread; out = keeps; out_faults = faults; line = inl (refused.status_is, refused.tells) };
    done = λ is. absurd (let bad : Usage ≡ Done = sym refused.status_is ∙ is in cc);
    valid = λ is. let bad : Usage ≡ Invalid = sym refused.status_is ∙ is in cc;
    ends = λ k is. absurd (no_none (command_of words) k is none);
    uncalled = λ quiet. uncalled;
    back = back_same b;
    answered = λ quiet. none_asked (command_of words) old.left old new status none;
  }

  -- an execution was done
  pub execution_done : (b n : Crew) (e : Execution) → Some (Execute e) ≡ command_of words → ToldRun e old new b n → IsQuiet err err' → AreBack b n
      → EndsAsked words old new err err' b n Uncalled Done
  execution_done b n e asked ran quiet back =
      record {
        usage = λ wanted. (λ is. absurd (let bad : Done ≡ Usage = is in cc), λ none. absurd (no_none (command_of words) (Execute e) (sym asked) none));
        unread = λ none. absurd (no_none (command_of words) (Execute e) (sym asked) none);
        done = λ is. (Execute e, sym asked, (refl, (n, ran)));
        valid = λ is. let bad : Done ≡ Invalid = is in cc;
        ends = λ k is. ends_done e k old new err err' b n (some_is _ k (asked ∙ is)) ran quiet;
        uncalled = λ called. untrue (sym called);
        back = back;
        answered = λ failed. done_answered (command_of words) e Done old new asked (done_is e old new b n ran);
      }

  -- an execution stopped
  pub execution_stopped : (b n : Crew) (status : Status) (e : Execution) (r : Refusal) → Some (Execute e) ≡ command_of words → StopsRun e old new b n r
      → IsRefused r err err' status → (may_have_run (Some (Execute e)) (status_of r) ≡ false → Uncalled) → AreBack b n
      → EndsAsked words old new err err' b n Uncalled status
  execution_stopped b n status e r asked stops refused uncalled back =
      let fault = ap is_fault refused.status_is ∙ stopped_fault e old new b n r stops in
      record {
        usage = λ wanted.
            (λ is. absurd (not_fault Usage status refl fault is), λ none. absurd (no_none (command_of words) (Execute e) (sym asked) none));
        unread = λ none. absurd (no_none (command_of words) (Execute e) (sym asked) none);
        done = λ is. absurd (not_fault Done status refl fault is);
        valid = λ is. not_fault Invalid status refl fault is;
        ends = λ k is. ends_stopped e k old new err err' b n r status (some_is _ k (asked ∙ is)) stops refused;
        uncalled = uncalled_by (command_of words) e r err err' status asked refused uncalled;
        back = back;
        answered = λ failed.
            let none = none_failed (command_of words) e b n asked failed in
            stops_answered (command_of words) e old new err err' r status asked (stop_is e old new b n r none stops) refused;
      }
