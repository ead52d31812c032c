-- How a call of the program ends, by how the call ended that was made for it.
use Rattle.std.proofs.Common.{◌≡◌, ◌≢◌, ◌↔◌, ◌∙◌, ℕ, true, false, List, [], Option, Some, None, sym}
use Rattle.std.specs.Io.KnownBytes.{Keeps}
use Rattle.command_words.specs.Words.{command_of, asks_to_execute}
use Rattle.command_words.specs.declared.command.Command.{Command}
use Rattle.command_words.specs.declared.command.Command.TheVariants.{Read}
use Rattle.command_words.specs.declared.command.Reading.TheVariants.{Check}
use Rattle.exec_lanes.proofs.ErrorLemmas.{untrue}
use Rattle.pure_commands.specs.Commands.{of_trace}
use Rattle.pure_commands.specs.Ends.{Streams, ErrorStream, IsDone, IsUnread, IsUsage}
use Rattle.pure_commands.specs.Refuse.{IsRefused}
use Rattle.pure_commands.specs.declared.refusal.Refusal.TheVariants as why
use Rattle.exit_status.specs.declared.Status.{Status}
use Rattle.exit_status.specs.declared.Status.TheVariants.{Done, Invalid, Usage, NoMemory, GateFault}
use Rattle.run_tool.specs.Alone.{RunPrograms, AreSure, EndsAlone}
use Rattle.run_tool.specs.Ends.{IsCommandDone}
use Rattle.run_tool.specs.Executed.{EndsWith}
use Rattle.run_tool.specs.Executions.{GateSeen, JobSeen, Crew, IsFreshCrew}
use Rattle.run_tool.proofs.CrewMade.{crew}
use Rattle.run_tool.proofs.GateLemmas.{no_gate_failed}
use Rattle.run_tool.proofs.AskedLemmas.{words_unread}

-- where there are no gates and no jobs, none failed
no_programs : RunPrograms (crew [] [])
no_programs i j at = absurd (let bad : ◌≡◌ {A = Option (Option JobSeen)} None (Some (Some j)) = at in cc)

none_sure : AreSure (crew [] [])
none_sure q g at = absurd (let bad : ◌≡◌ {A = Option (Option GateSeen)} None (Some (Some g)) = at in cc)

module _ (words : List (List ℕ)) (old new : Streams) (err err' : ErrorStream) (status : Status) where
  -- the clauses of the top call but the last
  module _ (usage : status ≢ NoMemory → ((status ≡ Usage) ↔ (command_of words ≡ None)))
      (invalid : status ≡ Invalid → (command_of words ≡ Some (Read Check)) × IsDone of_trace Invalid old new) where
    -- gates and jobs were made, and the top call made with them
    pub alone_run : (before now : Crew) → IsFreshCrew before → RunPrograms before → AreSure now
        → (status ≡ Done → (c : Command) × (command_of words ≡ Some c) × IsCommandDone c Done old new before)
        → ((c : Command) → command_of words ≡ Some c → EndsWith c old new err err' before now status) → EndsAlone words old new err err' status
    alone_run before now fresh programs sure done ends = record {
      usage = usage;
      done = λ is.
          let (c, asked, told) = done is in
          record { command = c; asked = asked; before = before; fresh = λ asks. fresh; programs = programs; done = told };
      invalid = invalid;
      ends = λ c is. record { before = before; now = now; fresh = λ asks made. fresh; programs = programs; sure = sure; ends = ends c is };
      sure = no_gate_failed words before now old new err err' status sure usage ends;
    }

    -- nothing was to be executed
    pub alone_still : asks_to_execute words ≡ false
        → (status ≡ Done → (c : Command) × (command_of words ≡ Some c) × ((before : Crew) → IsCommandDone c Done old new before))
        → ((c : Command) (before now : Crew) → command_of words ≡ Some c → EndsWith c old new err err' before now status)
        → EndsAlone words old new err err' status
    alone_still still done ends = record {
      usage = usage;
      done = λ is.
          let (c, asked, told) = done is in
          record {
            command = c;
            asked = asked;
            before = crew [] [];
            fresh = λ asks. untrue (sym still ∙ asks);
            programs = no_programs;
            done = told (crew [] []);
          };
      invalid = invalid;
      ends = λ c is. record {
        before = crew [] [];
        now = crew [] [];
        fresh = λ asks made. untrue (sym still ∙ asks);
        programs = no_programs;
        sure = none_sure;
        ends = ends c (crew [] []) (crew [] []) is;
      };
      sure = no_gate_failed words (crew [] []) (crew [] []) old new err err' status none_sure usage (λ c is. ends c (crew [] []) (crew [] []) is);
    }

  -- there was no memory for the gates and the jobs
  module _ (asks : asks_to_execute words ≡ true) (unread : IsUnread old new) (keeps : Keeps old.out new.out)
      (faults : new.out_faults ≡ old.out_faults) (refused : IsRefused why.NoMemory err err' status) where
    pub alone_unmade : EndsAlone words old new err err' status
    alone_unmade =
        let none : Crew = crew [] [] in
        let asked = words_unread words old new err err' (Unit {0}) none status asks unread keeps faults tt refused in
        record {
          usage = asked.usage;
          done = λ is. absurd (let bad : NoMemory ≡ Done = sym refused.status_is ∙ is in cc);
          invalid = λ is. absurd (asked.valid is);
          ends = λ c is. record {
            before = none;
            now = none;
            fresh = λ asks made. absurd (made refused.status_is);
            programs = no_programs;
            sure = none_sure;
            ends = asked.ends c is;
          };
          sure = λ is. absurd (let bad : NoMemory ≡ GateFault = sym refused.status_is ∙ is in cc);
        }

    pub unread_unmade : command_of words ≡ None → IsUsage old new err err' status
    unread_unmade = (words_unread words old new err err' (Unit {0}) (crew [] []) status asks unread keeps faults tt refused).unread
