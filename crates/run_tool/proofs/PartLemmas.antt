-- How a part of an execution ends, at each of its ways out.
use Rattle.std.proofs.Common.{◌≡◌, ◌∙◌, ℕ, Bool, true, false, List, Option, Some, Result, Ok, Err, refl, sym, subst}
use Rattle.std.specs.Result.{IsErrAnd}
use Rattle.std.specs.Prelude.{MatchResult, OnOk, OnErr, IfErr}
use Rattle.std.proofs.lemmas.Result.{IfErr-weaker}
use Rattle.command_words.specs.declared.command.Command.TheVariants.{Execute}
use Rattle.command_words.specs.declared.command.Execution.{Execution}
use Rattle.command_words.specs.declared.command.Execution.TheVariants.{Drill}
use Rattle.exec_lanes.proofs.ErrorLemmas.{untrue}
use Rattle.pure_commands.specs.Ends.{Streams, IsUnread}
use Rattle.pure_commands.specs.Refusals.{status_of}
use Rattle.pure_commands.specs.declared.refusal.Refusal.{Refusal}
use Rattle.pure_commands.specs.declared.refusal.Refusal.TheVariants as why
use Rattle.exit_status.specs.declared.Status.{Status}
use Rattle.exit_status.specs.declared.Status.TheVariants.{WriteFault}
use Rattle.run_tool.specs.Executed.{ToldRun, StopsRun, RanDrill, StopsAtDrill, EndsPart, EndsExecution, may_have_called, takes_memory_late, may_have_run}
use Rattle.run_tool.specs.Executions.{Crew, AreBack}
use Rattle.run_tool.proofs.RunLemmas.{back_same, drill_ran, drill_done_as, drill_stopped_as, uncalled_early}
use Rattle.pure_commands.proofs.WrittenLemmas.{on_written, if_unwritten}

-- it stopped for the reason of a part below
pub stops_with : {T : Type 0} (result : Result T Refusal) (refusal : Refusal) {Told : Type 0} {Stops : Refusal → Type 0} {called : Status → Bool} {b n : Crew}
    {Uncalled : Type 0} → IsErrAnd result (λ e. e ≡ refusal) → Stops refusal → (called (status_of refusal) ≡ false → Uncalled) → AreBack b n
    → EndsPart Told Stops called b n Uncalled result
stops_with (Ok v) refusal is stops uncalled back = absurd is
stops_with (Err e) refusal {Stops = Stops} {called = called} {Uncalled = Uncalled} is stops uncalled back = record {
  told = tt;
  stops = subst Stops (sym is) stops;
  uncalled = subst (λ (r : Refusal). called (status_of r) ≡ false → Uncalled) (sym is) uncalled;
  back = back;
}

-- so it did before any gate and any job was called
pub stops_first : {T K J : Type 0} (result : Result T Refusal) (refusal : Refusal) {Told : Type 0} {Stops : Refusal → Type 0} {called : Status → Bool}
    {c : Crew}
    {kits : K} {jobs : J} → IsErrAnd result (λ e. e ≡ refusal) → Stops refusal → EndsPart Told Stops called c c ((kits ≡ kits) × (jobs ≡ jobs)) result
stops_first result refusal {c = c} is stops = stops_with result refusal is stops (λ _. (refl, refl)) (back_same c)

-- it ended as the part below that it called last
pub ends_above : {T : Type 0} (result : Result T Refusal) {Told Told' : Type 0} {Stops Stops' : Refusal → Type 0} {called : Status → Bool} {b n : Crew}
    {Uncalled : Type 0} → EndsPart Told Stops called b n Uncalled result → (Told → Told') → ((r : Refusal) → Stops r → Stops' r)
    → EndsPart Told' Stops' called b n Uncalled result
ends_above (Ok v) ends told stops = record { told = told ends.told; stops = tt; uncalled = tt; back = ends.back }
ends_above (Err r) ends told stops = record { told = tt; stops = stops r ends.stops; uncalled = ends.uncalled; back = ends.back }

-- its text was written last, or not all of it
pub ends_written : {T E : Type 0} (wrote : Result T E) (result : Result T Refusal) {Told : Type 0} {Stops : Refusal → Type 0} {called : Status → Bool}
    {b n : Crew} {Uncalled : Type 0} (Took Part Fault : Type 0) → MatchResult wrote (λ v. result ≡ Ok v) (λ _. result ≡ Err why.WriteFault)
    → OnOk wrote Took → OnErr wrote Part → OnErr wrote Fault → called WriteFault ≡ true → (Took → Told) → (Part → Fault → Stops why.WriteFault)
    → AreBack b n → EndsPart Told Stops called b n Uncalled result
ends_written wrote result Took Part Fault is took part fault late told stops back = record {
  told = on_written wrote result is Took _ took told;
  stops = if_unwritten wrote result is Part Fault _ part fault stops;
  uncalled = if_unwritten wrote result is Part Fault _ part fault (λ _ _ quiet. untrue (sym (sym late ∙ quiet)));
  back = back;
}

-- ---- a drill

-- one that stopped may have run, whatever its status
pub ends_drilled : {T : Type 0} (result : Result T Refusal) (number : ℕ) (out out' : Option (List ℕ)) (faults faults' : ℕ) (b n : Crew) (Uncalled : Type 0)
    → OnOk result (RanDrill number out out' b n) → IfErr result (StopsAtDrill number out out' faults faults' b n) → AreBack b n
    → EndsPart (RanDrill number out out' b n) (StopsAtDrill number out out' faults faults' b n) (may_have_run (Some (Execute (Drill number)))) b n Uncalled
    result
ends_drilled result number out out' faults faults' b n Uncalled told stops back = record {
  told = told;
  stops = stops;
  uncalled = IfErr-weaker result _ _ (λ r stopped quiet. untrue (sym (sym (drill_ran number out out' faults faults' b n r stopped) ∙ quiet))) stops;
  back = back;
}

-- ---- an execution that is known

module _ {T : Type 0} (result : Result T Refusal) (e k : Execution) (is : e ≡ k) (old new : Streams) (b n : Crew) (Uncalled : Type 0) where
  pub ends_as : EndsExecution k old new b n Uncalled result → EndsExecution e old new b n Uncalled result
  ends_as ends = subst (λ (x : Execution). EndsExecution x old new b n Uncalled result) (sym is) ends

  -- it takes all its memory first
  pub ends_early : takes_memory_late (Some (Execute k)) ≡ false
      → EndsPart (ToldRun k old new b n) (StopsRun k old new b n) may_have_called b n Uncalled result → EndsExecution e old new b n Uncalled result
  ends_early early ends =
      ends_as (record { told = ends.told; stops = ends.stops; uncalled = uncalled_early Uncalled result k early ends.uncalled; back = ends.back })

pub ends_drill : {T : Type 0} (result : Result T Refusal) (e : Execution) (number : ℕ) (is : e ≡ Drill number) (old new : Streams) (b n : Crew)
    (Uncalled : Type 0) → IsUnread old new
    → EndsPart (RanDrill number old.out new.out b n) (StopsAtDrill number old.out new.out old.out_faults new.out_faults b n)
    (may_have_run (Some (Execute (Drill number)))) b n Uncalled result → EndsExecution e old new b n Uncalled result
ends_drill result e number is old new b n Uncalled unread ends = ends_as result e (Drill number) is old new b n Uncalled (record {
  told = drill_done_as result number old new b n unread ends.told;
  stops = drill_stopped_as result number old new b n unread ends.stops;
  uncalled = ends.uncalled;
  back = ends.back;
})
