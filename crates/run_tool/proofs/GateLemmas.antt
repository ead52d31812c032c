-- Where the gates don't fail, no command ends with the status of a gate's fault.
use Rattle.std.proofs.Common.{◌≡◌, ◌≢◌, ◌↔◌, ◌∙◌, inl, inr, ℕ, Bool, true, false, List, Option, Some, None, refl, sym, ap, subst, arith}
use Rattle.command_words.specs.Words.{command_of}
use Rattle.command_words.specs.declared.command.Command.{Command}
use Rattle.command_words.specs.declared.command.Command.TheVariants.{Read, Batch, Execute}
use Rattle.command_words.specs.declared.command.Execution.{Execution}
use Rattle.command_words.specs.declared.command.Execution.TheVariants.{Exec, ExecMet, Drill, Jobs, Modes}
use Rattle.task_reader.specs.declared.refusals.ReadSet.{ReadSet}
use Rattle.task_reader.specs.declared.refusals.ReadSet.TheVariants as set
use Rattle.mode_join.specs.declared.faults.ModeKind.{ModeKind}
use Rattle.mode_join.specs.declared.faults.ModeKind.TheVariants as kind
use Rattle.pure_commands.specs.declared.mode_refusal.ModeRefusal.{ModeRefusal}
use Rattle.pure_commands.specs.declared.mode_refusal.ModeRefusal.TheVariants as mode
use Rattle.pure_commands.specs.declared.refusal.Refusal.{Refusal}
use Rattle.pure_commands.specs.declared.refusal.Refusal.TheVariants as why
use Rattle.exit_status.specs.declared.Status.{Status}
use Rattle.exit_status.specs.declared.Status.TheVariants.{Done, Usage, NoMemory, GateFault}
use Rattle.pure_commands.specs.Commands.{SetText, schedule_rows, Output, of_set, of_trace, of_picture, of_tree, of_batch, output_of, set_limit}
use Rattle.pure_commands.specs.Commands.{Refuses, RefusesText}
use Rattle.pure_commands.specs.Ends.{Streams, ErrorStream, StopsAs, Ends}
use Rattle.pure_commands.specs.Refusals.{status_of, set_status, mode_status}
use Rattle.run_tool.specs.Alone.{AreSure}
use Rattle.run_tool.specs.Executed.{WritesRun, RefusesRun, WritesJobsRun, RefusesJobsRun, StopsRun, EndsWith}
use Rattle.run_tool.specs.Executions.{Crew, GateRose, loaded_crew, usual_window}
use Rattle.run_tool.specs.JobPrograms.{set_bytes}
use Rattle.run_tool.specs.ModeRuns.{WritesModesRun, RefusesModesRun}

-- whether it is that of a gate's fault
abbrev is_gates : Status → Bool
is_gates GateFault = true
is_gates _ = false

abbrev mode_names_gate : ModeRefusal → Bool
mode_names_gate (mode.GateFault row name) = true
mode_names_gate _ = false

abbrev names_gate : Refusal → Bool
names_gate (why.GateFault row name) = true
names_gate (why.OfMode j m) = mode_names_gate m
names_gate _ = false

set_named : (q : ReadSet) → is_gates (set_status q) ≡ false
set_named set.NoMemory = refl
set_named _ = refl

kind_named : (k : ModeKind) → is_gates (mode_status (mode.NotJoined k)) ≡ false
kind_named (kind.Overload total room) = refl
kind_named (kind.TooLong rows) = refl
kind_named _ = refl

mode_named : (m : ModeRefusal) → is_gates (mode_status m) ≡ mode_names_gate m
mode_named (mode.BadSet q) = set_named q
mode_named (mode.NotJoined k) = kind_named k
mode_named (mode.GateFault row name) = refl
mode_named (mode.JobFault row name) = refl

named : (r : Refusal) → is_gates (status_of r) ≡ names_gate r
named (why.BadSet q) = set_named q
named (why.OfMode j m) = mode_named m
named (why.GateFault row name) = refl
named _ = refl

-- a gate that has no fault didn't fail
unrisen : (b n : Crew) (q : ℕ) → AreSure n → GateRose b n q → ⊥
unrisen b n q sure rose =
    let (g, h, before, now, more) = rose in
    let none : h.faults ≡ 0 = sure q h now in
    omega (arith, more, none)

-- nothing that is read is refused for a gate
no_text : (what : SetText) (bytes : List ℕ) (r : Refusal) → names_gate r ≡ true → RefusesText what bytes r → ⊥
no_text what bytes (why.GateFault row name) is refused = refused.2
no_text what bytes (why.OfMode j m) is refused = refused.2
no_text what bytes _ is refused = let bad : false ≡ true = is in cc

no_refusal : (o : Output) (bytes : List ℕ) (r : Refusal) → names_gate r ≡ true → Refuses o bytes r → ⊥
no_refusal (of_set what) bytes r is refused = no_text what bytes r is refused
no_refusal of_trace bytes (why.GateFault row name) is refused = refused
no_refusal of_trace bytes (why.OfMode j m) is refused = refused
no_refusal of_trace bytes _ is refused = let bad : false ≡ true = is in cc
no_refusal (of_picture asked) bytes (why.GateFault row name) is refused = refused
no_refusal (of_picture asked) bytes (why.OfMode j m) is refused = refused
no_refusal (of_picture asked) bytes _ is refused = let bad : false ≡ true = is in cc
no_refusal of_tree bytes (why.GateFault row name) is refused = refused.2
no_refusal of_tree bytes (why.OfMode j m) is refused = refused.2
no_refusal of_tree bytes _ is refused = let bad : false ≡ true = is in cc
no_refusal of_batch bytes r is refused = refused

-- what stops for no gate but by a refusal of bytes stops for none
no_stop : (limit : ℕ) (Writes : List ℕ → Status → List ℕ → Type 0) (Refuses : List ℕ → Refusal → Type 0)
    → ((bytes : List ℕ) (r : Refusal) → names_gate r ≡ true → Refuses bytes r → ⊥) → (old new : Streams) (r : Refusal) → names_gate r ≡ true
    → StopsAs limit Writes Refuses old new r → ⊥
no_stop limit Writes Refuses spares old new (why.GateFault row name) is stops = spares stops.0 (why.GateFault row name) is stops.2
no_stop limit Writes Refuses spares old new (why.OfMode j m) is stops = spares stops.0 (why.OfMode j m) is stops.2
no_stop limit Writes Refuses spares old new _ is stops = let bad : false ≡ true = is in cc

module _ (b n : Crew) (sure : AreSure n) where
  no_run : (window : ℕ) (met : Bool) (bytes : List ℕ) (r : Refusal) → names_gate r ≡ true → RefusesRun window met b n bytes r → ⊥
  no_run window met bytes (why.GateFault row name) is refused = unrisen b n row.processor sure refused.3.rose
  no_run window met bytes (why.OfMode j m) is refused = no_text (schedule_rows met) bytes (why.OfMode j m) is refused
  no_run window met bytes _ is refused = let bad : false ≡ true = is in cc

  no_jobs : (bytes : List ℕ) (r : Refusal) → names_gate r ≡ true → RefusesJobsRun b n bytes r → ⊥
  no_jobs bytes (why.GateFault row name) is refused = unrisen (loaded_crew refused.0.programs refused.2 refused.1.tasks b) n row.processor sure refused.4.0.rose
  no_jobs bytes (why.OfMode j m) is refused = no_text (schedule_rows false) (set_bytes refused.0 bytes) (why.OfMode j m) is refused.3
  no_jobs bytes _ is refused = let bad : false ≡ true = is in cc

  no_modes : (bytes : List ℕ) (r : Refusal) → names_gate r ≡ true → RefusesModesRun b n bytes r → ⊥
  no_modes bytes (why.GateFault row name) is refused = refused
  no_modes bytes (why.OfMode j (mode.GateFault row name)) is refused = unrisen b n row.processor sure refused.2.rose
  no_modes bytes _ is refused = let bad : false ≡ true = is in cc

  no_drill : (number : ℕ) (old new : Streams) (r : Refusal) → names_gate r ≡ true → StopsRun (Drill number) old new b n r → ⊥
  no_drill number old new (why.GateFault row name) is stops =
      let (unread, failed) = stops in
      let (fails, keeps) = failed in
      let (scale, is_scale, stopped) = fails in
      unrisen b n row.processor sure stopped.0.rose
  no_drill number old new (why.OfMode j m) is stops = stops.1
  no_drill number old new _ is stops = let bad : false ≡ true = is in cc

  no_execution : (e : Execution) (old new : Streams) (r : Refusal) → names_gate r ≡ true → StopsRun e old new b n r → ⊥
  no_execution (Exec window) old new r is stops =
      no_stop set_limit (WritesRun false b n) (RefusesRun window false b n) (no_run window false) old new r is stops
  no_execution ExecMet old new r is stops =
      no_stop set_limit (WritesRun true b n) (RefusesRun usual_window true b n) (no_run usual_window true) old new r is stops
  no_execution Jobs old new r is stops = no_stop set_limit (WritesJobsRun b n) (RefusesJobsRun b n) no_jobs old new r is stops.0
  no_execution Modes old new r is stops = no_stop set_limit (WritesModesRun b n) (RefusesModesRun b n) no_modes old new r is stops.0
  no_execution (Drill number) old new r is stops = no_drill number old new r is stops

  no_reading : (o : Output) (old new : Streams) (err err' : ErrorStream) → Ends o old new err err' GateFault → ⊥
  no_reading o old new err err' ends =
      let (r, is, stops, tells) = ends in
      no_stop _ _ (Refuses o) (no_refusal o) old new r (sym (named r) ∙ ap is_gates is) stops

  no_end : (c : Command) (old new : Streams) (err err' : ErrorStream) → EndsWith c old new err err' b n GateFault → ⊥
  no_end (Read reading) old new err err' ends = no_reading (output_of reading) old new err err' ends
  no_end Batch old new err err' ends = no_reading of_batch old new err err' ends
  no_end (Execute e) old new err err' (inl done) = let bad : GateFault ≡ Done = done.0 in cc
  no_end (Execute e) old new err err' (inr refused) =
      no_execution e old new refused.0 (sym (named refused.0) ∙ sym (ap is_gates refused.1)) refused.2

  no_command : (asked : Option Command) (old new : Streams) (err err' : ErrorStream) (status : Status)
      → (status ≢ NoMemory → ((status ≡ Usage) ↔ (asked ≡ None))) → ((c : Command) → asked ≡ Some c → EndsWith c old new err err' b n status)
      → status ≢ GateFault
  no_command None old new err err' status usage ends is =
      let made : status ≢ NoMemory = (λ wants. let bad : GateFault ≡ NoMemory = sym is ∙ wants in cc) in
      let bad : GateFault ≡ Usage = sym is ∙ (usage made).1 refl in
      cc
  no_command (Some c) old new err err' status usage ends is =
      no_end c old new err err' (subst (λ (x : Status). EndsWith c old new err err' b n x) is (ends c refl))

-- no command ends so
pub no_gate_failed : (words : List (List ℕ)) (b n : Crew) (old new : Streams) (err err' : ErrorStream) (status : Status) → AreSure n
    → (status ≢ NoMemory → ((status ≡ Usage) ↔ (command_of words ≡ None)))
    → ((c : Command) → command_of words ≡ Some c → EndsWith c old new err err' b n status) → status ≢ GateFault
no_gate_failed words b n old new err err' status sure usage ends = no_command b n sure (command_of words) old new err err' status usage ends
