-- What an execution told, and why it stopped, as the clauses of the top call say it.
use Rattle.std.proofs.Common.{◌≡◌, inl, inr, ℕ, Bool, true, false, List, Option, Some, Result, refl, sym, ◌∙◌, ap, subst, arith}
use Rattle.std.proofs.Common.{Ok, Err}
use Rattle.std.specs.Prelude.{OnOk, IfErr}
use Rattle.std.proofs.lemmas.Result.{IfErr-weaker}
use Rattle.std.specs.Io.KnownBytes.{Keeps}
use Rattle.command_words.specs.declared.command.Command.{Command}
use Rattle.command_words.specs.declared.command.Command.TheVariants.{Read, Batch, Execute}
use Rattle.command_words.specs.declared.command.Reading.{Reading}
use Rattle.command_words.specs.declared.command.Execution.{Execution}
use Rattle.command_words.specs.declared.command.Execution.TheVariants.{Exec, ExecMet, Drill, Jobs, Modes}
use Rattle.pure_commands.specs.declared.refusal.Refusal.{Refusal}
use Rattle.pure_commands.specs.declared.refusal.Refusal.TheVariants as why
use Rattle.exit_status.specs.declared.Status.{Status}
use Rattle.exit_status.specs.declared.Status.TheVariants.{Done, NoMemory}
use Rattle.command_words.specs.Words.{command_of, reading_of, execution_of, asks_to_execute, asks_for_batch, asks_for_threads}
use Rattle.pure_commands.specs.Commands.{schedule_rows, of_batch, output_of, set_limit, RefusesText}
use Rattle.pure_commands.specs.Refusals.{status_of, set_status, mode_status}
use Rattle.pure_commands.specs.Refuse.{IsRefused}
use Rattle.pure_commands.proofs.EndLemmas.{keeps_same, is_fault}
use Rattle.task_reader.specs.declared.refusals.ReadSet.{ReadSet}
use Rattle.task_reader.specs.declared.refusals.ReadSet.TheVariants as set
use Rattle.mode_join.specs.declared.faults.ModeKind.{ModeKind}
use Rattle.mode_join.specs.declared.faults.ModeKind.TheVariants as kind
use Rattle.pure_commands.specs.declared.mode_refusal.ModeRefusal.{ModeRefusal}
use Rattle.pure_commands.specs.Ends.{Streams, ErrorStream, IsUnread, IsQuiet, IsTold, StopsAs, Ends}
use Rattle.pure_commands.proofs.StreamLemmas.{streams}
use Rattle.command_words.proofs.WordLemmas.{executes, reads, batches, only_read, only_batch, only_execute}
use Rattle.run_tool.specs.Executions.{Crew, AreBack, NothingRose, usual_window}
use Rattle.run_tool.specs.JobPrograms.{RefusesJobs}
use Rattle.pure_commands.specs.declared.mode_refusal.ModeRefusal.TheVariants as mode
use Rattle.run_tool.specs.ModeRuns.{WritesModesRun, RefusesModesRun}
use Rattle.run_tool.specs.ModeTexts.{RefusesModes}
use Rattle.run_tool.proofs.LoadedLemmas.{rose_loaded}
use Rattle.run_tool.proofs.ExecutionAnswerLemmas.{WritesCalled, IsToldBy, StopsBy, StopsDrill}
use Rattle.run_tool.specs.Commands.{IsToRun, CallsForExecution}
use Rattle.sched_base.specs.Sets.{SetContents}
use Rattle.run_tool.specs.Executed.{WritesJobsRun, RefusesJobsRun}
use Rattle.run_tool.specs.Executed.{WritesRun, RefusesRun, RanDrill, StopsAtDrill, ToldRun, StopsRun, EndsWith, NoneFailed, may_have_called}
use Rattle.run_tool.specs.Executed.{takes_memory_late, may_have_run}

pub back_same : (c : Crew) → AreBack c c
back_same c = record { gates = λ p g at. (g, at, omega arith); jobs = λ i j at. (j, at, refl, omega arith) }

-- how a command that reads ends is how each command does
pub ends_reading : (words : List (List ℕ)) (k : Command) (old new : Streams) (err err' : ErrorStream) (b n : Crew) (status : Status)
    → asks_for_threads words ≡ false → command_of words ≡ Some k
    → ((r : Reading) → command_of words ≡ Some (Read r) → Ends (output_of r) old new err err' status) → EndsWith k old new err err' b n status
ends_reading words k old new err err' b n status asks is ends =
    let (r, own) = only_read (reading_of words) k (sym (reads words asks) ∙ is) in
    subst (λ (x : Command). EndsWith x old new err err' b n status) own (ends r (is ∙ sym (ap Some own)))

-- so is how `batch` ends
pub ends_batch : (words : List (List ℕ)) (k : Command) (old new : Streams) (err err' : ErrorStream) (b n : Crew) (status : Status)
    → asks_for_batch words ≡ true → command_of words ≡ Some k
    → (command_of words ≡ Some Batch → Ends of_batch old new err err' status) → EndsWith k old new err err' b n status
ends_batch words k old new err err' b n status asks is ends =
    let own : k ≡ Batch = only_batch words k (sym (batches words asks) ∙ is) in
    subst (λ (x : Command). EndsWith x old new err err' b n status) (sym own) (ends (is ∙ ap Some own))

-- what was run was called for
weaker_writes : (e : Execution) (met : Bool) (b n : Crew) → ((bytes : List ℕ) (status : Status)
    → (status ≡ Done) × ((s : SetContents) × (scale : ℕ) × IsToRun met bytes s scale) → CallsForExecution e bytes status)
    → (bytes : List ℕ) (status : Status) (text : List ℕ) → WritesRun met b n bytes status text → WritesCalled e bytes status text
weaker_writes e met b n calls bytes status text w = calls bytes status (w.0, (w.1.0, w.1.1, w.1.2))

weaker_results : (b n : Crew) (bytes : List ℕ) (status : Status) (result : List ℕ) → WritesJobsRun b n bytes status result
    → WritesCalled Jobs bytes status result
weaker_results b n bytes status result w = (w.0, (w.1.0, w.1.1, w.1.2, w.1.3))

weaker_modes : (b n : Crew) (bytes : List ℕ) (status : Status) (text : List ℕ) → WritesModesRun b n bytes status text → WritesCalled Modes bytes status text
weaker_modes b n bytes status text w = (w.0, (w.1.0, w.1.1))

-- what was told by the one text was told by the other, where that is so of each
told_as : (Writes Calls : List ℕ → Status → List ℕ → Type 0) → ((bytes : List ℕ) (status : Status) (text : List ℕ) → Writes bytes status text
    → Calls bytes status text) → (old new : Streams) → IsTold set_limit Writes Done old new → IsTold set_limit Calls Done old new
told_as Writes Calls weaker old new t = record { told = (t.told.0, t.told.1, t.told.2, weaker t.told.0 Done t.told.1 t.told.3, t.told.4) }

pub done_is : (e : Execution) (old new : Streams) (b n : Crew) → ToldRun e old new b n → IsToldBy e Done old new
done_is (Exec window) old new b n t =
    told_as (WritesRun false b n) (WritesCalled (Exec window)) (weaker_writes (Exec window) false b n (λ bytes status calls. calls)) old new t
done_is ExecMet old new b n t = told_as (WritesRun true b n) (WritesCalled ExecMet) (weaker_writes ExecMet true b n (λ bytes status calls. calls)) old new t
done_is Jobs old new b n t = told_as (WritesJobsRun b n) (WritesCalled Jobs) (weaker_results b n) old new t
done_is Modes old new b n t = told_as (WritesModesRun b n) (WritesCalled Modes) (weaker_modes b n) old new t
done_is (Drill number) old new b n t = refl

-- where nothing failed, what stopped it is what would stop a trace
weaker_stops : (window : ℕ) (met : Bool) (Calls : List ℕ → Status → List ℕ → Type 0) → ((b n : Crew) (bytes : List ℕ) (status : Status) (text : List ℕ)
    → WritesRun met b n bytes status text → Calls bytes status text) → (old new : Streams) (b n : Crew) (r : Refusal) → NothingRose b n
    → StopsAs set_limit (WritesRun met b n) (RefusesRun window met b n) old new r → StopsAs set_limit Calls (RefusesText (schedule_rows met)) old new r
weaker_stops window met Calls weaker old new b n why.Usage quiet s = s
weaker_stops window met Calls weaker old new b n why.ReadFault quiet s = s
weaker_stops window met Calls weaker old new b n why.WriteFault quiet s = (s.0, s.1, s.2, s.3, weaker b n s.0 s.2 s.1 s.4, s.5, s.6)
weaker_stops window met Calls weaker old new b n why.NoMemory quiet s = s
weaker_stops window met Calls weaker old new b n (why.BadSet q) quiet s = s
weaker_stops window met Calls weaker old new b n (why.BadLine line) quiet s = s
weaker_stops window met Calls weaker old new b n (why.BadProgram line) quiet s = s
weaker_stops window met Calls weaker old new b n (why.BadTree line kind) quiet s = s
weaker_stops window met Calls weaker old new b n (why.OfMode j q) quiet s = s
weaker_stops window met Calls weaker old new b n (why.Overload total room) quiet s = s
weaker_stops window met Calls weaker old new b n (why.ScaleTooLarge task) quiet s = s
weaker_stops window met Calls weaker old new b n (why.TooLong rows) quiet s = s
weaker_stops window met Calls weaker old new b n (why.TooWide ticks) quiet s = s
weaker_stops window met Calls weaker old new b n (why.NoRepeat task) quiet s = s
weaker_stops window met Calls weaker old new b n (why.WideRepeat units) quiet s = s
weaker_stops window met Calls weaker old new b n (why.GateFault row name) quiet s = absurd (quiet.gates row.processor s.2.3.rose)
weaker_stops window met Calls weaker old new b n (why.JobFault row name) quiet s = absurd (quiet.jobs s.2.3.task.0.0 s.2.3.task.2)
weaker_stops window met Calls weaker old new b n (why.InputTooLong count) quiet s = s

-- where nothing failed, a drill stopped for want of memory or at a fault of `out`
drill_stops : (number : ℕ) (old new : Streams) (b n : Crew) (r : Refusal) → NothingRose b n → StopsRun (Drill number) old new b n r
    → StopsDrill old new r
drill_stops number old new b n why.WriteFault quiet s =
    let (unread, stops) = s in
    let (scale, is_scale, took, rose, ran) = stops in
    rose
drill_stops number old new b n why.NoMemory quiet s = tt
drill_stops number old new b n (why.GateFault row name) quiet s =
    let (unread, stops) = s in
    let (fails, keeps) = stops in
    let (scale, is_scale, stopped) = fails in
    let (at, named) = stopped in
    absurd (quiet.gates row.processor at.rose)
drill_stops number old new b n (why.JobFault row name) quiet s =
    let (unread, stops) = s in
    let (fails, keeps) = stops in
    let (scale, is_scale, stopped) = fails in
    let (at, named) = stopped in
    let (task, leaf, rose) = at.task in
    absurd (quiet.jobs task.0 rose)
drill_stops number old new b n _ quiet s = let (unread, stops) = s in absurd stops

-- where nothing failed, what stopped `jobs` is a fault of a stream, want of memory, or a refusal of the bytes
jobs_stops : (old new : Streams) (b n : Crew) (r : Refusal) → NothingRose b n → StopsAs set_limit (WritesJobsRun b n) (RefusesJobsRun b n) old new r
    → StopsAs set_limit (WritesCalled Jobs) RefusesJobs old new r
jobs_stops old new b n why.WriteFault quiet s = (s.0, s.1, s.2, s.3, weaker_results b n s.0 s.2 s.1 s.4, s.5, s.6)
jobs_stops old new b n (why.GateFault row name) quiet s = absurd (quiet.gates row.processor s.2.4.0.rose)
jobs_stops old new b n (why.JobFault row name) quiet s =
    let (text, set, scale, run, stopped) = s.2 in
    let (task, leaf, rose) = stopped.0.task in
    absurd (quiet.jobs task.0 (rose_loaded text scale set.tasks b n task.0 rose))
jobs_stops old new b n _ quiet s = s

-- where nothing failed, what stopped `modes` is a fault of a stream, want of memory, or a refusal of the bytes
modes_stops : (old new : Streams) (b n : Crew) (r : Refusal) → NothingRose b n → StopsAs set_limit (WritesModesRun b n) (RefusesModesRun b n) old new r
    → StopsAs set_limit (WritesCalled Modes) RefusesModes old new r
modes_stops old new b n why.WriteFault quiet s = (s.0, s.1, s.2, s.3, weaker_modes b n s.0 s.2 s.1 s.4, s.5, s.6)
modes_stops old new b n (why.OfMode j (mode.GateFault row name)) quiet s =
    let (m, reads, stops) = s.2 in
    absurd (quiet.gates row.processor stops.rose)
modes_stops old new b n (why.OfMode j (mode.JobFault row name)) quiet s =
    let (m, reads, stops) = s.2 in
    let (task, leaf, rose) = stops.rose in
    absurd (quiet.jobs task.0 rose)
modes_stops old new b n (why.OfMode j (mode.BadSet q)) quiet s = s
modes_stops old new b n (why.OfMode j (mode.NotJoined k)) quiet s = s
modes_stops old new b n _ quiet s = s

pub stop_is : (e : Execution) (old new : Streams) (b n : Crew) (r : Refusal) → NothingRose b n → StopsRun e old new b n r
    → StopsBy e old new r
stop_is (Exec window) old new b n r quiet s =
    weaker_stops window false (WritesCalled (Exec window)) (λ b n. weaker_writes (Exec window) false b n (λ bytes status calls. calls)) old new b n r quiet s
stop_is ExecMet old new b n r quiet s =
    weaker_stops usual_window true (WritesCalled ExecMet) (λ b n. weaker_writes ExecMet true b n (λ bytes status calls. calls)) old new b n r quiet s
stop_is Jobs old new b n r quiet s = jobs_stops old new b n r quiet s.0
stop_is Modes old new b n r quiet s = modes_stops old new b n r quiet s.0
stop_is (Drill number) old new b n r quiet s = drill_stops number old new b n r quiet s

-- where nothing failed that an execution calls, no gate and no job failed
pub none_failed : (asked : Option Command) (e : Execution) (b n : Crew) → Some (Execute e) ≡ asked → NoneFailed asked b n → NothingRose b n
none_failed asked e b n is quiet = subst (λ (a : Option Command). NoneFailed a b n) (sym is) quiet

-- how an execution that was done ends, whatever command the words are
pub ends_done : (e : Execution) (k : Command) (old new : Streams) (err err' : ErrorStream) (b n : Crew) → Execute e ≡ k → ToldRun e old new b n
    → IsQuiet err err' → EndsWith k old new err err' b n Done
ends_done e k old new err err' b n same t quiet =
    subst (λ (x : Command). EndsWith x old new err err' b n Done) same (inl (refl, t, quiet))

-- the same of one that stopped
pub ends_stopped : (e : Execution) (k : Command) (old new : Streams) (err err' : ErrorStream) (b n : Crew) (r : Refusal) (status : Status) → Execute e ≡ k
    → StopsRun e old new b n r → IsRefused r err err' status → EndsWith k old new err err' b n status
ends_stopped e k old new err err' b n r status same s refused =
    subst (λ (x : Command). EndsWith x old new err err' b n status) same
    (inr (r, refused.status_is, s, refused.tells))

-- where the words weren't read for want of memory, nothing was done
unread_stops : (e : Execution) (old new : Streams) (b n : Crew) → IsUnread old new → Keeps old.out new.out → n ≡ b → StopsRun e old new b n why.NoMemory
unread_stops (Exec window) old new b n unread keeps same = keeps
unread_stops ExecMet old new b n unread keeps same = keeps
unread_stops Jobs old new b n unread keeps same = (keeps, inl same)
unread_stops Modes old new b n unread keeps same = (keeps, inl same)
unread_stops (Drill number) old new b n unread keeps same = (unread, (inl same, keeps))

pub ends_unread : (words : List (List ℕ)) (k : Command) (old new : Streams) (err err' : ErrorStream) (b n : Crew) (status : Status)
    → asks_to_execute words ≡ true → command_of words ≡ Some k → IsUnread old new → Keeps old.out new.out → n ≡ b → IsRefused why.NoMemory err err' status
    → EndsWith k old new err err' b n status
ends_unread words k old new err err' b n status asks is unread keeps same refused =
    let (e, own) = only_execute (execution_of words) k (sym (executes words asks) ∙ is) in
    ends_stopped e k old new err err' b n why.NoMemory status own (unread_stops e old new b n unread keeps same) refused

-- the status of a refusal is none of those that a call without a refusal ends with, but for the words that are no command line
set_fault : (q : ReadSet) → is_fault (set_status q) ≡ true
set_fault set.NoMemory = refl
set_fault _ = refl

kind_fault : (k : ModeKind) → is_fault (mode_status (mode.NotJoined k)) ≡ true
kind_fault kind.Processors = refl
kind_fault (kind.Offset task) = refl
kind_fault (kind.Period task) = refl
kind_fault (kind.Overload total room) = refl
kind_fault (kind.TooLong rows) = refl

mode_fault : (m : ModeRefusal) → is_fault (mode_status m) ≡ true
mode_fault (mode.BadSet q) = set_fault q
mode_fault (mode.NotJoined k) = kind_fault k
mode_fault (mode.GateFault row name) = refl
mode_fault (mode.JobFault row name) = refl

no_usage : (e : Execution) (old new : Streams) (b n : Crew) → StopsRun e old new b n why.Usage → ⊥
no_usage (Exec window) old new b n stops = stops
no_usage ExecMet old new b n stops = stops
no_usage Jobs old new b n stops = stops.0
no_usage Modes old new b n stops = stops.0
no_usage (Drill number) old new b n stops = stops.1

pub stopped_fault : (e : Execution) (old new : Streams) (b n : Crew) (r : Refusal) → StopsRun e old new b n r → is_fault (status_of r) ≡ true
stopped_fault e old new b n why.Usage stops = absurd (no_usage e old new b n stops)
stopped_fault e old new b n (why.BadSet q) stops = set_fault q
stopped_fault e old new b n (why.OfMode j m) stops = mode_fault m
stopped_fault e old new b n _ stops = refl

-- a drill that stopped may have run
pub drill_ran : (number : ℕ) (out out' : Option (List ℕ)) (faults faults' : ℕ) (b n : Crew) (r : Refusal) → StopsAtDrill number out out' faults faults' b n r
    → may_have_run (Some (Execute (Drill number))) (status_of r) ≡ true
drill_ran number out out' faults faults' b n why.WriteFault s = refl
drill_ran number out out' faults faults' b n why.NoMemory s = refl
drill_ran number out out' faults faults' b n (why.GateFault row name) s = refl
drill_ran number out out' faults faults' b n (why.JobFault row name) s = refl
drill_ran number out out' faults faults' b n _ s = absurd s

-- what is so where nothing was called is so at the status of a refusal too
pub uncalled_by : {P : Type 0} (asked : Option Command) (e : Execution) (r : Refusal) (err err' : ErrorStream) (status : Status) → Some (Execute e) ≡ asked
    → IsRefused r err err' status → (may_have_run (Some (Execute e)) (status_of r) ≡ false → P) → may_have_run asked status ≡ false → P
uncalled_by asked e r err err' status is_asked refused by quiet = by ((λ i. may_have_run (is_asked i) (sym refused.status_is i)) ∙ quiet)

-- ---- a drill, which reads nothing

pub unread_same : (left : Option (List ℕ)) (faults : ℕ) (out out' : Option (List ℕ)) (out_faults out_faults' : ℕ)
    → IsUnread (streams left faults out out_faults) (streams left faults out' out_faults')
unread_same left faults out out' out_faults out_faults' = record { left = keeps_same left; faults = refl }

pub drill_done_as : {T E : Type 0} (result : Result T E) (number : ℕ) (old new : Streams) (b n : Crew) → IsUnread old new
    → OnOk result (RanDrill number old.out new.out b n) → OnOk result (ToldRun (Drill number) old new b n)
drill_done_as (Ok x) number old new b n unread ran = (unread, ran)
drill_done_as (Err e) number old new b n unread ran = tt

pub drill_stopped_as : {T : Type 0} (result : Result T Refusal) (number : ℕ) (old new : Streams) (b n : Crew) → IsUnread old new
    → IfErr result (StopsAtDrill number old.out new.out old.out_faults new.out_faults b n) → IfErr result (StopsRun (Drill number) old new b n)
drill_stopped_as (Ok x) number old new b n unread stops = tt
drill_stopped_as (Err r) number old new b n unread stops = (unread, stops)

-- ---- an execution that is known

-- an execution that takes all its memory first may have run where a gate or a job may have been called
run_or_called : (e : Execution) (status : Status) → takes_memory_late (Some (Execute e)) ≡ false
    → may_have_run (Some (Execute e)) status ≡ may_have_called status
run_or_called e NoMemory early = early
run_or_called e _ early = refl

pub uncalled_early : {T : Type 0} (P : Type 0) (result : Result T Refusal) (e : Execution) → takes_memory_late (Some (Execute e)) ≡ false
    → IfErr result (λ r. may_have_called (status_of r) ≡ false → P) → IfErr result (λ r. may_have_run (Some (Execute e)) (status_of r) ≡ false → P)
uncalled_early P result e early uncalled = IfErr-weaker result _ _ (λ r by quiet. by (sym (run_or_called e (status_of r) early) ∙ quiet)) uncalled
