-- Where nothing fails, an execution gives the answer for its bytes.
use Rattle.std.proofs.Common.{◌≡◌, inl, inr, ℕ, Bool, true, false, List, Option, Some, None, refl, sym, ◌∙◌, subst}
use Rattle.sched_edges.specs.Causes.{Rose}
use Rattle.sched_base.specs.Sets.{SetContents}
use Rattle.command_words.specs.Words.{command_of, asks_to_execute}
use Rattle.command_words.specs.declared.command.Command.{Command}
use Rattle.command_words.specs.declared.command.Command.TheVariants.{Read, Batch, Execute}
use Rattle.command_words.specs.declared.command.Execution.{Execution}
use Rattle.command_words.specs.declared.command.Execution.TheVariants.{Exec, ExecMet, Drill, Jobs, Modes}
use Rattle.command_words.proofs.WordLemmas.{not_executing}
use Rattle.pure_commands.specs.declared.refusal.Refusal.{Refusal}
use Rattle.pure_commands.specs.declared.refusal.Refusal.TheVariants as why
use Rattle.exit_status.specs.declared.Status.{Status}
use Rattle.exit_status.specs.declared.Status.TheVariants.{Done, NoMemory}
use Rattle.pure_commands.specs.Commands.{schedule_rows, set_limit, text_of, RefusesText}
use Rattle.pure_commands.specs.Refusals.{status_of}
use Rattle.pure_commands.specs.Refuse.{IsRefused}
use Rattle.pure_commands.specs.Ends.{Streams, ErrorStream, IsTold, StopsAs, AnswersAs, IsAnswered}
use Rattle.pure_commands.proofs.AnswerLemmas.{set_writes_or_refuses, one_text_status, unread_answered}
use Rattle.pure_commands.proofs.OneAnswerLemmas.{HaveOneAnswer, wanting_asked, done_asked, stops_asked}
use Rattle.run_tool.specs.Commands.{IsToRun, CallsForExecution, RefusesExecution}
use Rattle.run_tool.specs.Ends.{IsCommandAnswered}
use Rattle.run_tool.proofs.JobTextLemmas.{jobs_or_refused, one_jobs_status}
use Rattle.run_tool.proofs.ModeTextLemmas.{modes_or_refused, one_modes_status}

-- ---- what an execution told, and why it stopped, whatever the gates and the jobs did

-- the bytes called for this status, whatever the text that was written
abbrev pub WritesCalled : Execution → List ℕ → Status → List ℕ → Type 0
WritesCalled e bytes status text = CallsForExecution e bytes status

-- the bytes were read, and called for this status
abbrev pub IsToldBy : Execution → Status → Streams → Streams → Type 0
IsToldBy (Drill number) status old new = status ≡ Done
IsToldBy e status old new = IsTold set_limit (WritesCalled e) status old new

-- why a drill stopped
abbrev pub StopsDrill : Streams → Streams → Refusal → Type 0
StopsDrill old new why.NoMemory = Unit {0}
StopsDrill old new why.WriteFault = Rose old.out_faults new.out_faults
StopsDrill old new _ = ⊥

-- why an execution stopped, where nothing failed that it calls
abbrev pub StopsBy : Execution → Streams → Streams → Refusal → Type 0
StopsBy (Drill number) old new r = StopsDrill old new r
StopsBy e old new r = StopsAs set_limit (WritesCalled e) (RefusesExecution e) old new r

-- ---- one answer

to_run_or_refused : (met : Bool) (bytes : List ℕ) (s : SetContents) (scale : ℕ) (r : Refusal) → IsToRun met bytes s scale
    → RefusesText (schedule_rows met) bytes r → ⊥
to_run_or_refused met bytes s scale r run refuses =
    set_writes_or_refuses (schedule_rows met) bytes (text_of (schedule_rows met) s scale) Done r
    (refl, (s, scale, run.reads, run.fits, run.room, refl)) refuses

told_or_refused : (e : Execution) (bytes : List ℕ) (status : Status) (r : Refusal) → CallsForExecution e bytes status → RefusesExecution e bytes r → ⊥
told_or_refused (Exec window) bytes status r is refuses = let (s, scale, run) = is.1 in to_run_or_refused false bytes s scale r run refuses
told_or_refused ExecMet bytes status r is refuses = let (s, scale, run) = is.1 in to_run_or_refused true bytes s scale r run refuses
told_or_refused Jobs bytes status r is refuses = let (text, s, scale, run) = is.1 in jobs_or_refused bytes text s scale r run refuses
told_or_refused Modes bytes status r is refuses = let (m, reads) = is.1 in modes_or_refused bytes m r reads refuses
told_or_refused (Drill number) bytes status r is refuses = refuses

one_telling : (e : Execution) (bytes : List ℕ) (a b : Status) → CallsForExecution e bytes a → CallsForExecution e bytes b → a ≡ b
one_telling (Exec window) bytes a b x y = x.0 ∙ sym y.0
one_telling ExecMet bytes a b x y = x.0 ∙ sym y.0
one_telling Jobs bytes a b x y = x.0 ∙ sym y.0
one_telling Modes bytes a b x y = x.0 ∙ sym y.0
one_telling (Drill number) bytes a b x y = x ∙ sym y

one_status : (e : Execution) (bytes : List ℕ) (r q : Refusal) → RefusesExecution e bytes r → RefusesExecution e bytes q → status_of r ≡ status_of q
one_status (Exec window) bytes r q a b = one_text_status (schedule_rows false) bytes r q a b
one_status ExecMet bytes r q a b = one_text_status (schedule_rows true) bytes r q a b
one_status Jobs bytes r q a b = one_jobs_status bytes r q a b
one_status Modes bytes r q a b = one_modes_status bytes r q a b
one_status (Drill number) bytes r q a b = absurd a

-- bytes have one answer
one_answer : (e : Execution) → HaveOneAnswer (WritesCalled e) (CallsForExecution e) (RefusesExecution e)
one_answer e = record {
  told_or_refused = told_or_refused e;
  one_telling = one_telling e;
  one_status = one_status e;
  called_for = λ bytes text status calls. calls;
}

-- ---- what answers

done_by : (e : Execution) (status : Status) (old new : Streams) → IsTold set_limit (WritesCalled e) status old new
    → AnswersAs set_limit (CallsForExecution e) (RefusesExecution e) old.left old new status
done_by e status old new told =
    done_asked set_limit (WritesCalled e) (CallsForExecution e) (RefusesExecution e) (one_answer e) status old.left old new refl told

-- an execution that was done answers
done_answers : (e : Execution) (status : Status) (old new : Streams) → IsToldBy e status old new → IsCommandAnswered (Some (Execute e)) old.left old new status
done_answers (Exec window) status old new told = done_by (Exec window) status old new told
done_answers ExecMet status old new told = done_by ExecMet status old new told
done_answers Jobs status old new told = done_by Jobs status old new told
done_answers Modes status old new told = done_by Modes status old new told
done_answers (Drill number) status old new done = λ unwritten. inl done

stops_by : (e : Execution) (old new : Streams) (err err' : ErrorStream) (r : Refusal) (status : Status)
    → StopsAs set_limit (WritesCalled e) (RefusesExecution e) old new r → IsRefused r err err' status
    → AnswersAs set_limit (CallsForExecution e) (RefusesExecution e) old.left old new status
stops_by e old new err err' r status stops told =
    stops_asked set_limit (WritesCalled e) (CallsForExecution e) (RefusesExecution e) (one_answer e) old.left old new err err' r status refl stops told

-- a drill stops for want of memory alone, where nothing fails
drill_wants : (old new : Streams) (r : Refusal) → StopsDrill old new r → ¬ (Rose old.out_faults new.out_faults) → status_of r ≡ NoMemory
drill_wants old new why.NoMemory stops unwritten = refl
drill_wants old new why.WriteFault rose unwritten = absurd (unwritten rose)
drill_wants old new _ stops unwritten = absurd stops

-- so does one that stopped
stops_answers : (e : Execution) (old new : Streams) (err err' : ErrorStream) (r : Refusal) (status : Status) → StopsBy e old new r
    → IsRefused r err err' status → IsCommandAnswered (Some (Execute e)) old.left old new status
stops_answers (Exec window) old new err err' r status stops told = stops_by (Exec window) old new err err' r status stops told
stops_answers ExecMet old new err err' r status stops told = stops_by ExecMet old new err err' r status stops told
stops_answers Jobs old new err err' r status stops told = stops_by Jobs old new err err' r status stops told
stops_answers Modes old new err err' r status stops told = stops_by Modes old new err err' r status stops told
stops_answers (Drill number) old new err err' r status stops told = λ unwritten. inr (told.status_is ∙ drill_wants old new r stops unwritten)

wanting_by : (e : Execution) (left : Option (List ℕ)) (old new : Streams) (status : Status) → status ≡ NoMemory
    → AnswersAs set_limit (CallsForExecution e) (RefusesExecution e) left old new status
wanting_by e left old new status wanting = wanting_asked set_limit (CallsForExecution e) (RefusesExecution e) left old new status wanting

wanting_answers : (e : Execution) (left : Option (List ℕ)) (old new : Streams) (status : Status) → status ≡ NoMemory → IsCommandAnswered (Some (Execute e))
    left old new status
wanting_answers (Exec window) left old new status wanting = wanting_by (Exec window) left old new status wanting
wanting_answers ExecMet left old new status wanting = wanting_by ExecMet left old new status wanting
wanting_answers Jobs left old new status wanting = wanting_by Jobs left old new status wanting
wanting_answers Modes left old new status wanting = wanting_by Modes left old new status wanting
wanting_answers (Drill number) left old new status wanting = λ unwritten. inr wanting

-- ---- of the command that was asked for

asked_answers : (asked : Option Command) (e : Execution) (left : Option (List ℕ)) (old new : Streams) (status : Status) → Some (Execute e) ≡ asked
    → IsCommandAnswered (Some (Execute e)) left old new status → IsCommandAnswered asked left old new status
asked_answers asked e left old new status is answers = subst (λ (a : Option Command). IsCommandAnswered a left old new status) is answers

pub done_answered : (asked : Option Command) (e : Execution) (status : Status) (old new : Streams) → Some (Execute e) ≡ asked → IsToldBy e status old new
    → IsCommandAnswered asked old.left old new status
done_answered asked e status old new is told = asked_answers asked e old.left old new status is (done_answers e status old new told)

pub stops_answered : (asked : Option Command) (e : Execution) (old new : Streams) (err err' : ErrorStream) (r : Refusal) (status : Status)
    → Some (Execute e) ≡ asked → StopsBy e old new r → IsRefused r err err' status → IsCommandAnswered asked old.left old new status
stops_answered asked e old new err err' r status is stops told =
    asked_answers asked e old.left old new status is (stops_answers e old new err err' r status stops told)

-- where there was no memory to read the words, that is told
pub wanting_answered : (asked : Option Command) (left : Option (List ℕ)) (old new : Streams) (err err' : ErrorStream) (status : Status)
    → IsRefused why.NoMemory err err' status → IsCommandAnswered asked left old new status
wanting_answered None left old new err err' status told = tt
wanting_answered (Some (Read reading)) left old new err err' status told =
    unread_answered (Some (Read reading)) left old new err err' status told
wanting_answered (Some Batch) left old new err err' status told = unread_answered (Some Batch) left old new err err' status told
wanting_answered (Some (Execute e)) left old new err err' status told = wanting_answers e left old new status told.status_is

-- words that are no command line ask for no answer
pub none_asked : (asked : Option Command) (left : Option (List ℕ)) (old new : Streams) (status : Status) → asked ≡ None
    → IsCommandAnswered asked left old new status
none_asked asked left old new status none = subst (λ (a : Option Command). IsCommandAnswered a left old new status) (sym none) tt

-- a command that executes nothing answers as each command does
still_by : (words : List (List ℕ)) (asked : Option Command) (left : Option (List ℕ)) (old new : Streams) (status : Status) → command_of words ≡ asked
    → asks_to_execute words ≡ false → IsAnswered asked left old new status → IsCommandAnswered asked left old new status
still_by words None left old new status is asks answered = answered
still_by words (Some (Read reading)) left old new status is asks answered = answered
still_by words (Some Batch) left old new status is asks answered = answered
still_by words (Some (Execute e)) left old new status is asks answered = absurd (not_executing words e asks is)

pub still_answered : (words : List (List ℕ)) (left : Option (List ℕ)) (old new : Streams) (status : Status) → asks_to_execute words ≡ false
    → IsAnswered (command_of words) left old new status → IsCommandAnswered (command_of words) left old new status
still_answered words left old new status asks answered = still_by words (command_of words) left old new status refl asks answered
