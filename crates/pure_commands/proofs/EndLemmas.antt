-- How a call that stopped ends, and one that told all.
use Rattle.std.proofs.Common.{◌≡◌, ◌⊎◌, inl, inr, Bool, true, false, List, ℕ, Option, Some, None, refl, sym, ap, subst, ◌∙◌}
use Rattle.std.specs.Io.KnownBytes.{Keeps}
use Rattle.command_words.specs.declared.command.Command.{Command}
use Rattle.command_words.specs.declared.command.Command.TheVariants.{Read}
use Rattle.command_words.specs.declared.command.Reading.{Reading}
use Rattle.command_words.specs.declared.command.Reading.TheVariants.{Rate, Tree, Trace, TraceMet, TraceWrap, TraceRepeat, Table, TableRepeat, Check}
use Rattle.command_words.specs.declared.command.Reading.TheVariants.{Follow, Draw}
use Rattle.mode_join.specs.declared.faults.ModeKind.{ModeKind}
use Rattle.mode_join.specs.declared.faults.ModeKind.TheVariants as kind
use Rattle.task_reader.specs.declared.refusals.ReadSet.{ReadSet}
use Rattle.task_reader.specs.declared.refusals.ReadSet.TheVariants as set
use Rattle.trace_check.specs.Traces.{Trace as TraceRead}
use Rattle.pure_commands.specs.declared.mode_refusal.ModeRefusal.{ModeRefusal}
use Rattle.pure_commands.specs.declared.mode_refusal.ModeRefusal.TheVariants as mode
use Rattle.pure_commands.specs.declared.refusal.Refusal.{Refusal}
use Rattle.pure_commands.specs.declared.refusal.Refusal.TheVariants as why
use Rattle.exit_status.specs.declared.Status.{Status}
use Rattle.exit_status.specs.declared.Status.TheVariants.{Done, Invalid, Usage}
use Rattle.pure_commands.specs.Checks.{TellsTrace}
use Rattle.pure_commands.specs.Commands.{Output, of_set, of_trace, of_picture, of_tree, of_batch, output_of, Writes}
use Rattle.pure_commands.specs.Ends.{Streams, ErrorStream, IsQuiet, IsUnread, IsDone, Stops, Ends, IsAnswered}
use Rattle.pure_commands.specs.Refusals.{set_status, mode_status, status_of}
use Rattle.pure_commands.specs.Refuse.{IsRefused}

pub keeps_same : (o : Option (List ℕ)) → Keeps o o
keeps_same None = tt
keeps_same (Some bytes) = refl

-- nothing was written to `err`
pub quiet_same : (err : ErrorStream) → IsQuiet err err
quiet_same err = record { taken = keeps_same err.taken; faults = refl }

-- nothing was read
pub unread_same : (old new : Streams) → new ≡ old → IsUnread old new
unread_same old new same = subst (λ (s : Streams). IsUnread old s) (sym same) (record { left = keeps_same old.left; faults = refl })

-- ---- a call that stopped

-- a status of a refusal, but for that of words that are no command line
abbrev pub is_fault : Status → Bool
is_fault Done = false
is_fault Invalid = false
is_fault Usage = false
is_fault _ = true

set_fault : (q : ReadSet) → is_fault (set_status q) ≡ true
set_fault set.NoMemory = refl
set_fault _ = refl

kind_fault : (k : ModeKind) → is_fault (mode_status (mode.NotJoined k)) ≡ true
kind_fault kind.Processors = refl
kind_fault (kind.Offset task) = refl
kind_fault (kind.Period task) = refl
kind_fault (kind.Overload total room) = refl
kind_fault (kind.TooLong rows) = refl

mode_fault : (m : ModeRefusal) → is_fault (mode_status m) ≡ true
mode_fault (mode.BadSet q) = set_fault q
mode_fault (mode.NotJoined k) = kind_fault k
mode_fault (mode.GateFault row name) = refl
mode_fault (mode.JobFault row name) = refl

fault_or_usage : (r : Refusal) → (r ≡ why.Usage) ⊎ (is_fault (status_of r) ≡ true)
fault_or_usage why.Usage = inl refl
fault_or_usage (why.BadSet q) = inr (set_fault q)
fault_or_usage (why.OfMode j m) = inr (mode_fault m)
fault_or_usage _ = inr refl

-- what stops a command has a status of its own
pub stopped_fault : (o : Output) (old new : Streams) (err err' : ErrorStream) (r : Refusal) (status : Status) → Stops o old new r
    → IsRefused r err err' status → is_fault status ≡ true
stopped_fault o old new err err' r status stops told =
    let fault : is_fault (status_of r) ≡ true = elim (fault_or_usage r) [
      | inl usage ↦ absurd (subst (λ (q : Refusal). Stops o old new q) usage stops)
      | inr is ↦ is
    ] in
    ap is_fault told.status_is ∙ fault

-- which is none of the other three
pub not_fault : (x status : Status) → is_fault x ≡ false → is_fault status ≡ true → status ≡ x → ⊥
not_fault x status plain fault e = let bad : false ≡ true = sym plain ∙ (sym (ap is_fault e) ∙ fault) in cc

ends_by : (o : Output) (old new : Streams) (err err' : ErrorStream) (r : Refusal) (status : Status) → is_fault status ≡ true → Stops o old new r
    → IsRefused r err err' status → Ends o old new err err' status
ends_by o old new err err' r Done fault stops told = absurd (let bad : false ≡ true = fault in cc)
ends_by o old new err err' r Invalid fault stops told = absurd (let bad : false ≡ true = fault in cc)
ends_by o old new err err' r _ fault stops told = (r, sym told.status_is, stops, told.tells)

-- so it ends for its reason
pub stopped_ends : (o : Output) (old new : Streams) (err err' : ErrorStream) (r : Refusal) (status : Status) → Stops o old new r
    → IsRefused r err err' status → Ends o old new err err' status
stopped_ends o old new err err' r status stops told =
    ends_by o old new err err' r status (stopped_fault o old new err err' r status stops told) stops told

-- ---- a call that told all

told_of_trace : (t : TraceRead) (text : List ℕ) (status : Status) → TellsTrace t status text → (status ≡ Done) ⊎ (status ≡ Invalid)
told_of_trace t text Done told = inl refl
told_of_trace t text Invalid told = inr refl
told_of_trace t text _ told = absurd told

told_with : (o : Output) (bytes text : List ℕ) (status : Status) → Writes o bytes status text → (status ≡ Done) ⊎ (status ≡ Invalid)
told_with (of_set what) bytes text status writes = inl writes.0
told_with of_trace bytes text status writes = told_of_trace writes.0 text status writes.2
told_with (of_picture asked) bytes text status writes = inl writes.0
told_with of_tree bytes text status writes = inl writes.0
told_with of_batch bytes text status writes = inl writes.0

-- it ends with its text
pub told_ends : (o : Output) (status : Status) (old new : Streams) (err : ErrorStream) → IsDone o status old new → Ends o old new err err status
told_ends o status old new err done = elim (told_with o done.told.0 done.told.1 status done.told.3) [
  | inl is ↦ subst (λ (x : Status). Ends o old new err err x) (sym is) (subst (λ (x : Status). IsDone o x old new) is done, quiet_same err)
  | inr is ↦ subst (λ (x : Status). Ends o old new err err x) (sym is) (subst (λ (x : Status). IsDone o x old new) is done, quiet_same err)
]

pub told_no_usage : (o : Output) (status : Status) (old new : Streams) → IsDone o status old new → status ≡ Usage → ⊥
told_no_usage o status old new done e = elim (told_with o done.told.0 done.told.1 status done.told.3) [
  | inl is ↦ let bad : Done ≡ Usage = sym is ∙ e in cc
  | inr is ↦ let bad : Invalid ≡ Usage = sym is ∙ e in cc
]

not_both : (status : Status) → status ≡ Done → status ≡ Invalid → ⊥
not_both status done invalid = let bad : Done ≡ Invalid = sym done ∙ invalid in cc

-- only `check` tells that a trace isn't valid
pub told_invalid : (reading : Reading) (status : Status) (old new : Streams) → IsDone (output_of reading) status old new → status ≡ Invalid
    → reading ≡ Check
told_invalid Check status old new done e = refl
told_invalid Rate status old new done e = absurd (not_both status done.told.3.0 e)
told_invalid Tree status old new done e = absurd (not_both status done.told.3.0 e)
told_invalid Trace status old new done e = absurd (not_both status done.told.3.0 e)
told_invalid TraceMet status old new done e = absurd (not_both status done.told.3.0 e)
told_invalid TraceWrap status old new done e = absurd (not_both status done.told.3.0 e)
told_invalid TraceRepeat status old new done e = absurd (not_both status done.told.3.0 e)
told_invalid Table status old new done e = absurd (not_both status done.told.3.0 e)
told_invalid TableRepeat status old new done e = absurd (not_both status done.told.3.0 e)
told_invalid Follow status old new done e = absurd (not_both status done.told.3.0 e)
told_invalid (Draw asked) status old new done e = absurd (not_both status done.told.3.0 e)

-- words that are no command line ask for no answer
pub none_answered : (asked : Option Command) (left : Option (List ℕ)) (old new : Streams) (status : Status) → asked ≡ None
    → IsAnswered asked left old new status
none_answered None left old new status none = tt
none_answered (Some c) left old new status none = absurd (let bad : ◌≡◌ {A = Option Command} (Some c) None = none in cc)

-- a command that was asked for was asked for
pub no_none : (asked : Option Command) (c : Command) → asked ≡ Some c → asked ≡ None → ⊥
no_none asked c some none = let bad : ◌≡◌ {A = Option Command} (Some c) None = sym some ∙ none in cc

-- the command that reads and that was asked for is this one
pub asked_ends : (reading r : Reading) (old new : Streams) (err err' : ErrorStream) (status : Status) → ◌≡◌ {A = Option Command} (Some (Read reading))
    (Some (Read r))
    → Ends (output_of reading) old new err err' status → Ends (output_of r) old new err err' status
asked_ends reading r old new err err' status e ends =
    let same : reading ≡ r = cc in
    subst (λ (x : Reading). Ends (output_of x) old new err err' status) same ends

-- what `check` told of a trace that isn't valid
pub invalid_told : (reading : Reading) (old new : Streams) (err err' : ErrorStream) (status : Status) → status ≡ Invalid → reading ≡ Check
    → Ends (output_of reading) old new err err' status → IsDone of_trace Invalid old new
invalid_told reading old new err err' status is check ends =
    let here : Ends (output_of reading) old new err err' Invalid = subst (λ (x : Status). Ends (output_of reading) old new err err' x) is ends in
    subst (λ (x : Reading). IsDone (output_of x) Invalid old new) check here.0
