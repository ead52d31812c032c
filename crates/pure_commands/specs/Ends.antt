-- How a call of a command that executes nothing ends: what was read, what was written, and why.
use Rattle.std.specs.Prelude.{◌≡◌, ◌⊎◌, ℕ, ◌+◌, ◌≤◌, ◌<◌, List, length, Some, None}
use Rattle.std.specs.declared.option.Option.{Option}
use Rattle.std.specs.Io.KnownBytes.{Appends, Keeps}
use Rattle.sched_edges.specs.Causes.{Rose}
use Rattle.sched_edges.specs.declared.streams.Source.{Ghosts as SourceTells}
use Rattle.sched_edges.specs.declared.streams.Sink.{Ghosts as SinkTells}
use Rattle.sched_edges.specs.Streams.{GaveAll, GaveAtMost, GaveCount, TookPart}
use Rattle.command_words.specs.declared.command.Command.{Command}
use Rattle.command_words.specs.declared.command.Command.TheVariants.{Read, Batch}
use Rattle.pure_commands.specs.declared.refusal.Refusal.{Refusal}
use Rattle.pure_commands.specs.declared.refusal.Refusal.TheVariants as why
use Rattle.exit_status.specs.declared.Status.{Status}
use Rattle.exit_status.specs.declared.Status.TheVariants.{Done, Invalid, Usage, ReadFault, WriteFault, NoMemory, GateFault, JobFault, InputTooLong}
use Rattle.sched_base.specs.Sets.{SetContents}
use Rattle.sched_base.specs.Scale.{Fits}
use Rattle.pure_commands.specs.Commands.{SetText, Output, of_set, of_tree, of_batch, output_of, limit_of, ReadsSet, HasRoom, Writes, CallsFor, Refuses, IsSound}
use Rattle.pure_commands.specs.Commands.{set_limit}
use Rattle.pure_commands.specs.SetTexts.{WritesSoundly}
use Rattle.pure_commands.specs.Follow.{WritesFollowed}
use Rattle.pure_commands.specs.Refusals.{status_of, refusal_line}

-- the source and `out` at one moment; content is None where a stream doesn't tell it
pub record Streams : Type 0 where
  -- the bytes that the source has still to give
  pub left : Option (List ℕ)
  pub read_faults : ℕ
  -- the bytes that `out` took
  pub out : Option (List ℕ)
  pub out_faults : ℕ

-- what a source and a sink tell
abbrev pub streams_of : {R W : Type 0} → SourceTells R → SinkTells W → R → W → Streams
streams_of source_tells out_tells source out = record {
  left = source_tells.left source;
  read_faults = source_tells.faults source;
  out = out_tells.taken out;
  out_faults = out_tells.faults out;
}

-- what contracts see of `err`
pub record ErrorStream : Type 0 where
  pub taken : Option (List ℕ)
  pub faults : ℕ

-- what the sink tells
abbrev pub error_of : {E : Type 0} → SinkTells E → E → ErrorStream
error_of tells err = record { taken = tells.taken err; faults = tells.faults err }

-- nothing was read, and the source didn't fail
pub record IsUnread (old new : Streams) : Type 0 where
  pub left : Keeps old.left new.left
  pub faults : new.read_faults ≡ old.read_faults

-- nothing was written to `err`
pub record IsQuiet (old new : ErrorStream) : Type 0 where
  pub taken : Keeps old.taken new.taken
  pub faults : new.faults ≡ old.faults

-- `err` took this line, or a first part of it where it failed; whether it failed changes nothing else
pub record Tells (old new : ErrorStream) (line : List ℕ) : Type 0 where
  pub told : Appends old.taken new.taken line ⊎ (TookPart old.taken new.taken line × Rose old.faults new.faults)

-- the source was read to its end, and `out` took the whole text that is written for its bytes with this status
pub record IsTold (limit : ℕ) (Writes : List ℕ → Status → List ℕ → Type 0) (status : Status) (old new : Streams) : Type 0 where
  pub told : (bytes text : List ℕ) × GaveAll old.left new.left limit bytes × Writes bytes status text × Appends old.out new.out text

-- why a text wasn't written, or not all of it, and what `out` took
abbrev pub StopsAs : ℕ → (List ℕ → Status → List ℕ → Type 0) → (List ℕ → Refusal → Type 0) → Streams → Streams → Refusal → Type 0
StopsAs limit Writes Refuses old new why.Usage = ⊥
StopsAs limit Writes Refuses old new why.ReadFault =
    Rose old.read_faults new.read_faults × GaveAtMost old.left new.left limit × Keeps old.out new.out
StopsAs limit Writes Refuses old new (why.InputTooLong count) = (count ≡ limit + 1) × GaveCount old.left new.left count × Keeps old.out new.out
StopsAs limit Writes Refuses old new why.NoMemory = Keeps old.out new.out
StopsAs limit Writes Refuses old new why.WriteFault =
    (bytes text : List ℕ) × (status : Status) × GaveAll old.left new.left limit bytes × Writes bytes status text
    × TookPart old.out new.out text × Rose old.out_faults new.out_faults
StopsAs limit Writes Refuses old new refusal =
    (bytes : List ℕ) × GaveAll old.left new.left limit bytes × Refuses bytes refusal × Keeps old.out new.out

-- all was told that there is to tell, with this status: `out` took the whole text
abbrev pub IsDone : Output → Status → Streams → Streams → Type 0
IsDone output status old new = IsTold (limit_of output) (Writes output) status old new

-- the same, and what the text tells of a set or of a tree is sound
abbrev pub IsDoneSoundly : Output → Status → Streams → Streams → Type 0
IsDoneSoundly (of_set what) status old new = IsTold set_limit (WritesSoundly what) status old new
IsDoneSoundly of_tree status old new = IsTold set_limit WritesFollowed status old new
IsDoneSoundly output status old new = IsDone output status old new

-- why a command that tells this stopped, and what `out` took of its text
abbrev pub Stops : Output → Streams → Streams → Refusal → Type 0
Stops output old new refusal = StopsAs (limit_of output) (Writes output) (Refuses output) old new refusal

-- what is told of each set that fits and has this text is sound
abbrev pub IsAlwaysSound : SetText → Type 0
IsAlwaysSound what = (bytes : List ℕ) (s : SetContents) (scale : ℕ) → ReadsSet bytes s scale → Fits scale s → HasRoom what s scale → IsSound what s scale

-- how a command that tells this ends with this status, and what `err` took
abbrev pub Ends : Output → Streams → Streams → ErrorStream → ErrorStream → Status → Type 0
Ends output old new err err' Done = IsDone output Done old new × IsQuiet err err'
Ends output old new err err' Invalid = IsDone output Invalid old new × IsQuiet err err'
Ends output old new err err' status =
    (refusal : Refusal) × (status_of refusal ≡ status) × Stops output old new refusal × Tells err err' (refusal_line refusal)

-- words that are no command line: nothing was read or written, and `err` took the line that says so, or that there was no memory to
-- read the words
pub record IsUsage (old new : Streams) (err err' : ErrorStream) (status : Status) : Type 0 where
  pub unread : IsUnread old new
  pub out : Keeps old.out new.out
  pub out_faults : new.out_faults ≡ old.out_faults
  pub line : ((status ≡ Usage) × Tells err err' (refusal_line why.Usage)) ⊎ ((status ≡ NoMemory) × Tells err err' (refusal_line why.NoMemory))

-- the answer for these bytes, where nothing fails and memory is there: the status that they call for, or the one with which they are refused
abbrev pub IsAnswerAs : ℕ → (List ℕ → Status → Type 0) → (List ℕ → Refusal → Type 0) → List ℕ → Status → Type 0
IsAnswerAs limit CallsFor Refuses bytes Done = (length bytes ≤ limit) × CallsFor bytes Done
IsAnswerAs limit CallsFor Refuses bytes Invalid = (length bytes ≤ limit) × CallsFor bytes Invalid
IsAnswerAs limit CallsFor Refuses bytes InputTooLong = limit < length bytes
IsAnswerAs limit CallsFor Refuses bytes Usage = ⊥
IsAnswerAs limit CallsFor Refuses bytes ReadFault = ⊥
IsAnswerAs limit CallsFor Refuses bytes WriteFault = ⊥
IsAnswerAs limit CallsFor Refuses bytes NoMemory = ⊥
IsAnswerAs limit CallsFor Refuses bytes GateFault = ⊥
IsAnswerAs limit CallsFor Refuses bytes JobFault = ⊥
IsAnswerAs limit CallsFor Refuses bytes status =
    (length bytes ≤ limit) × ((refusal : Refusal) × (status_of refusal ≡ status) × Refuses bytes refusal)

-- where the source tells its bytes and nothing fails, their answer is given, or memory was refused
abbrev pub AnswersAs : ℕ → (List ℕ → Status → Type 0) → (List ℕ → Refusal → Type 0) → Option (List ℕ) → Streams → Streams → Status → Type 0
AnswersAs limit CallsFor Refuses None old new status = Unit {0}
AnswersAs limit CallsFor Refuses (Some bytes) old new status =
    ¬ (Rose old.read_faults new.read_faults) → ¬ (Rose old.out_faults new.out_faults) →
    (answer : Status) → IsAnswerAs limit CallsFor Refuses bytes answer → (status ≡ answer) ⊎ (status ≡ NoMemory)

-- the answer of a command that tells this
abbrev pub IsAnswer : Output → List ℕ → Status → Type 0
IsAnswer output bytes status = IsAnswerAs (limit_of output) (CallsFor output) (Refuses output) bytes status

-- a command that tells this answers its bytes
abbrev pub Answers : Output → Option (List ℕ) → Streams → Streams → Status → Type 0
Answers output left old new status = AnswersAs (limit_of output) (CallsFor output) (Refuses output) left old new status

-- the command that was asked for, if one was that executes nothing, answers
abbrev pub IsAnswered : Option Command → Option (List ℕ) → Streams → Streams → Status → Type 0
IsAnswered (Some (Read reading)) left old new status = Answers (output_of reading) left old new status
IsAnswered (Some Batch) left old new status = Answers of_batch left old new status
IsAnswered _ left old new status = Unit {0}
