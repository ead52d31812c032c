-- The parts of a command that reads a set: reading it, and writing its text.
use Rattle.std.specs.Prelude.{◌≡◌, ℕ, ◌+◌, List, Ok, Err}
use Rattle.std.specs.declared.option.Option.{Option}
use Rattle.std.specs.Io.KnownBytes.{Appends, Keeps}
use Rattle.sched_base.specs.Sets.{SetContents}
use Rattle.sched_edges.specs.Causes.{Rose}
use Rattle.sched_edges.specs.Streams.{GaveAll, GaveAtMost, GaveCount, TookPart}
use Rattle.task_reader.specs.Reading.{set_read_from}
use Rattle.trace_check.specs.Traces.{Trace}
use Rattle.trace_check.specs.Reading.{reading}
use Rattle.pure_commands.specs.declared.refusal.Refusal.{Refusal}
use Rattle.pure_commands.specs.declared.refusal.Refusal.TheVariants.{ReadFault, WriteFault, NoMemory, BadSet, BadLine, TooLong}
use Rattle.pure_commands.specs.declared.refusal.Refusal.TheVariants.{InputTooLong, TooWide, NoRepeat, WideRepeat}
pub use Rattle.pure_commands.specs.SetTexts.{IsSchedulable, IsTooLongSet, IsTooWideSet, LacksRepeat}
use Rattle.repeat_laws.specs.Repeats.{up_to}
use Rattle.pure_commands.specs.SetTexts.{SetText, text_of, HasRoom, IsUnfit, IsUnrepeated, Repeats}

-- the source gave all its bytes, at most the limit, and they are this set
pub record GaveSet (left left' : Option (List ℕ)) (limit : ℕ) (s : SetContents) : Type 0 where
  pub gave : (bytes : List ℕ) × GaveAll left left' limit bytes × (set_read_from bytes ≡ Ok s)

-- why no set was read
abbrev pub GaveNoSet : Option (List ℕ) → Option (List ℕ) → ℕ → ℕ → ℕ → Refusal → Type 0
GaveNoSet left left' faults faults' limit ReadFault = Rose faults faults' × GaveAtMost left left' limit
GaveNoSet left left' faults faults' limit NoMemory = Unit {0}
GaveNoSet left left' faults faults' limit (InputTooLong count) = (count ≡ limit + 1) × GaveCount left left' count
GaveNoSet left left' faults faults' limit (BadSet refusal) = (bytes : List ℕ) × GaveAll left left' limit bytes × (set_read_from bytes ≡ Err refusal)
GaveNoSet left left' faults faults' limit _ = ⊥

-- the source gave all its bytes, at most the limit, and they are this trace
pub record GaveTrace (left left' : Option (List ℕ)) (limit : ℕ) (t : Trace) : Type 0 where
  pub gave : (bytes : List ℕ) × GaveAll left left' limit bytes × (reading bytes ≡ Ok t)

-- why no trace was read
abbrev pub GaveNoTrace : Option (List ℕ) → Option (List ℕ) → ℕ → ℕ → ℕ → Refusal → Type 0
GaveNoTrace left left' faults faults' limit ReadFault = Rose faults faults' × GaveAtMost left left' limit
GaveNoTrace left left' faults faults' limit NoMemory = Unit {0}
GaveNoTrace left left' faults faults' limit (InputTooLong count) = (count ≡ limit + 1) × GaveCount left left' count
GaveNoTrace left left' faults faults' limit (BadLine line) = (bytes : List ℕ) × GaveAll left left' limit bytes × (reading bytes ≡ Err line)
GaveNoTrace left left' faults faults' limit _ = ⊥

-- why a set isn't told of at all
abbrev pub IsRefusedSet : SetContents → Refusal → Type 0
IsRefusedSet s NoMemory = Unit {0}
IsRefusedSet s refusal = IsUnfit s refusal

-- why a set's text wasn't written, or not all of it
abbrev pub StopsAtSet : SetText → Option (List ℕ) → Option (List ℕ) → ℕ → ℕ → SetContents → Refusal → Type 0
StopsAtSet what out out' faults faults' s WriteFault =
    (scale : ℕ) × IsSchedulable s scale × HasRoom what s scale × TookPart out out' (text_of what s scale) × Rose faults faults'
StopsAtSet what out out' faults faults' s (TooLong rows) = IsTooLongSet what s rows × Keeps out out'
StopsAtSet what out out' faults faults' s (TooWide ticks) = IsTooWideSet what s ticks × Keeps out out'
StopsAtSet what out out' faults faults' s (NoRepeat task) = LacksRepeat what s (NoRepeat task) × Keeps out out'
StopsAtSet what out out' faults faults' s (WideRepeat units) = LacksRepeat what s (WideRepeat units) × Keeps out out'
StopsAtSet what out out' faults faults' s refusal = IsRefusedSet s refusal × Keeps out out'

-- a set's text was written
abbrev pub WroteSet : SetText → Option (List ℕ) → Option (List ℕ) → SetContents → Type 0
WroteSet what out out' s = (scale : ℕ) × IsSchedulable s scale × HasRoom what s scale × Appends out out' (text_of what s scale)

-- the set fits, its schedule repeats, and this is the set up to the least horizon at which it does
pub record IsRepeating (s again : SetContents) : Type 0 where
  pub is : (scale : ℕ) × IsSchedulable s scale × Repeats s scale × (again ≡ up_to scale s)

-- why there is no such set
abbrev pub IsNotRepeating : SetContents → Refusal → Type 0
IsNotRepeating s (NoRepeat task) = IsUnrepeated s (NoRepeat task)
IsNotRepeating s (WideRepeat units) = IsUnrepeated s (WideRepeat units)
IsNotRepeating s refusal = IsRefusedSet s refusal
