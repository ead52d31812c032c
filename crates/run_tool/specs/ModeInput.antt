-- The parts of `modes`: reading sets that can be modes, and writing what was run.
use Rattle.std.specs.Prelude.{◌≡◌, ℕ, ◌+◌, List, Err}
use Rattle.std.specs.declared.option.Option.{Option}
use Rattle.sched_edges.specs.Causes.{Rose}
use Rattle.sched_edges.specs.Streams.{GaveAll, GaveAtMost, GaveCount}
use Rattle.task_reader.specs.Reading.{set_read_from}
use Rattle.mode_join.specs.Modes.{ModesContents}
use Rattle.pure_commands.specs.declared.mode_refusal.ModeRefusal.TheVariants as mode
use Rattle.pure_commands.specs.declared.refusal.Refusal.{Refusal}
use Rattle.pure_commands.specs.declared.refusal.Refusal.TheVariants as why
use Rattle.run_tool.specs.ModeTexts.{ReadsModes, RefusesModes, IsFirstBad}

-- the bytes of piece j are no set, or memory was refused
abbrev pub RefusesPiece : ℕ → List ℕ → Refusal → Type 0
RefusesPiece j piece (why.OfMode k (mode.BadSet refusal)) = (k ≡ j) × (set_read_from piece ≡ Err refusal)
RefusesPiece j piece why.NoMemory = Unit {0}
RefusesPiece j piece _ = ⊥

-- some piece of the bytes is no set, and this is the first; or memory was refused
abbrev pub RefusesPieces : List ℕ → Refusal → Type 0
RefusesPieces bytes (why.OfMode j (mode.BadSet refusal)) = IsFirstBad bytes j refusal
RefusesPieces bytes why.NoMemory = Unit {0}
RefusesPieces bytes _ = ⊥

-- the source gave all its bytes, at most the limit, and they are sets of these modes
pub record GaveModes (left left' : Option (List ℕ)) (limit : ℕ) (m : ModesContents) : Type 0 where
  pub gave : (bytes : List ℕ) × GaveAll left left' limit bytes × ReadsModes bytes m

-- why no modes were read
abbrev pub GaveNoModes : Option (List ℕ) → Option (List ℕ) → ℕ → ℕ → ℕ → Refusal → Type 0
GaveNoModes left left' faults faults' limit why.ReadFault = Rose faults faults' × GaveAtMost left left' limit
GaveNoModes left left' faults faults' limit why.NoMemory = Unit {0}
GaveNoModes left left' faults faults' limit (why.InputTooLong count) = (count ≡ limit + 1) × GaveCount left left' count
GaveNoModes left left' faults faults' limit (why.OfMode j refusal) =
    (bytes : List ℕ) × GaveAll left left' limit bytes × RefusesModes bytes (why.OfMode j refusal)
GaveNoModes left left' faults faults' limit _ = ⊥
