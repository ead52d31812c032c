-- What `modes` writes, and which bytes it refuses and why.
use Rattle.std.specs.Prelude.{ℕ, ◌≡◌, ◌<◌, List, [], ◌∷◌, ◌++◌, Some, Ok, Err, codes, decimal, slice_get}
use Rattle.std.specs.List.{AllByRecursion, AllZip}
use Rattle.sched_base.specs.Sets.{SetContents}
use Rattle.sched_edges.specs.Lines.{line_of}
use Rattle.task_reader.specs.declared.refusals.ReadSet.{ReadSet}
use Rattle.task_reader.specs.Pieces.{pieces_of}
use Rattle.task_reader.specs.Reading.{set_read_from}
use Rattle.mode_join.specs.declared.mode.Mode.{Mode}
use Rattle.mode_join.specs.Joining.{CanBeJoined, IsFirstFlaw}
use Rattle.mode_join.specs.Modes.{ModesContents, AreModes, PeriodsEndIn, sets_of}
use Rattle.trace_format.specs.declared.versions.Version.TheVariants.{One}
use Rattle.pure_commands.specs.declared.mode_refusal.ModeRefusal.TheVariants as mode
use Rattle.pure_commands.specs.declared.refusal.Refusal.{Refusal}
use Rattle.pure_commands.specs.declared.refusal.Refusal.TheVariants.{OfMode}
use Rattle.pure_commands.specs.SetTexts.{schedule_text}

-- ---- what is read

-- the pieces of the bytes are these sets, one each
abbrev pub ReadsSets : List ℕ → List SetContents → Type 0
ReadsSets bytes sets = AllZip (λ piece s. set_read_from piece ≡ Ok s) (pieces_of bytes) sets

-- the bytes are sets that can follow each other, and these are their modes. No period of a mode crosses its end
pub record ReadsModes (bytes : List ℕ) (m : ModesContents) : Type 0 where
  pub read : ReadsSets bytes (sets_of m.modes)
  pub joined : CanBeJoined (sets_of m.modes)
  pub lawful : AreModes m
  pub no_crossing : AllByRecursion PeriodsEndIn m.modes

-- ---- what is written

-- what is written of mode j: its number, its start and its horizon in units, and the trace text of its schedule, whose tasks are all
-- released at its start
abbrev pub mode_part : ℕ → Mode → List ℕ
mode_part j m = line_of (codes "mode") (decimal j ∷ decimal m.start ∷ decimal m.plan.set.horizon ∷ []) ++ schedule_text One m.plan

-- ---- what is refused

-- piece j is the first that is no set, for this reason
pub record IsFirstBad (bytes : List ℕ) (j : ℕ) (refusal : ReadSet) : Type 0 where
  pub bad : (piece : List ℕ) × (slice_get (pieces_of bytes) j ≡ Some piece) × (set_read_from piece ≡ Err refusal)
  pub lowest : (i : ℕ) (piece : List ℕ) → i < j → slice_get (pieces_of bytes) i ≡ Some piece → (s : SetContents) × (set_read_from piece ≡ Ok s)

-- these bytes are refused where sets are wanted that can be modes: piece j is the first that is no set; or all are sets, and that one is
-- the first that can't be a mode
abbrev pub RefusesModes : List ℕ → Refusal → Type 0
RefusesModes bytes (OfMode j (mode.BadSet refusal)) = IsFirstBad bytes j refusal
RefusesModes bytes (OfMode j (mode.NotJoined kind)) = (sets : List SetContents) × ReadsSets bytes sets × IsFirstFlaw sets j kind
RefusesModes bytes _ = ⊥
