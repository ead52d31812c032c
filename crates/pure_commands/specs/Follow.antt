-- What `follow` writes of a tree text, and which bytes it refuses and why.
use Rattle.std.specs.Prelude.{◌≡◌, ℕ, ◌+◌, ◌*◌, ◌≤◌, List, Ok, Err}
use Rattle.std.specs.declared.option.Option.{Option}
use Rattle.std.specs.Io.KnownBytes.{Appends, Keeps}
use Rattle.sched_base.specs.Tables.{row_limit}
use Rattle.sched_base.specs.Valid.{IsValid}
use Rattle.sched_edges.specs.Causes.{Rose}
use Rattle.sched_edges.specs.Streams.{GaveAll, GaveAtMost, GaveCount, TookPart}
use Rattle.run_tree.specs.Plans.{PlanContents, schedule_of}
use Rattle.run_tree.specs.TreeOfSet.{IsTreeOf}
use Rattle.trace_format.specs.declared.versions.Version.TheVariants.{One}
use Rattle.tree_check.specs.Written.{Written}
use Rattle.tree_check.specs.Faults.{IsFirstFault}
use Rattle.tree_check.specs.TextTree.{text_tree, IsTextOfTree}
use Rattle.tree_reader.specs.Reading.{reading}
use Rattle.pure_commands.specs.declared.refusal.Refusal.{Refusal}
use Rattle.pure_commands.specs.declared.refusal.Refusal.TheVariants.{ReadFault, WriteFault, NoMemory, BadLine, BadTree, TooLong, InputTooLong}
use Rattle.pure_commands.specs.SetTexts.{HasTooMany, rows_of, schedule_text}
use Rattle.exit_status.specs.declared.Status.{Status}
use Rattle.exit_status.specs.declared.Status.TheVariants.{Done}

-- ---- what is written

-- the plan of a tree text: its set with its own tree, whatever rule packed it
abbrev pub plan_told : Written → PlanContents
plan_told w = record { set = w.set; tree = text_tree w }

-- the bytes are this text, which is that of a reduction tree of its set
pub record ReadsTree (bytes : List ℕ) (w : Written) : Type 0 where
  pub read : reading bytes ≡ Ok w
  pub is_text : IsTextOfTree w

-- the text of the schedule of a tree text, which is that of a reduction tree: it has at most 2,097,152 rows, and no task is released late
abbrev pub TellsPlan : Written → List ℕ → Type 0
TellsPlan w text = IsTextOfTree w × (rows_of (plan_told w) ≤ row_limit) × (text ≡ schedule_text One (plan_told w))

-- ---- what is refused

-- why a text that is read isn't followed: this is its first fault, or it is that of a tree, and the schedule is too long
abbrev pub RefusesPlan : Written → Refusal → Type 0
RefusesPlan w (BadTree line kind) = IsFirstFault w line kind
RefusesPlan w (TooLong rows) = IsTextOfTree w × HasTooMany (rows_of (plan_told w)) w.set.processors rows
RefusesPlan w _ = ⊥

-- these bytes are refused: they are no tree text, and this line is the first at fault, or their text isn't followed
abbrev pub RefusesFollow : List ℕ → Refusal → Type 0
RefusesFollow bytes (BadLine line) = reading bytes ≡ Err line
RefusesFollow bytes refusal = (w : Written) × (reading bytes ≡ Ok w) × RefusesPlan w refusal

-- ---- what is sound

-- what is followed is a reduction tree of the text's set, and its schedule is valid
pub record IsFollowed (w : Written) : Type 0 where
  pub tree : IsTreeOf w.set (text_tree w)
  pub valid : IsValid w.set w.scale (w.set.horizon * w.scale) (w.set.horizon * w.scale) (schedule_of (plan_told w))

-- each tree text that is read without a fault has a valid schedule
abbrev pub FollowsTrees : Type 0
FollowsTrees = (bytes : List ℕ) (w : Written) → ReadsTree bytes w → IsFollowed w

-- `follow` writes this text, and what it followed is a reduction tree with a valid schedule
abbrev pub WritesFollowed : List ℕ → Status → List ℕ → Type 0
WritesFollowed bytes status text = (status ≡ Done) × ((w : Written) × (reading bytes ≡ Ok w) × TellsPlan w text × IsFollowed w)

-- ---- the parts: reading the text, and writing its schedule

-- the source gave all its bytes, at most the limit, and they are this tree text
pub record GaveTree (left left' : Option (List ℕ)) (limit : ℕ) (w : Written) : Type 0 where
  pub gave : (bytes : List ℕ) × GaveAll left left' limit bytes × (reading bytes ≡ Ok w)

-- why no tree text was read
abbrev pub GaveNoTree : Option (List ℕ) → Option (List ℕ) → ℕ → ℕ → ℕ → Refusal → Type 0
GaveNoTree left left' faults faults' limit ReadFault = Rose faults faults' × GaveAtMost left left' limit
GaveNoTree left left' faults faults' limit NoMemory = Unit {0}
GaveNoTree left left' faults faults' limit (InputTooLong count) = (count ≡ limit + 1) × GaveCount left left' count
GaveNoTree left left' faults faults' limit (BadLine line) = (bytes : List ℕ) × GaveAll left left' limit bytes × (reading bytes ≡ Err line)
GaveNoTree left left' faults faults' limit _ = ⊥

-- the schedule of a tree text was written
abbrev pub WrotePlan : Option (List ℕ) → Option (List ℕ) → Written → Type 0
WrotePlan out out' w = (text : List ℕ) × TellsPlan w text × Appends out out' text

-- why it wasn't, or not all of it
abbrev pub StopsAtPlan : Option (List ℕ) → Option (List ℕ) → ℕ → ℕ → Written → Refusal → Type 0
StopsAtPlan out out' faults faults' w WriteFault = (text : List ℕ) × TellsPlan w text × TookPart out out' text × Rose faults faults'
StopsAtPlan out out' faults faults' w NoMemory = Keeps out out'
StopsAtPlan out out' faults faults' w refusal = RefusesPlan w refusal × Keeps out out'
