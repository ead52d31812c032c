-- The lines of refusals.
use Rattle.std.specs.Prelude.{ℕ, nat_le, ◌&&◌, if◌then◌else◌, List, [], ◌∷◌, ◌++◌, Option, Some, None, map, codes, decimal}
use Rattle.std.specs.Fmt.{signed_decimal}
use Rattle.sched_base.specs.Bytes.{hyphen, space}
use Rattle.sched_base.specs.declared.rows.Row.{Row}
use Rattle.sched_edges.specs.Lines.{line_of}
use Rattle.task_reader.specs.declared.refusals.Place.{Place}
use Rattle.task_reader.specs.declared.refusals.Place.TheVariants as place
use Rattle.task_reader.specs.declared.refusals.ReadSet.{ReadSet}
use Rattle.task_reader.specs.declared.refusals.ReadSet.TheVariants as set
use Rattle.task_reader.specs.Keys.{key_text}
use Rattle.mode_join.specs.declared.faults.ModeKind.TheVariants as kind
use Rattle.tree_check.specs.declared.faults.TreeKind.{TreeKind}
use Rattle.tree_check.specs.declared.faults.TreeKind.TheVariants.{Total, Unplaced, Member, Rate, Pair, Unfinished}
use Rattle.pure_commands.specs.declared.refusal.Refusal.{Refusal}
use Rattle.pure_commands.specs.declared.refusal.Refusal.TheVariants.{Usage, ReadFault, WriteFault, NoMemory, BadSet, BadLine, Overload, ScaleTooLarge}
use Rattle.pure_commands.specs.declared.refusal.Refusal.TheVariants.{TooLong, GateFault, JobFault, InputTooLong, BadProgram, BadTree, OfMode, TooWide}
use Rattle.pure_commands.specs.declared.refusal.Refusal.TheVariants.{NoRepeat, WideRepeat}
use Rattle.pure_commands.specs.declared.mode_refusal.ModeRefusal.{ModeRefusal}
use Rattle.pure_commands.specs.declared.mode_refusal.ModeRefusal.TheVariants as mode
use Rattle.exit_status.specs.declared.Status.{Status}
use Rattle.exit_status.specs.declared.Status.TheVariants as status
use Rattle.exit_status.specs.Status.{code_of}

-- the status of bytes that are no set
abbrev pub set_status : ReadSet → Status
set_status set.NoMemory = status.NoMemory
set_status _ = status.BadInput

-- the status with which the refusal of a mode ends the call
abbrev pub mode_status : ModeRefusal → Status
mode_status (mode.BadSet refusal) = set_status refusal
mode_status (mode.NotJoined (kind.Overload total room)) = status.Overload
mode_status (mode.NotJoined (kind.TooLong rows)) = status.TooLong
mode_status (mode.NotJoined _) = status.ModeFault
mode_status (mode.GateFault row name) = status.GateFault
mode_status (mode.JobFault row name) = status.JobFault

-- the status with which a refusal ends the call
abbrev pub status_of : Refusal → Status
status_of Usage = status.Usage
status_of ReadFault = status.ReadFault
status_of WriteFault = status.WriteFault
status_of NoMemory = status.NoMemory
status_of (BadSet refusal) = set_status refusal
status_of (BadLine line) = status.BadInput
status_of (BadProgram line) = status.BadInput
status_of (Overload total room) = status.Overload
status_of (ScaleTooLarge task) = status.ScaleTooLarge
status_of (TooLong rows) = status.TooLong
status_of (GateFault row name) = status.GateFault
status_of (JobFault row name) = status.JobFault
status_of (InputTooLong count) = status.InputTooLong
status_of (BadTree line kind) = status.BadTree
status_of (TooWide ticks) = status.TooWide
status_of (NoRepeat task) = status.TooWide
status_of (WideRepeat units) = status.TooWide
status_of (OfMode j refusal) = mode_status refusal

-- a byte of an unknown key as it is printed: `?` for one that isn't from 33 to 126
abbrev pub printed_byte : ℕ → ℕ
printed_byte b = if nat_le 33 b && nat_le b 126 then b else 63

-- `top`, or `task` and its index
abbrev pub place_words : Place → List (List ℕ)
place_words place.Top = codes "top" ∷ []
place_words (place.Task i) = codes "task" ∷ decimal i ∷ []

-- the words that tell of a place, and one more
abbrev pub place_and : Place → List ℕ → List (List ℕ)
place_and place.Top word = codes "top" ∷ word ∷ []
place_and (place.Task i) word = codes "task" ∷ decimal i ∷ word ∷ []

-- why bytes are no set
abbrev pub set_words : ReadSet → List (List ℕ)
set_words set.NotToml = codes "NotToml" ∷ []
set_words (set.UnknownKey p key) = codes "UnknownKey" ∷ place_and p (map printed_byte key)
set_words (set.Missing p key) = codes "Missing" ∷ place_and p (key_text key)
set_words (set.WrongKind p key) = codes "WrongKind" ∷ place_and p (key_text key)
set_words (set.BadProcessors value) = codes "BadProcessors" ∷ signed_decimal value ∷ []
set_words (set.BadHorizon value) = codes "BadHorizon" ∷ signed_decimal value ∷ []
set_words (set.TooManyTasks count) = codes "TooManyTasks" ∷ decimal count ∷ []
set_words (set.BadName index) = codes "BadName" ∷ decimal index ∷ []
set_words (set.SameName index) = codes "SameName" ∷ decimal index ∷ []
set_words (set.BadPeriod index) = codes "BadPeriod" ∷ decimal index ∷ []
set_words (set.BadWork index) = codes "BadWork" ∷ decimal index ∷ []
set_words (set.BadOffset index) = codes "BadOffset" ∷ decimal index ∷ []
set_words set.NoMemory = codes "NoMemory" ∷ []

-- the name of a row's task as it is printed, `-` where the row is of no task
abbrev pub printed_name : Option (List ℕ) → List ℕ
printed_name (Some name) = name
printed_name None = hyphen ∷ []

-- what is wrong at a line of a tree text, as it is printed
abbrev pub tree_kind_text : TreeKind → List ℕ
tree_kind_text Total = codes "total"
tree_kind_text Unplaced = codes "unplaced"
tree_kind_text Member = codes "member"
tree_kind_text Rate = codes "rate"
tree_kind_text Pair = codes "pair"
tree_kind_text Unfinished = codes "unfinished"

-- the tasks ask for more than the processors have
abbrev pub overload_words : ℕ → ℕ → List (List ℕ)
overload_words total room = codes "Overload" ∷ codes "total" ∷ decimal total ∷ codes "room" ∷ decimal room ∷ []

-- a schedule has too many rows
abbrev pub rows_words : ℕ → List (List ℕ)
rows_words rows = codes "TooLong" ∷ codes "rows" ∷ decimal rows ∷ []

-- a gate failed at a row, of the task of this name
abbrev pub gate_words : Row → Option (List ℕ) → List (List ℕ)
gate_words row name =
    codes "GateFault" ∷ codes "processor" ∷ decimal row.processor ∷ codes "row" ∷ decimal row.start ∷ decimal row.end
    ∷ printed_name name ∷ []

-- the job of this name failed at a row
abbrev pub job_words : Row → Option (List ℕ) → List (List ℕ)
job_words row name =
    codes "JobFault" ∷ codes "task" ∷ printed_name name ∷ codes "processor" ∷ decimal row.processor ∷ codes "row" ∷ decimal row.start
    ∷ decimal row.end ∷ []

-- why a mode wasn't done
abbrev pub mode_words : ModeRefusal → List (List ℕ)
mode_words (mode.BadSet refusal) = set_words refusal
mode_words (mode.NotJoined kind.Processors) = codes "Mode" ∷ codes "processors" ∷ []
mode_words (mode.NotJoined (kind.Offset task)) = codes "Mode" ∷ codes "offset" ∷ decimal task ∷ []
mode_words (mode.NotJoined (kind.Period task)) = codes "Mode" ∷ codes "period" ∷ decimal task ∷ []
mode_words (mode.NotJoined (kind.Overload total room)) = overload_words total room
mode_words (mode.NotJoined (kind.TooLong rows)) = rows_words rows
mode_words (mode.GateFault row name) = gate_words row name
mode_words (mode.JobFault row name) = job_words row name

-- why a command wasn't done
abbrev pub refusal_words : Refusal → List (List ℕ)
refusal_words Usage = codes "Usage" ∷ []
refusal_words ReadFault = codes "ReadFault" ∷ []
refusal_words WriteFault = codes "WriteFault" ∷ []
refusal_words NoMemory = codes "NoMemory" ∷ []
refusal_words (BadSet refusal) = set_words refusal
refusal_words (BadLine line) = codes "BadLine" ∷ decimal line ∷ []
refusal_words (BadProgram line) = codes "BadProgram" ∷ decimal line ∷ []
refusal_words (Overload total room) = overload_words total room
refusal_words (ScaleTooLarge task) = codes "ScaleTooLarge" ∷ codes "task" ∷ decimal task ∷ []
refusal_words (TooLong rows) = rows_words rows
refusal_words (GateFault row name) = gate_words row name
refusal_words (JobFault row name) = job_words row name
refusal_words (InputTooLong count) = codes "InputTooLong" ∷ decimal count ∷ []
refusal_words (BadTree line kind) = codes "BadTree" ∷ codes "line" ∷ decimal line ∷ tree_kind_text kind ∷ []
refusal_words (TooWide ticks) = codes "TooWide" ∷ codes "ticks" ∷ decimal ticks ∷ []
refusal_words (NoRepeat task) = codes "NoRepeat" ∷ codes "offset" ∷ decimal task ∷ []
refusal_words (WideRepeat units) = codes "NoRepeat" ∷ codes "units" ∷ decimal units ∷ []
refusal_words (OfMode j refusal) = mode_words refusal

-- `set`, the number of a set of several, and a space
abbrev pub set_start : ℕ → List ℕ
set_start j = codes "set" ++ (space ∷ (decimal j ++ space ∷ []))

-- what stands before the line of a refusal: which mode it is of, where it is of one
abbrev pub line_start : Refusal → List ℕ
line_start (OfMode j refusal) = set_start j
line_start _ = []

-- the line of a refusal: `refused`, the status, and why
unfoldable pub refusal_line : Refusal → List ℕ
refusal_line refusal = line_start refusal ++ line_of (codes "refused") (decimal (code_of (status_of refusal)) ∷ refusal_words refusal)

-- the line of a refusal of a mode, behind its number
unfoldable pub mode_line : ModeRefusal → List ℕ
mode_line refusal = line_of (codes "refused") (decimal (code_of (mode_status refusal)) ∷ mode_words refusal)

-- what a line has of a place
abbrev pub place_text : Place → List ℕ
place_text place.Top = space ∷ codes "top"
place_text (place.Task i) = space ∷ (codes "task" ++ (space ∷ decimal i))

-- what stands before an unknown key in its line
abbrev pub key_start : Place → List ℕ
key_start p = ((codes "refused" ++ (space ∷ (decimal (code_of status.BadInput) ++ (space ∷ codes "UnknownKey")))) ++ place_text p) ++ space ∷ []
