-- What `check` tells of a trace.
use Rattle.std.specs.Prelude.{ℕ, ◌≡◌, List, [], ◌∷◌, codes, decimal, Ok, Err}
use Rattle.std.specs.declared.option.Option.{Option}
use Rattle.sched_edges.specs.Causes.{Rose}
use Rattle.sched_edges.specs.Lines.{line_of}
use Rattle.sched_edges.specs.Streams.{TookPart}
use Rattle.trace_verdict.specs.declared.faults.FaultKind.{FaultKind}
use Rattle.trace_verdict.specs.declared.faults.Verdict.TheVariants.{Fault}
use Rattle.trace_verdict.specs.Faults.{IsVerdict}
use Rattle.trace_check.specs.Traces.{Trace}
use Rattle.trace_check.specs.Reading.{reading}
use Rattle.trace_draw.specs.Head.{kind_text}
use Rattle.stat_report.specs.Report.{IsValidTrace}
use Rattle.stat_report.specs.Text.{report_text}
use Rattle.pure_commands.specs.declared.refusal.Refusal.{Refusal}
use Rattle.pure_commands.specs.declared.refusal.Refusal.TheVariants.{BadLine, WriteFault}
use Rattle.exit_status.specs.declared.Status.{Status}
use Rattle.exit_status.specs.declared.Status.TheVariants.{Done, Invalid}

-- this text is written of a trace, with this status: the report of a valid one, of another the line that tells where its first fault is,
-- and of which kind
abbrev pub TellsTrace : Trace → Status → List ℕ → Type 0
TellsTrace t Done text = IsValidTrace t × (text ≡ report_text t.set t.scale t.rows)
TellsTrace t Invalid text =
    ¬ (IsValidTrace t)
    × ((line : ℕ) × (kind : FaultKind) × IsVerdict t.set t.scale t.rows (Fault line kind)
    × (text ≡ line_of (codes "invalid") (codes "line" ∷ decimal line ∷ kind_text kind ∷ [])))
TellsTrace t _ text = ⊥

-- the bytes are a trace whose rows are a valid schedule of its set, or are not
abbrev pub Judges : List ℕ → Status → Type 0
Judges bytes Done = (t : Trace) × (reading bytes ≡ Ok t) × IsValidTrace t
Judges bytes Invalid = (t : Trace) × (reading bytes ≡ Ok t) × ¬ (IsValidTrace t)
Judges bytes _ = ⊥

-- the bytes are no trace: this line is the first at fault
abbrev pub RefusesTrace : List ℕ → Refusal → Type 0
RefusesTrace bytes (BadLine line) = reading bytes ≡ Err line
RefusesTrace bytes _ = ⊥

-- why what is told of a trace wasn't written whole: `out` failed, after a first part
abbrev pub StopsAtTrace : Option (List ℕ) → Option (List ℕ) → ℕ → ℕ → Trace → Refusal → Type 0
StopsAtTrace out out' faults faults' t WriteFault =
    (text : List ℕ) × (status : Status) × TellsTrace t status text × TookPart out out' text × Rose faults faults'
StopsAtTrace out out' faults faults' t _ = ⊥
