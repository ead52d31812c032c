-- What reading a source as a trace text gives.
use Rattle.std.specs.Prelude.{ℕ, ◌≡◌, ◌≤◌, ◌+◌, Bool, true, false, List, [], ◌++◌, length, Ok, Err}
use Rattle.std.specs.declared.option.Option.{Option}
use Rattle.sched_edges.specs.Causes.{Rose}
use Rattle.sched_edges.specs.Streams.{GaveAll, GaveAtMost, GaveCount}
use Rattle.sched_edges.specs.declared.read.TakeFault.TheVariants as take_fault
use Rattle.trace_check.specs.declared.faults.SourceFault.{SourceFault}
use Rattle.trace_check.specs.declared.faults.SourceFault.TheVariants.{Unread, BadLine}
use Rattle.trace_check.specs.declared.faults.TraceFault.{TraceFault}
use Rattle.trace_check.specs.declared.faults.TraceFault.TheVariants as trace_fault
use Rattle.sched_base.specs.declared.sets.Task.{Task}
use Rattle.text_words.specs.Words.{lines_of}
use Rattle.text_window.specs.Windows.{WindowHeld, GaveRest, StopsFilling}
use Rattle.trace_check.specs.declared.head_lines.Head.{Head}
use Rattle.trace_check.specs.declared.reading.Parts.{Parts}
use Rattle.trace_check.specs.declared.source_reading.RowsStop.{RowsStop}
use Rattle.trace_check.specs.Tails.{MayFollow}
use Rattle.trace_check.specs.WholeRows.{RowsEnd}
use Rattle.trace_check.specs.Traces.{Trace}
use Rattle.std.specs.Io.KnownBytes.{Consumes, IsAtEnd}
use Rattle.sched_base.specs.declared.rows.Row.{Row}
use Rattle.trace_check.specs.Reading.{body, reading}

-- a fault of a text as one of its source
abbrev pub of_trace : TraceFault → SourceFault
of_trace (trace_fault.BadLine line) = BadLine line
of_trace trace_fault.NoMemory = Unread take_fault.NoMemory

-- the source gave all its bytes, at most the limit, and they are this trace
abbrev pub GaveTraceText : Option (List ℕ) → Option (List ℕ) → ℕ → Trace → Type 0
GaveTraceText left left' limit t = (bytes : List ℕ) × GaveAll left left' limit bytes × (reading bytes ≡ Ok t)

-- why no trace was read of the source
abbrev pub GaveNoTraceText : Option (List ℕ) → Option (List ℕ) → ℕ → ℕ → ℕ → SourceFault → Type 0
GaveNoTraceText left left' faults faults' limit (Unread take_fault.Read) = Rose faults faults' × GaveAtMost left left' limit
GaveNoTraceText left left' faults faults' limit (Unread (take_fault.TooLong count)) = (count ≡ limit + 1) × GaveCount left left' count
GaveNoTraceText left left' faults faults' limit (Unread take_fault.NoMemory) = Unit {0}
GaveNoTraceText left left' faults faults' limit (BadLine line) = (bytes : List ℕ) × GaveAll left left' limit bytes × (reading bytes ≡ Err line)

-- why the rest of a source wasn't read, from the row lines on
abbrev pub StopsInRest : Option (List ℕ) → Option (List ℕ) → ℕ → ℕ → WindowHeld → Head → List Task → SourceFault → Type 0
StopsInRest left left' faults faults' w h tasks (Unread fault) = StopsFilling left left' faults faults' w fault
StopsInRest left left' faults faults' w h tasks (BadLine line) =
    (more : List ℕ) × GaveRest left left' w more × (body h tasks (lines_of (w.ahead ++ more)) ≡ Err line)

-- the source gave these bytes, within the window's limit; where its end isn't known, the window stands behind them
pub record GaveSome (left left' : Option (List ℕ)) (old new : WindowHeld) (ended : Bool) (more : List ℕ) : Type 0 where
  pub gave : Consumes left left' more
  pub within : old.count + length more ≤ old.limit
  pub at_end : ended ≡ true → IsAtEnd left'
  pub count : ended ≡ false → new.count ≡ old.count + length more
  pub limit : ended ≡ false → new.limit ≡ old.limit

-- the source gave these bytes, which were all it had left: none where it was at its end before, else within the window's limit
pub record GaveLast (left left' : Option (List ℕ)) (ended : Bool) (old : WindowHeld) (more : List ℕ) : Type 0 where
  pub gave : Consumes left left' more
  pub at_end : IsAtEnd left'
  pub none : ended ≡ true → more ≡ []
  pub within : ended ≡ false → old.count + length more ≤ old.limit

-- why the last bytes of a source weren't read
abbrev pub StopsInTail : Option (List ℕ) → Option (List ℕ) → ℕ → ℕ → WindowHeld → Bool → SourceFault → Type 0
StopsInTail left left' faults faults' w ended (Unread take_fault.NoMemory) = Unit {0}
StopsInTail left left' faults faults' w ended (Unread fault) = (ended ≡ false) × StopsFilling left left' faults faults' w fault
StopsInTail left left' faults faults' w ended (BadLine line) = ⊥

-- why no more row lines are taken, whatever may follow the text
abbrev pub RowsStopAt : List Task → List ℕ → List Row → List ℕ → List ℕ → RowsStop → Type 0
RowsStopAt tasks text done sums rest r = (behind : List ℕ) → MayFollow r.ended behind → RowsEnd tasks (text ++ behind) done sums (rest ++ behind) r.stop

-- what a text says, before its rows are judged
abbrev pub trace_of : Parts → Trace
trace_of p = record { set = p.set; scale = p.scale; rows = p.rows }
