-- What is drawn of a trace: its picture, with the verdict on its rows, over the window that is shown.
use Rattle.std.specs.Prelude.{ℕ, ◌≡◌, List}
use Rattle.trace_verdict.specs.declared.faults.Verdict.{Verdict}
use Rattle.trace_verdict.specs.Faults.{IsVerdict}
use Rattle.trace_check.specs.Traces.{Trace}
use Rattle.command_words.specs.declared.asking.Asked.{Asked}
use Rattle.trace_draw.specs.ShownUnits.{shown_window}
use Rattle.trace_draw.specs.Picture.{picture}

-- the text is the picture of the trace where this is asked
abbrev pub IsDrawing : Trace → Asked → List ℕ → Type 0
IsDrawing t a text = (v : Verdict) × IsVerdict t.set t.scale t.rows v × (text ≡ picture t (shown_window t a) v)
