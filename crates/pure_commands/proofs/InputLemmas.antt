-- What reading a source as a trace text gives, as a command tells it.
use Rattle.std.proofs.Common.{ℕ, List, Option}
use Rattle.sched_edges.specs.declared.read.TakeFault.TheVariants as take_fault
use Rattle.trace_check.specs.declared.faults.SourceFault.{SourceFault}
use Rattle.trace_check.specs.declared.faults.SourceFault.TheVariants.{Unread, BadLine}
use Rattle.trace_check.specs.Sources.{GaveTraceText, GaveNoTraceText}
use Rattle.trace_check.specs.Traces.{Trace}
use Rattle.pure_commands.specs.Faults.{of_read_source}
use Rattle.pure_commands.specs.Input.{GaveTrace, GaveNoTrace}

pub trace_given : (left left' : Option (List ℕ)) (limit : ℕ) (t : Trace) → GaveTraceText left left' limit t → GaveTrace left left' limit t
trace_given left left' limit t gave = record { gave = gave }

pub no_trace_given : (left left' : Option (List ℕ)) (faults faults' limit : ℕ) (fault : SourceFault) → GaveNoTraceText left left' faults faults' limit fault
    → GaveNoTrace left left' faults faults' limit (of_read_source fault)
no_trace_given left left' faults faults' limit (Unread take_fault.Read) none = none
no_trace_given left left' faults faults' limit (Unread (take_fault.TooLong count)) none = none
no_trace_given left left' faults faults' limit (Unread take_fault.NoMemory) none = tt
no_trace_given left left' faults faults' limit (BadLine line) none = none
