-- A command that reads a trace: what was told of it, and why it stopped, said of the bytes.
use Rattle.std.proofs.Common.{ℕ, List}
use Rattle.std.specs.Io.KnownBytes.{Appends, Keeps}
use Rattle.trace_check.specs.Traces.{Trace}
use Rattle.pure_commands.specs.declared.refusal.Refusal.{Refusal}
use Rattle.pure_commands.specs.declared.refusal.Refusal.TheVariants as why
use Rattle.exit_status.specs.declared.Status.{Status}
use Rattle.pure_commands.specs.Commands.{trace_limit, of_trace, Writes}
use Rattle.pure_commands.specs.Checks.{TellsTrace, RefusesTrace, StopsAtTrace}
use Rattle.pure_commands.specs.Ends.{Streams, IsTold, StopsAs}
use Rattle.pure_commands.specs.Input.{GaveTrace, GaveNoTrace}

-- what is told of a trace was told
pub verdict_told : (old new : Streams) (t : Trace) (status : Status) → GaveTrace old.left new.left trace_limit t
    → (text : List ℕ) × TellsTrace t status text × Appends old.out new.out text → IsTold trace_limit (Writes of_trace) status old new
verdict_told old new t status gave told =
    let (bytes, all, read) = gave.gave in
    let (text, tells, took) = told in
    record { told = (bytes, text, all, (t, read, tells), took) }

-- why it wasn't
pub verdict_stopped : (old new : Streams) (t : Trace) (r : Refusal) → GaveTrace old.left new.left trace_limit t
    → StopsAtTrace old.out new.out old.out_faults new.out_faults t r → StopsAs trace_limit (Writes of_trace) RefusesTrace old new r
verdict_stopped old new t why.WriteFault gave stops =
    let (bytes, all, read) = gave.gave in
    let (text, status, tells, took, rose) = stops in
    (bytes, text, status, all, (t, read, tells), took, rose)
verdict_stopped old new t _ gave stops = absurd stops

-- why no trace was read
pub trace_unread : (Told : List ℕ → Status → List ℕ → Type 0) (old new : Streams) (r : Refusal)
    → GaveNoTrace old.left new.left old.read_faults new.read_faults trace_limit r → Keeps old.out new.out → StopsAs trace_limit Told RefusesTrace old new r
trace_unread Told old new why.ReadFault none keeps = (none.0, none.1, keeps)
trace_unread Told old new why.NoMemory none keeps = keeps
trace_unread Told old new (why.InputTooLong count) none keeps = (none.0, none.1, keeps)
trace_unread Told old new (why.BadLine line) none keeps = let (bytes, all, bad) = none in (bytes, all, bad, keeps)
trace_unread Told old new _ none keeps = absurd none
